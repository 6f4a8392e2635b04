-- What a burst answers, and what it writes into lent memory (document 02, A1 and A7).
use Rattle.std.specs.Prelude.{ℕ, ◌*◌, ◌/◌, ◌≡◌, cond, not, ◌&&◌, length, take, drop, replicate}
use mathlib.Core.List.{List, [], ◌++◌, map, flatten}
use Rattle.radio_telegram.specs.Frame.{frame_of}
use Rattle.collector_model.specs.Answer.{Kept}
use Rattle.collector_model.specs.View.{View}
use Rattle.collector_model.specs.Acceptable.{acceptable}
use Rattle.collector_model.specs.Burst.{Replied, taken, burst_of}
use Rattle.collector_burst.specs.Records.{columns_after_all}
use Rattle.c_layout.specs.Frame.{wrong_size}
use Rattle.c_collector.specs.State.{Arrays, columns_at, state_at, numbers_of}
use Rattle.c_burst.specs.Bytes.{receptions_in, reply_length, reply_bytes, is_sized}

-- the number, every byte of the list of replies, and the next state
pub record BurstCall : Type 0 where
  pub number : ℕ
  pub replies : List ℕ
  pub next : View

-- an entry of the list of replies before a burst. A burst does not read it.
abbrev pub any_place : Replied
any_place = record { answer = Kept; sent = frame_of [] }

-- the bytes of the list of replies: a reply for each of n receptions, and after them what was there before
abbrev pub replies_with : ℕ → List Replied → List ℕ → List ℕ
replies_with n replies old = flatten (map reply_bytes (take n replies)) ++ drop (reply_length * n) old

-- 11 first; then 255 if there is not one record for each time; else what `burst_of` says. The list of replies has as
-- many entries as whole replies fit into its bytes.
unfoldable pub burst_call : ℕ → View → List ℕ → List ℕ → List ℕ → BurstCall
burst_call setting v moments records old =
    cond (acceptable v && not (is_sized (length moments) (length records)))
    (record { number = wrong_size; replies = old; next = v })
    (let rs = receptions_in moments records in
    let b = burst_of setting v rs (replicate (length old / reply_length) any_place) in
    let n = length (taken b.number rs) in
    record { number = b.number; replies = replies_with n b.replies old; next = b.next })

-- what a burst does with every number of the five arrays
pub record Bursts (s : Arrays) (setting : ℕ) (moments records old : List ℕ) (number : ℕ) (s' : Arrays)
    (new : List ℕ) : Type 0 where
  pub result : record { number = number; replies = new; next = state_at s' }
      ≡ burst_call setting (state_at s) moments records old
  pub counted : number ≡ 0 → s'.numbers ≡ numbers_of (burst_call setting (state_at s) moments records old).next
  pub elements : columns_at s' ≡ columns_after_all (state_at s) (taken number (receptions_in moments records)) (columns_at s)
  -- if the number is not 0, every number of the five arrays is unchanged
  pub stays : (number ≡ 0 → ⊥) → s' ≡ s
