-- One reception (document 01, "Merging"): the answer, the next state with its numbers of copies (document 02, A8), and
-- the telegram to send (A7: a call of its own).
use Rattle.std.specs.Prelude.{ℕ, ◌+◌, ◌-◌, ◌^◌, Bool, cond, not, List, [], ◌∷◌, ◌++◌, leb, ltb, length}
use Rattle.base_lists.specs.Lists.{any}
use Rattle.base_refusal.specs.Number.{number_of}
use Rattle.base_refusal.specs.declared.Refusal.TheVariants as refusal
use Rattle.radio_erp1.specs.Subtelegram.{check_of, is_valid}
use Rattle.radio_telegram.specs.declared.frame.Frame.{Frame}
use Rattle.radio_telegram.specs.Frame.{frame_of}
use Rattle.radio_telegram.specs.Repeater.{repeat_of}
use Rattle.collector_model.specs.declared.Totals.{Totals}
use Rattle.collector_model.specs.Answer.{Shown, Kept, Copy, Loose, Refused, is_kept, is_copy, is_loose, is_damaged, is_late, is_received, is_accepted}
use Rattle.collector_model.specs.View.{Reception, Entry, View, opened, recount, capacity, capped, still_open}
use Rattle.collector_model.specs.Acceptable.{is_copy_of, acceptable}

-- "received is 2^64 - 1": the most that a total holds
abbrev pub max_count : ℕ
max_count = 2 ^ 64 - 1

-- "same telegram open"
abbrev pub is_known : View → Reception → Bool
is_known v r = any (λ e. is_copy_of e r) (still_open r.time v)

-- "64 telegrams open"
abbrev pub is_crowded : View → Reception → Bool
is_crowded v r = leb capacity (length (still_open r.time v))

-- the answer: 11 first, then the first that fits
unfoldable pub classify : View → Reception → Shown
classify v r =
    cond (not (acceptable v)) (Refused (number_of refusal.NotAccepted))
    (cond (leb max_count v.totals.received) (Refused (number_of refusal.Full))
    (cond (not (is_valid r.bytes)) (Refused (check_of r.bytes))
    (cond (ltb r.time v.latest) (Refused (number_of refusal.Late))
    (cond (is_known v r) Copy
    (cond (is_crowded v r) Loose
    Kept)))))

-- n, or one more if a test passes
abbrev pub plus_if : Bool → ℕ → ℕ
plus_if b n = cond b (n + 1) n

-- the totals after one more answer
abbrev pub tally : Shown → Totals → Totals
tally a n = record {
  received = plus_if (is_received a) n.received;
  kept = plus_if (is_kept a) n.kept;
  copies = plus_if (is_copy a) n.copies;
  loose = plus_if (is_loose a) n.loose;
  damaged = plus_if (is_damaged a) n.damaged;
  late = plus_if (is_late a) n.late;
}

-- entries after the number of copies of one of them is changed by `more`: the last entry that passes a test
abbrev pub credit : (ℕ → ℕ) → (Entry → Bool) → List Entry → List Entry
credit more q [] = []
credit more q (e ∷ l) = cond (any q l) (e ∷ credit more q l) (cond (q e) (recount more e ∷ l) (e ∷ l))

-- the entries after an answer. An accepted reception drops closed telegrams. A Kept reception opens a telegram. "Every
-- COPY .. belongs to the latest opening" (document 02, A6).
abbrev pub entries_after : View → Reception → Shown → List Entry
entries_after v r Kept = still_open r.time v ++ (opened r ∷ [])
entries_after v r Copy = credit (λ n. capped (n + 1)) (λ e. is_copy_of e r) (still_open r.time v)
entries_after v r Loose = still_open r.time v
entries_after v r (Refused n) = v.entries

-- the next state; an accepted reception sets the latest time
unfoldable pub advance : View → Reception → Shown → View
advance v r a = record {
  latest = cond (is_accepted a) r.time v.latest;
  totals = tally a v.totals;
  entries = entries_after v r a;
}

-- the answer, and the next state
pub record StepOutcome : Type 0 where
  pub answer : Shown
  pub next : View

-- one reception: its answer, and the state after it
unfoldable pub step : View → Reception → StepOutcome
step v r = record { answer = classify v r; next = advance v r (classify v r) }

-- ---- what is sent

-- "Only KEPT is ever repeated": for KEPT, what the repeater step sends at the caller's setting; for all else, nothing
unfoldable pub sent_for : ℕ → Shown → Reception → Frame
sent_for setting a r = frame_of (cond (is_kept a) (repeat_of setting r.bytes) [])
