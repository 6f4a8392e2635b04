-- Receptions handed over in one list with a repeater setting, and a second list for the replies (document 02, A1 and
-- A7).
use Rattle.std.specs.Prelude.{cond, not, List, [], ◌∷◌, ◌++◌, ℕ, ltb, eqb, length, drop}
use Rattle.base_refusal.specs.Number.{number_of}
use Rattle.base_refusal.specs.declared.Refusal.TheVariants.{ShortOutput, Argument, NotAccepted}
use Rattle.radio_telegram.specs.declared.frame.Frame.{Frame}
use Rattle.radio_telegram.specs.Repeater.{max_setting}
use Rattle.collector_model.specs.Answer.{Shown}
use Rattle.collector_model.specs.View.{Reception, View}
use Rattle.collector_model.specs.Acceptable.{acceptable}
use Rattle.collector_model.specs.Step.{step, sent_for}

-- "up to 256 receptions at a time"
abbrev pub max_burst : ℕ
max_burst = 256

-- the reply to one reception: the answer, and the telegram to send
pub record Replied : Type 0 where
  pub answer : Shown
  pub sent : Frame

-- the reply to a reception that got this answer, at the caller's setting
abbrev pub reply_with : ℕ → Shown → Reception → Replied
reply_with setting a r = record { answer = a; sent = sent_for setting a r }

-- "The outcome must equal handing them over one by one, refused ones included": the state after them, and the reply to
-- each
unfoldable pub after_all : View → List Reception → View
after_all v [] = v
after_all v (r ∷ rs) = after_all (step v r).next rs

-- the reply to each of several receptions
unfoldable pub replies_to : ℕ → View → List Reception → List Replied
replies_to setting v [] = []
replies_to setting v (r ∷ rs) = reply_with setting (step v r).answer r ∷ replies_to setting (step v r).next rs

-- "6 if the answer list is shorter, then 10 for more than 256", "10 for its setting also"; 0 if none of these fits.
-- Arguments: the setting, the number of receptions, the length of the list of replies.
unfoldable pub call_number : ℕ → ℕ → ℕ → ℕ
call_number setting receptions places =
    cond (ltb places receptions) (number_of ShortOutput)
    (cond (ltb max_burst receptions) (number_of Argument)
    (cond (ltb max_setting setting) (number_of Argument)
    0))

-- "Refusals: 11, then 6 .., then 10"
unfoldable pub burst_number : ℕ → View → ℕ → ℕ → ℕ
burst_number setting v receptions places =
    cond (not (acceptable v)) (number_of NotAccepted) (call_number setting receptions places)

-- the receptions that a burst with this number counts for: "a refused burst stands for no reception"
abbrev pub taken : ℕ → List Reception → List Reception
taken number rs = cond (eqb number 0) rs []

-- the number, every entry of the list of replies, and the next state
pub record BurstResult : Type 0 where
  pub number : ℕ
  pub replies : List Replied
  pub next : View

-- one reply for each reception that the burst counts for, at the same index; the entries after them are unchanged
abbrev pub burst_of : ℕ → View → List Reception → List Replied → BurstResult
burst_of setting v rs places =
    let number = burst_number setting v (length rs) (length places) in
    let t = taken number rs in
    record { number = number; replies = replies_to setting v t ++ drop (length t) places; next = after_all v t }
