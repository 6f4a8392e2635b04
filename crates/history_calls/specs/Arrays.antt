-- What the calls on lent arrays show, one after the other (document 01, "One history, and the clerk who writes it
-- down"). Of each call, only the record in its contract is used: `fresh`, `take`, `take_told`, `totals`, `copies_of`,
-- `checkpoint`, `restore`, `burst`, and `repeat`.
use Rattle.std.specs.Prelude.{ℕ, ◌≡◌, true, cond, List, [], ◌∷◌, eqb, length, take}
use Rattle.radio_telegram.specs.declared.frame.Frame.{Frame}
use Rattle.radio_telegram.specs.Frame.{frame_of}
use Rattle.radio_telegram.specs.Repeater.{repeat_result}
use Rattle.collector_model.specs.declared.Totals.{Totals}
use Rattle.collector_model.specs.View.{Reception}
use Rattle.collector_model.specs.Acceptable.{acceptable}
use Rattle.collector_model.specs.Image.{image_length, checkpoint_of}
use Rattle.collector_model.specs.History.{Call, Receive, Checkpoint, Restore, Cut, Burst, Ask, Look, Seen, Answered, Wrote, Restored, Delivered, Heard, Looked}
use Rattle.c_collector.specs.State.{Arrays, state_at, summary_in}
use Rattle.c_collector.specs.Calls.{Takes, TakesTold, Fresh, totals_call, copies_call}
use Rattle.c_checkpoint.specs.Calls.{Restores}
use Rattle.c_burst.specs.Bytes.{receptions_in, is_sized}
use Rattle.c_burst.specs.Calls.{Bursts}
use Rattle.history_calls.specs.Answers.{shown_in, replies_in_places, totals_in_values}

-- the totals that a caller sees after a call: those that `totals` gives. If `totals` refuses the state, they are those
-- in the eight numbers.
pub record TotalsSeen (s : Arrays) (n : Totals) : Type 0 where
  pub old : List ℕ
  pub values : List ℕ
  pub number : ℕ
  pub called : record { number = number; values = values } ≡ totals_call (state_at s) old
  pub seen : n ≡ cond (eqb number 0) (totals_in_values values) (summary_in s.numbers).totals

-- what a caller sends for a reception with this answer: for KEPT what `repeat` gives, else nothing
abbrev pub sent_at : ℕ → ℕ → Reception → Frame
sent_at setting answer r = cond (eqb answer 0) (repeat_result setting r.bytes).sent (frame_of [])

-- from the arrays s, the calls show the list and leave the arrays e
pub data ArraysShow : Arrays → List Call → List Seen → Arrays → Type 0 where
  ended : {s : Arrays} → ArraysShow s [] [] s
  received : {s s' e : Arrays} {setting n : ℕ} {r : Reception} {t : Totals} {h : List Call} {l : List Seen}
      → Takes s r n s' → TotalsSeen s' t → ArraysShow s' h l e
      → ArraysShow s (Receive setting r ∷ h) (Answered (shown_in n) (sent_at setting n r) t ∷ l) e
  -- the caller says that the state is acceptable, and it is
  told : {s s' e : Arrays} {setting n : ℕ} {r : Reception} {t : Totals} {h : List Call} {l : List Seen}
      → acceptable (state_at s) ≡ true → TakesTold true s r n s' → TotalsSeen s' t → ArraysShow s' h l e
      → ArraysShow s (Receive setting r ∷ h) (Answered (shown_in n) (sent_at setting n r) t ∷ l) e
  saved : {s e : Arrays} {output after : List ℕ} {n : ℕ} {t : Totals} {h : List Call} {l : List Seen}
      → record { number = n; output = after } ≡ checkpoint_of (state_at s) output → TotalsSeen s t → ArraysShow s h l e
      → ArraysShow s (Checkpoint output ∷ h) (Wrote n after t ∷ l) e
  restored : {s s' e : Arrays} {image : List ℕ} {n : ℕ} {t : Totals} {h : List Call} {l : List Seen}
      → Restores s image n s' → TotalsSeen s' t → ArraysShow s' h l e
      → ArraysShow s (Restore image ∷ h) (Restored n t ∷ l) e
  -- d is the collector that restores the image of the cut
  resumed : {s d s' e : Arrays} {output after : List ℕ} {n m : ℕ} {t u : Totals} {h : List Call} {l : List Seen}
      → record { number = n; output = after } ≡ checkpoint_of (state_at s) output → TotalsSeen s t
      → Fresh d → Restores d (take image_length after) m s' → TotalsSeen s' u → ArraysShow s' h l e
      → ArraysShow s (Cut output ∷ h) (Wrote n after t ∷ Restored m u ∷ l) e
  -- a record for each time, and the list of replies before and after the call
  delivered : {s s' e : Arrays} {setting n : ℕ} {moments records old new : List ℕ} {t : Totals} {h : List Call} {l : List Seen}
      → is_sized (length moments) (length records) ≡ true
      → Bursts s setting moments records old n s' new → TotalsSeen s' t → ArraysShow s' h l e
      → ArraysShow s (Burst setting (receptions_in moments records) (replies_in_places old) ∷ h)
      (Delivered n (replies_in_places new) t ∷ l) e
  -- the lent number is 0 before the call
  asked : {s e : Arrays} {k n copies : ℕ} {t : Totals} {h : List Call} {l : List Seen}
      → record { number = n; copies = copies } ≡ copies_call (state_at s) k 0 → TotalsSeen s t → ArraysShow s h l e
      → ArraysShow s (Ask k ∷ h) (Heard n copies t ∷ l) e
  looked : {s e : Arrays} {t : Totals} {h : List Call} {l : List Seen}
      → TotalsSeen s t → ArraysShow s h l e → ArraysShow s (Look ∷ h) (Looked t ∷ l) e
