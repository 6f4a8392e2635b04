-- The same for an implementation. Its states and answers are known only by its contracts, which speak of the view of a
-- state.
use Rattle.std.specs.Prelude.{ℕ, ◌≡◌, List, [], ◌∷◌, take}
use Rattle.radio_telegram.specs.declared.frame.Frame.{Frame}
use Rattle.collector_model.specs.Answer.{Shown}
use Rattle.collector_model.specs.View.{Reception, View, fresh}
use Rattle.collector_model.specs.Step.{step, sent_for}
use Rattle.collector_model.specs.Image.{image_length, checkpoint_of, restore_of}
use Rattle.collector_model.specs.Burst.{Replied, burst_of}
use Rattle.collector_model.specs.Heard.{copies_of}
use Rattle.collector_model.specs.History.{Call, Receive, Checkpoint, Restore, Cut, Burst, Ask, Look, IsHistory, Seen, Answered, Wrote, Restored, Delivered, Heard, Looked, expected, uncut, common}
use Rattle.collector_model.specs.Reference.{log_of, model_view}
use Rattle.collector_model.specs.Division.{receptions_of, past_of, replies_in}

module _ {State : Type 0} (view : State → View) where
  -- from the state c, the calls show the list. Each premise is what the contract of the call ensures.
  pub data Shows : State → List Call → List Seen → Type 0 where
    ended : {c : State} → Shows c [] []
    -- what is sent is what the caller then has: what `repeat` gives for a Kept reception, and nothing for any other
    received : {c c' : State} {setting : ℕ} {r : Reception} {a : Shown} {sent : Frame} {h : List Call} {l : List Seen}
        → record { answer = a; next = view c' } ≡ step (view c) r
        → sent ≡ sent_for setting a r
        → Shows c' h l → Shows c (Receive setting r ∷ h) (Answered a sent (view c').totals ∷ l)
    saved : {c : State} {output after : List ℕ} {n : ℕ} {h : List Call} {l : List Seen}
        → record { number = n; output = after } ≡ checkpoint_of (view c) output
        → Shows c h l → Shows c (Checkpoint output ∷ h) (Wrote n after (view c).totals ∷ l)
    restored : {c c' : State} {image : List ℕ} {n : ℕ} {h : List Call} {l : List Seen}
        → record { number = n; next = view c' } ≡ restore_of (view c) image
        → Shows c' h l → Shows c (Restore image ∷ h) (Restored n (view c').totals ∷ l)
    -- d is the collector that restores the image of the cut
    resumed : {c d c' : State} {output after : List ℕ} {n m : ℕ} {h : List Call} {l : List Seen}
        → record { number = n; output = after } ≡ checkpoint_of (view c) output
        → view d ≡ fresh
        → record { number = m; next = view c' } ≡ restore_of (view d) (take image_length after)
        → Shows c' h l → Shows c (Cut output ∷ h) (Wrote n after (view c).totals ∷ Restored m (view c').totals ∷ l)
    delivered : {c c' : State} {setting : ℕ} {rs : List Reception} {places after : List Replied} {n : ℕ}
        {h : List Call} {l : List Seen}
        → record { number = n; replies = after; next = view c' } ≡ burst_of setting (view c) rs places
        → Shows c' h l → Shows c (Burst setting rs places ∷ h) (Delivered n after (view c').totals ∷ l)
    asked : {c : State} {k n copies : ℕ} {h : List Call} {l : List Seen}
        → record { number = n; copies = copies } ≡ copies_of (view c) k
        → Shows c h l → Shows c (Ask k ∷ h) (Heard n copies (view c).totals ∷ l)
    looked : {c : State} {h : List Call} {l : List Seen}
        → Shows c h l → Shows c (Look ∷ h) (Looked (view c).totals ∷ l)

  -- the state after the calls
  abbrev pub left_by : {c : State} {h : List Call} {l : List Seen} → Shows c h l → State
  left_by (ended {c}) = c
  left_by (received e s t) = left_by t
  left_by (saved e t) = left_by t
  left_by (restored e t) = left_by t
  left_by (resumed e d f t) = left_by t
  left_by (delivered e t) = left_by t
  left_by (asked e t) = left_by t
  left_by (looked t) = left_by t

  -- states that started fresh show what the reference model says, and what states show in the uncut run
  abbrev pub StatesAgree : Type 0
  StatesAgree =
      (h : List Call) → IsHistory h
      → (c d : State) → view c ≡ fresh → view d ≡ fresh
      → (l m : List Seen) → Shows c h l → Shows d (uncut h) m
      → (l ≡ expected [] h) × (common l ≡ m)

  -- states that started fresh show the same replies in any two histories of the same receptions
  abbrev pub StatesDivide : Type 0
  StatesDivide =
      (h h' : List Call) → IsHistory h → IsHistory h' → receptions_of h ≡ receptions_of h'
      → (c d : State) → view c ≡ fresh → view d ≡ fresh
      → (l m : List Seen) → Shows c h l → Shows d h' m → replies_in h l ≡ replies_in h' m

  -- a state that started fresh has after the calls the model's latest time, totals and open telegrams with their copies
  abbrev pub StatesLeft : Type 0
  StatesLeft =
      (h : List Call) → IsHistory h → (c : State) → view c ≡ fresh
      → (l : List Seen) (t : Shows c h l) → view (left_by t) ≡ model_view (log_of (past_of h))
