-- Calls in two parts: what is seen of them, the state after them, and the record.
use mathlib.Core.Path.{◌≡◌, refl, sym, ap, ap₂, ◌∙◌}
use mathlib.Core.List.{List, [], ◌∷◌, ◌++◌, append_assoc, append-nil, flatten}
use lib.ListN.{take}
use Rattle.collector_model.specs.View.{View, fresh}
use Rattle.collector_model.specs.Step.{step}
use Rattle.collector_model.specs.Image.{image_length, checkpoint_of, restore_of}
use Rattle.collector_model.specs.Burst.{burst_of}
use Rattle.collector_model.specs.History.{Call, Receive, Checkpoint, Restore, Cut, Burst, Ask, Look, Seen, run}
use Rattle.history_replay_model.specs.Record.{seen_bytes, record_of}
use Rattle.history_replay_model.specs.Replay.{after_call, after_calls}
use Rattle.history_replay_model.specs.Claims.{InParts}

pub run_append : (v : View) (h g : List Call) → run v (h ++ g) ≡ run v h ++ run (after_calls v h) g
run_append v [] g = refl
run_append v (Receive setting r ∷ h) g = ap₂ ◌∷◌ refl (run_append (step v r).next h g)
run_append v (Checkpoint output ∷ h) g = ap₂ ◌∷◌ refl (run_append v h g)
run_append v (Restore image ∷ h) g = ap₂ ◌∷◌ refl (run_append (restore_of v image).next h g)
run_append v (Cut output ∷ h) g =
    ap₂ ◌∷◌ refl
    (ap₂ ◌∷◌ refl (run_append (restore_of fresh (take image_length (checkpoint_of v output).output)).next h g))
run_append v (Burst setting rs places ∷ h) g = ap₂ ◌∷◌ refl (run_append (burst_of setting v rs places).next h g)
run_append v (Ask k ∷ h) g = ap₂ ◌∷◌ refl (run_append v h g)
run_append v (Look ∷ h) g = ap₂ ◌∷◌ refl (run_append v h g)

pub after_append : (v : View) (h g : List Call) → after_calls v (h ++ g) ≡ after_calls (after_calls v h) g
after_append v [] g = refl
after_append v (k ∷ h) g = after_append (after_call v k) h g

pub record_append : (l m : List Seen) → record_of (l ++ m) ≡ record_of l ++ record_of m
unfolding record_of flatten
record_append [] m = refl
record_append (s ∷ l) m = rw (record_append l m) (sym (append_assoc (seen_bytes s) (record_of l) (record_of m)))

-- the record of one thing seen
pub record_one : (s : Seen) → seen_bytes s ≡ record_of (s ∷ [])
unfolding record_of flatten
record_one s = sym (append-nil (seen_bytes s))

-- and of two
pub record_two : (s t : Seen) → seen_bytes s ++ seen_bytes t ≡ record_of (s ∷ t ∷ [])
unfolding record_of flatten
record_two s t = ap (λ (l : List _). seen_bytes s ++ l) (sym (append-nil (seen_bytes t)))

pub in_parts : InParts
in_parts v h g = ap record_of (run_append v h g) ∙ record_append (run v h) (run (after_calls v h) g)
