-- How long a record is, told by the calls alone.
--     sized                       the record of any calls
--     size-append, size-part      of calls in two parts, and of the first of them
use Prim.Native.Nat.{ℕ, ◌+◌, ◌*◌, ◌≤◌}
use native.Mathlib.Omega.{arith}
use mathlib.Core.Path.{◌≡◌, refl, sym, ap, ◌∙◌}
use mathlib.Core.List.{List, [], ◌∷◌, ◌++◌, flatten}
use lib.ListN.{length, take, drop, length-append, take-append-drop}
use Rattle.block_layout.proofs.BigEndian.{be-length}
use Rattle.collector_model.specs.View.{fresh}
use Rattle.collector_model.specs.Step.{step}
use Rattle.collector_model.specs.Image.{image_length, checkpoint_of, restore_of}
use Rattle.collector_model.specs.Burst.{burst_of}
use Rattle.collector_model.specs.History.{Call, Receive, Checkpoint, Restore, Cut, Burst, Ask, Look}
use Rattle.collector_model.specs.History.{Seen, Answered, Wrote, Restored, Delivered, Heard, Looked}
use Rattle.history_replay_model.specs.Record.{seen_bytes, record_of}
use Rattle.history_replay_model.specs.Replay.{size_of_all}
use Rattle.history_replay_model.specs.Claims.{RecordSized}
use Rattle.history_replay_model.proofs.Lengths.{head_length, reply-length, replies-length, checkpoint_length, burst_length}

-- ---- one thing seen

abbrev seen_length : Seen → ℕ
seen_length (Answered a sent n) = 81
seen_length (Wrote number output n) = 58 + length output
seen_length (Restored number n) = 50
seen_length (Delivered number replies n) = 58 + 31 * length replies
seen_length (Heard number copies n) = 58
seen_length (Looked n) = 50

pub seen-length : (s : Seen) → length (seen_bytes s) ≡ seen_length s
unfolding seen_bytes
seen-length (Answered a sent n) = simp (length-append, head_length, reply-length)
seen-length (Wrote number output n) = simp (length-append, head_length, be-length)
seen-length (Restored number n) = head_length _ _ _
seen-length (Delivered number replies n) = simp (length-append, head_length, be-length, replies-length)
seen-length (Heard number copies n) = simp (length-append, head_length, be-length)
seen-length (Looked n) = head_length _ _ _

none : length (record_of []) ≡ 0
unfolding record_of flatten
none = refl

more : (s : Seen) (l : List Seen) → length (record_of (s ∷ l)) ≡ seen_length s + length (record_of l)
unfolding record_of flatten
more s l = simp (length-append, seen-length s)

-- ---- all calls

pub sized : RecordSized
sized v [] = none
sized v (Receive setting r ∷ h) = more _ _ ∙ ap (λ (n : ℕ). 81 + n) (sized (step v r).next h)
sized v (Checkpoint output ∷ h) = rw (more, checkpoint_length, sized v h)
sized v (Restore image ∷ h) = more _ _ ∙ ap (λ (n : ℕ). 50 + n) (sized (restore_of v image).next h)
sized v (Cut output ∷ h) =
    rw (
      more,
      more,
      checkpoint_length,
      sized (restore_of fresh (take image_length (checkpoint_of v output).output)).next h,
    )
    (omega arith)
sized v (Burst setting rs places ∷ h) = rw (more, burst_length, sized (burst_of setting v rs places).next h)
sized v (Ask k ∷ h) = more _ _ ∙ ap (λ (n : ℕ). 58 + n) (sized v h)
sized v (Look ∷ h) = more _ _ ∙ ap (λ (n : ℕ). 50 + n) (sized v h)

pub size_append : (h g : List Call) → size_of_all (h ++ g) ≡ size_of_all h + size_of_all g
size_append [] g = omega arith
size_append (k ∷ h) g = rw (size_append h g) (omega arith)

pub size-part : (n : ℕ) (h : List Call) → size_of_all (take n h) ≤ size_of_all h
size-part n h =
    let e : size_of_all h ≡ size_of_all (take n h)
    + size_of_all (drop n h) = ap size_of_all (sym (take-append-drop n h))
    ∙ size_append (take n h) (drop n h) in
    omega arith
