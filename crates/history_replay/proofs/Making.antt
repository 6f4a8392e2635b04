-- What each call writes is its part of the record: the cells of a call, by what the contract of the function that was called says.
--     answered, loaded, delivered, heard, seen      receptions, restores, bursts, asks, looks
--     saved-output, saved                     a checkpoint, whose output is written before its head
--     image_lent, cut-made                    a cut: the image in the first cell, and the second cell
use Prim.Native.Nat.{ℕ, ◌+◌, ◌-◌, ◌≤◌, min}
use native.Mathlib.Omega.{arith}
use mathlib.Core.Path.{◌≡◌, sym, ap, ap₂, ◌∙◌}
use mathlib.Core.List.{List, [], ◌∷◌, ◌++◌, append_assoc, append-nil}
use lib.ListN.{length, get_or, take, drop, length-append, length-take, length-drop, drop_of_length-le, replicate, length-replicate}
use lib.Seq.{take-append-le, drop_at, drop-drop, length-take-le}
use Rattle.radio_telegram.specs.declared.frame.Frame.{Frame}
use Rattle.base_buffers.specs.Buffer.{part}
use Rattle.block_layout.specs.BigEndian.{be}
use Rattle.block_layout.proofs.BigEndian.{be-length}
use Rattle.base_buffers.proofs.Segments.{part_length, part-ends, take_clamped, Begun}
use Rattle.collector_model.specs.declared.Totals.{Totals}
use Rattle.collector_model.specs.View.{Reception, View, fresh}
use Rattle.collector_model.specs.Answer.{shown_number}
use Rattle.collector_model.specs.Step.{StepOutcome, step, sent_for}
use Rattle.collector_model.specs.Image.{CheckpointResult, RestoreResult, image_length, checkpoint_of, restore_of}
use Rattle.collector_model.specs.Burst.{Replied, BurstResult, burst_of}
use Rattle.collector_model.specs.Heard.{HeardResult, copies_of}
use Rattle.collector_model.specs.History.{Receive, Checkpoint, Restore, Cut, Burst, Ask, Look, Answered, Wrote, Restored, Delivered, Heard, Looked, run}
use Rattle.history_replay_model.specs.Operation.{receiving, saving}
use Rattle.history_replay_model.specs.Record.{head_of, form_of, reply_of, seen_bytes, record_of}
use Rattle.history_replay_model.proofs.Parts.{record_one, record_two}
use Rattle.history_replay_model.proofs.Lengths.{head_length, checkpoint_length}
use Rattle.history_replay.specs.Calls.{number_at, max_output, output_in}
use Rattle.history_replay.specs.Private.{wrote_of, reply_cell}

module _ (v : View) where
  -- by the form and the number of the answer
  pub answered : (setting : ℕ) (r : Reception) (o : StepOutcome) (sent : Frame) (form number : ℕ) (n : Totals)
      → o ≡ step v r → sent ≡ sent_for setting o.answer r → form ≡ form_of o.answer
      → number ≡ shown_number o.answer → n ≡ o.next.totals
      → head_of receiving number n ++ reply_cell form number sent ≡ record_of (run v (Receive setting r ∷ []))
  unfolding seen_bytes reply_of
  answered setting r o sent form number n e f g k t =
      ap₂ (λ (x y : ℕ). head_of receiving y n ++ reply_cell x y sent) g k
      ∙ ap₂ (λ (s : Frame) (m : Totals). seen_bytes (Answered o.answer s m)) f t
      ∙ ap (λ (p : StepOutcome). seen_bytes (Answered p.answer (sent_for setting p.answer r) p.next.totals)) e
      ∙ record_one _

  pub loaded : (image : List ℕ) (q : RestoreResult) → q ≡ restore_of v image
      → seen_bytes (Restored q.number q.next.totals) ≡ record_of (run v (Restore image ∷ []))
  loaded image q e = ap (λ (p : RestoreResult). seen_bytes (Restored p.number p.next.totals)) e ∙ record_one _

  pub delivered : (setting : ℕ) (rs : List Reception) (places : List Replied) (b : BurstResult)
      → b ≡ burst_of setting v rs places
      → seen_bytes (Delivered b.number b.replies b.next.totals)
      ≡ record_of (run v (Burst setting rs places ∷ []))
  delivered setting rs places b e =
      ap (λ (p : BurstResult). seen_bytes (Delivered p.number p.replies p.next.totals)) e ∙ record_one _

  pub heard : (k : ℕ) (a : HeardResult) → a ≡ copies_of v k
      → seen_bytes (Heard a.number a.copies v.totals) ≡ record_of (run v (Ask k ∷ []))
  heard k a e = ap (λ (p : HeardResult). seen_bytes (Heard p.number p.copies v.totals)) e ∙ record_one _

  pub seen : seen_bytes (Looked v.totals) ≡ record_of (run v (Look ∷ []))
  seen = record_one _

  -- ---- a checkpoint

  pub saved : (output : List ℕ) → seen_bytes (wrote_of v output) ≡ record_of (run v (Checkpoint output ∷ []))
  saved output = record_one _

-- the output that a record says is as long as what stands behind the head of its cell
pub output_is : (r entry : List ℕ) → length entry ≡ 58 + length (output_in r)
    → replicate (length entry - 58) (get_or r 9 0) ≡ output_in r
output_is r entry h =
    let e : length entry - 58 ≡ min (number_at 1 r) max_output =
    omega (arith, length-replicate (min (number_at 1 r) max_output) (get_or r 9 0)) in
    ap (λ (n : ℕ). replicate n (get_or r 9 0)) e

-- the output is lent first, and then the head before it
module _ (v : View) (entry ys : List ℕ) (fill number : ℕ) (room : 58 ≤ length entry) where
  -- how long the output is
  abbrev pub rest : ℕ
  rest = length entry - 58

  -- after it is lent
  abbrev pub lent-output : List ℕ
  lent-output = take 58 entry ++ (ys ++ drop (58 + rest - 58) (drop 58 entry))

  pub output-length : length ys ≡ length (part 58 (58 + rest - 58) entry) → length lent-output ≡ length entry
  output-length q = simp (length-append, length-take, length-drop) (omega (arith, simp (length-take, length-drop) at q))

  past_head : drop 58 lent-output ≡ ys
  past_head =
      let k : length entry ≤ 58 + (58 + rest - 58) = omega arith in
      drop_at (take 58 entry) _ 58 (length-take-le 58 entry room)
      ∙ ap (λ (l : List ℕ). ys ++ l) (drop-drop (58 + rest - 58) 58 entry ∙ drop_of_length-le entry k) ∙ append-nil ys

  pub saved-output : record { number = number; output = ys }
      ≡ checkpoint_of v (replicate (length (part 58 (58 + rest - 58) entry)) fill)
      → length ys ≡ length (part 58 (58 + rest - 58) entry) → (exit : List ℕ)
      → Begun lent-output (head_of saving number v.totals ++ be 8 rest) 58 exit
      → exit ≡ seen_bytes (wrote_of v (replicate rest fill))
  unfolding seen_bytes
  saved-output e q exit b =
      let l : length (part 58 (58 + rest - 58) entry) ≡ rest =
      part_length 58 (58 + rest - 58) entry (omega arith) ∙ omega arith in
      let f : record { number = number; output = ys } ≡ checkpoint_of v (replicate rest fill) = rw l at e in
      let k : rest ≡ length ys = sym (q ∙ l) in
      b.is ∙ ap (λ (x : List ℕ). head_of saving number v.totals ++ be 8 rest ++ x) past_head
      ∙ ap (λ (n : ℕ). head_of saving number v.totals ++ be 8 n ++ ys) k
      ∙ ap (λ (p : CheckpointResult). seen_bytes (Wrote p.number p.output v.totals)) f

-- ---- a cut

module _ (v : View) (output : List ℕ) where
  -- the image in the first cell, as the code lends it
  pub image_lent : (rest xs : List ℕ) (m : ℕ)
      → xs ≡ seen_bytes (wrote_of v output) ++ rest → m ≡ min image_length (length output)
      → part 58 (58 + m - 58) xs ≡ take image_length (checkpoint_of v output).output
  unfolding seen_bytes
  image_lent rest xs m w e =
      let p = (checkpoint_of v output).output in
      let front = head_of saving (checkpoint_of v output).number v.totals ++ be 8 (length p) in
      let l : length front ≡ 58 = simp (length-append, head_length, be-length) in
      let g : m ≡ min image_length (length p) = e ∙ ap (min image_length) (sym (checkpoint_length v output)) in
      part-ends 58 m xs
      ∙ rw (w, append_assoc front p rest, drop_at front (p ++ rest) 58 l, g)
      (take-append-le (min image_length (length p)) p rest (omega arith) ∙ take_clamped image_length p)

  pub cut_made : (q : RestoreResult) → q ≡ restore_of fresh (take image_length (checkpoint_of v output).output)
      → seen_bytes (wrote_of v output) ++ seen_bytes (Restored q.number q.next.totals)
      ≡ record_of (run v (Cut output ∷ []))
  cut_made q e =
      ap (λ (p : RestoreResult). seen_bytes (wrote_of v output) ++ seen_bytes (Restored p.number p.next.totals)) e
      ∙ record_two _ _
