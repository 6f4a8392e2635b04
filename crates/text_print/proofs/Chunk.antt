-- What is kept of a chunk whose lines were taken, and where the run then stands.
use mathlib.Core.Path.{◌≡◌, refl, ap, ◌∙◌}
use mathlib.Core.Bool.{true, false}
use mathlib.Core.List.{List, append-nil}
use Prim.Native.Nat.{ℕ, ◌+◌, ◌-◌, ◌≤◌}
use native.Mathlib.Omega.{arith}
use lib.ListN.{length, take, drop, take-append-drop, length-take, length-drop}
use lib.Seq.{sets, sets-eq, take-append_seam, length-take-le}
use borrow.Author.Tests.{le-leb}
use borrow.Rule.Slice.PartMut.{put_mid}
use Rattle.base_lists.proofs.Parts.{drop-take}
use Rattle.text_lines.specs.Reading.{line_limit}
use Rattle.base_buffers.specs.Printed.{Printed}
use Rattle.base_buffers.proofs.Stores.{then}
use Rattle.text_program.specs.Chunks.{in_line, at_line_start, feed, feed_text, end_text}
use Rattle.text_program.specs.Collect.{Phase, collect}
use Rattle.text_program.specs.Buffer.{is_unended, kept_line, Carried, Fed}
use Rattle.text_program.proofs.Segments.{Drained, left, open_front}
use Rattle.text_collect.specs.declared.Session.{Session}
use Rattle.text_collect.specs.Session.{Receiver, model_collector, phase_of}
use Rattle.text_collect.proofs.Taking.{same_length}
use Rattle.text_print.specs.Step.{chunk, output_capacity, longest_finish, is_over, position_after, SteppedOver}
use Rattle.text_print.proofs.Parts.{put-part}
use Rattle.text_print.proofs.Bound.{printed-bound}

module _ (buffer : List ℕ) (used end : ℕ) (fits : end ≤ length buffer) (ordered : used ≤ end) where
  -- what is left of the chunk, and what is kept of it
  abbrev pub left_over : List ℕ
  left_over = drop used (take end buffer)

  abbrev pub kept_of : List ℕ
  kept_of = take line_limit left_over

  kept_rest : kept_line buffer used end ≡ kept_of
  unfolding kept_line
  kept_rest = rw (le-leb end (length buffer) fits, le-leb used end ordered, drop-take buffer used end)

  pub kept-fits : length kept_of ≤ length buffer
  kept-fits = simp (length-take, length-drop) (omega arith)

  pub kept_few : length kept_of ≤ line_limit
  kept_few = omega (arith, length-take line_limit left_over)

  -- it has no newline, where what was left had none
  pub kept_open : is_unended left_over ≡ true → is_unended kept_of ≡ true
  kept_open o = open_front line_limit left_over o

  module _ {buffer' : List ℕ} {kept : ℕ} (c : Carried buffer used end buffer' kept) where
    pub carried : buffer' ≡ sets buffer 0 kept_of
    carried = c.bytes ∙ rw kept_rest

    pub kept-count : kept ≡ length kept_of
    kept-count = c.count ∙ rw kept_rest

    -- it stands at the front
    pub kept_front : take kept buffer' ≡ kept_of
    kept_front =
        let h : 0 + length kept_of ≤ length buffer = omega (arith, kept-fits) in
        rw (kept-count, carried, sets-eq kept_of buffer 0 h)
        (take-append_seam kept_of (drop (0 + length kept_of) buffer))

  -- where the run stands after the chunk, and what was printed for it
  pub chunk-taken : (s₀ s : Phase Receiver)
      → feed (collect model_collector) line_limit (at_line_start s₀) (take used (take end buffer)) ≡ at_line_start s
      → is_unended left_over ≡ true
      → (position_after s₀ (take end buffer) ≡ in_line s kept_of)
      × (feed_text (collect model_collector) line_limit (at_line_start s₀) (take end buffer)
      ≡ feed_text (collect model_collector) line_limit (at_line_start s₀) (take used (take end buffer)))
  chunk-taken s₀ s e o =
      let t = take end buffer in
      let d : Drained (collect model_collector) line_limit s₀ (take used t) s
      (feed_text (collect model_collector) line_limit (at_line_start s₀) (take used t)) =
      record { state = e; text = refl }
      in
      rw (take-append-drop used t) at (left (collect model_collector) line_limit d (drop used t) o)

  -- ---- the step

  module _ {buffer' : List ℕ} {kept : ℕ} (k : Carried buffer used end buffer' kept)
      (few : end ≤ chunk) {s₀ : Phase Receiver} (session : Session) {out out' : List ℕ} {written : ℕ}
      (f : Fed (collect model_collector) s₀ (take used (take end buffer)) out (phase_of session) out' written)
      (o : is_unended left_over ≡ true) (size : length out ≡ output_capacity) where
    stands : position_after s₀ (take end buffer) ≡ in_line (phase_of session) kept_of
    stands = (chunk-taken s₀ (phase_of session) f.state o).0

    printed : Printed out 0 (feed_text (collect model_collector) line_limit (at_line_start s₀) (take end buffer))
        (length out) out' written
    printed = rw (chunk-taken s₀ (phase_of session) f.state o).1 f.output

    pub room-left : written + 512 ≤ length out'
    room-left =
        omega (
          arith,
          printed.next,
          printed-bound s₀ (take end buffer),
          length-take-le end buffer fits,
          same_length f.output,
        )

    pub stepped : SteppedOver s₀ (take end buffer) buffer false out buffer' out'
        (record { session = session; kept = kept; written = written; ended = is_over (phase_of session) })
    stepped = record {
      state = rw stands;
      kept = rw stands (kept-count k);
      few = omega (arith, kept-count k, kept_few);
      unended = rw stands (kept_open o);
      line = rw stands (carried k);
      output =
          rw (append-nil (feed_text (collect model_collector) line_limit (at_line_start s₀) (take end buffer)))
          (rw size at printed);
      ended = rw stands;
    }

    pub ended : {part' : List ℕ} {more : ℕ}
        → Printed (take (length out' - written) (drop written out')) 0
        (end_text (collect model_collector) (in_line (phase_of session) (take kept buffer'))) longest_finish part' more
        → SteppedOver s₀ (take end buffer) buffer true out buffer' (put_mid written (length out' - written) out' part')
        (record { session = session; kept = kept; written = written + more; ended = true })
    ended {part'} {more} q =
        let e =
        put-part out' written (omega (arith, room-left)) (rw (kept_front k) at q)
        (omega (
          arith,
          room-left,
          q.next,
          q.short,
          ap (λ (x : List ℕ). length (end_text (collect model_collector) (in_line (phase_of session) x)))
              (kept_front k),
        )) in
        let t = then printed e in
        record {
          state = rw stands;
          kept = rw stands (kept-count k);
          few = omega (arith, kept-count k, kept_few);
          unended = rw stands (kept_open o);
          line = rw stands (carried k);
          output =
              rw stands
              (record {
                bytes = t.bytes;
                next = t.next;
                short = omega (arith, room-left, q.short, same_length f.output);
              });
          ended = refl;
        }
