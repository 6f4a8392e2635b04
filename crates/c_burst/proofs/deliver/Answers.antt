-- The goals that a search does not find.
use mathlib.Core.Path.{refl, sym, ap, ◌∙◌}
use mathlib.Core.List.{List}
use Prim.Native.Nat.{ℕ, ◌*◌}
use native.Mathlib.Omega.{arith}
use lib.ListN.{length, get_or}
use Rattle.base_buffers.proofs.Segments.{begun_length, within, lent, part_length, part-ends}
use Rattle.collector_state.proofs.Loans.{same_loans, both_loans}
use Rattle.c_layout.specs.Frame.{frame_length}
use Rattle.c_burst.specs.Bytes.{reception_in, reply_length}
use Rattle.c_burst.proofs.Turns.{starts, turns, ends, receptions-count, reception_get}
use Rattle.c_burst.proofs.deliver.Goals as goal

pub loop-i-init : goal.loop-i-init
loop-i-init c = (
  record { bounded = omega arith; few = c.requires.0; going = starts _ _ _ _ _ c.requires.3 },
  same_loans c.args.state.now,
)

pub take_frame-requires : goal.take_frame-requires
take_frame-requires c =
    let from = frame_length * c.loop-i.i in
    let records = c.args.records.now in (
      ap length (part-ends from frame_length records)
          ∙ part_length from frame_length records (omega (arith, c.requires.1)),
      lent c.loop-i.invariant.0.going.written reply_length _ refl (omega (arith, c.requires.2)),
      sym c.loop-i.invariant.0.going.tested.said,
    )

pub loop-i-preserved : goal.loop-i-preserved
loop-i-preserved c =
    let i = c.loop-i.i in
    let moments = c.args.moments.now in
    let records = c.args.records.now in
    let count = receptions-count moments records in (
      record {
        bounded = omega arith;
        few = c.loop-i.invariant.0.few;
        going = turns _ _ _ _ _ c.loop-i.invariant.0.going (omega (arith, count)) _
            (reception_get moments records i (omega arith)
            ∙ ap (λ (f : List ℕ). reception_in f (get_or moments i 0))
            (sym (part-ends (frame_length * i) frame_length records)))
            (omega (arith, c.shared_slice_known-in-loop-i-1.given i))
            (omega (arith, count, c.requires.2))
            _
            _
            _
            c.take_frame.ensures.answers
            c.take_frame.auto.reply;
      },
      both_loans c.loop-i.invariant.1 c.take_frame.ensures.same_loans,
    )

pub returns : goal.returns
returns c =
    let a = c.args in
    let g = c.loop-i.invariant in
    record {
      delivers = ends _ _ _ _ _ g.0.going (omega (arith, receptions-count a.moments.now a.records.now));
      same_loans = g.1;
    }

pub slice_bounds-take_frame-end-in-loop-i : goal.slice_bounds-take_frame-end-in-loop-i
slice_bounds-take_frame-end-in-loop-i c = within c.loop-i.invariant.0.going.written _ (omega arith)

pub shape_of-replies : goal.shape_of-replies
shape_of-replies c = begun_length c.loop-i.invariant.0.going.written
