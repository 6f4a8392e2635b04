-- The goals that a search does not find.
use mathlib.Core.Path.{◌≡◌, refl, sym, ap, ◌∙◌}
use Prim.Native.Nat.{◌*◌, ◌+◌, ◌≤◌}
use native.Mathlib.Omega.{arith}
use borrow.Author.Rules.{rules}
use lib.ListN.{length}
use Rattle.base_buffers.proofs.Segments.{within, lent}
use Rattle.history_replay.specs.Private.{frame_in}
use Rattle.history_replay.proofs.Records.{lent_record, record_length}
use Rattle.history_replay.proofs.Lent.{laid_start, laid_next, laid_end, frames_count, frame_at}
use Rattle.history_replay.proofs.lent_lists.frames_in.Lts as lts
use Rattle.history_replay.proofs.lent_lists.frames_in.Reads as reads
use Rattle.history_replay.proofs.lent_lists.frames_in.Tie as tie
use Rattle.history_replay.proofs.lent_lists.frames_in.Goals as goal

-- states on the way
abbrev In-loop-i : Type 0
In-loop-i = lts.In-loop tie.the-claims reads.Pre reads.Post goal.the-invariant-loop-i goal.the-decreases-loop-i

-- there is a record, and room for its frame
room : (c : In-loop-i)
    → (64 * c.loop-i.i + 64 ≤ length c.args.records.now)
    × (22 * c.loop-i.i + 22 ≤ 5698)
room c =
    let v = c.loop-i.invariant in
    (omega (arith, v.whole, c.loop-i-test.true), omega (arith, v.few, c.loop-i-test.true))

in_all : (c : In-loop-i) → 22 * c.loop-i.i + 22 ≤ length c.loop-i.all
in_all c =
    let v = c.loop-i.invariant in
    within v.laid.begun _ (omega (arith, (room c).1, v.long))

pub loop-i-init : goal.loop-i-init
loop-i-init c =
    let h : length c.no_frames-all.result ≡ 5698 = search rules in
    record {
      long = h;
      few = c.requires.0;
      whole = c.requires.1;
      laid = laid_start _ 22 _ _ (frames_count c.args.records.now c.args.n) (omega (arith, c.requires.0, h));
    }

pub put_frame-requires : goal.put_frame-requires
put_frame-requires c =
    let v = c.loop-i.invariant in (
      lent v.laid.begun 22 _ refl (omega (arith, (room c.before.before.before).1, v.long)),
      record_length _ _
          (room c.before.before.before).0,
    )

pub loop-i-preserved : goal.loop-i-preserved
loop-i-preserved c =
    let c_back3 = c.before.before.before in
    let v = c.loop-i.invariant in
    let i = c.loop-i.i in
    record {
      long = v.long;
      few = v.few;
      whole = v.whole;
      laid =
          laid_next _ 22 _ _ _ i v.laid c.loop-i-test.true
          (omega (arith, (room c_back3.before.before).1, v.long)) _
          (c.put_frame.ensures ∙ ap frame_in (lent_record c.args.records.now i)
          ∙ sym (frame_at c.args.records.now c.args.n i c.loop-i-test.true))
          c.put_frame.auto.out;
    }

pub returns : goal.returns
returns c = laid_end _ 22 _ _ _ _ c.loop-i.invariant.laid c.loop-i-test.false

pub overflow_mul-all : goal.overflow_mul-all
overflow_mul-all c = omega (arith, c.loop-i.invariant.few, c.loop-i-test.true)

pub overflow_mul-i : goal.overflow_mul-i
overflow_mul-i c = omega (arith, c.loop-i.invariant.few, c.loop-i-test.true)

pub overflow_add-i : goal.overflow_add-i
overflow_add-i c = omega (arith, c.loop-i.invariant.few, c.loop-i-test.true)

pub slice_bounds-put_frame-count : goal.slice_bounds-put_frame-count
slice_bounds-put_frame-count c = omega arith

pub slice_bounds-all-start : goal.slice_bounds-all-start
slice_bounds-all-start c = omega arith

pub slice_bounds-all-end : goal.slice_bounds-all-end
slice_bounds-all-end c = in_all c.before

pub overflow_mul-i-in-loop-i : goal.overflow_mul-i-in-loop-i
overflow_mul-i-in-loop-i c = omega (arith, (room c.before.before).0)

pub overflow_mul-i-in-loop-i-2 : goal.overflow_mul-i-in-loop-i-2
overflow_mul-i-in-loop-i-2 c = omega (arith, (room c.before.before).0)

pub overflow_add-i-in-loop-i : goal.overflow_add-i-in-loop-i
overflow_add-i-in-loop-i c = omega (arith, (room c.before.before).0)

pub slice_bounds-put_frame-count-in-loop-i : goal.slice_bounds-put_frame-count-in-loop-i
slice_bounds-put_frame-count-in-loop-i c = omega arith

pub slice_bounds-put_frame-start : goal.slice_bounds-put_frame-start
slice_bounds-put_frame-start c = omega arith

pub slice_bounds-put_frame-end : goal.slice_bounds-put_frame-end
slice_bounds-put_frame-end c = omega (arith, (room c.before.before).0)

pub overflow_step-i : goal.overflow_step-i
overflow_step-i c = omega arith

pub loop-i-smaller : goal.loop-i-smaller
loop-i-smaller c = omega arith
