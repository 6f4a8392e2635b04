-- The goals that a search does not find.
use mathlib.Core.Path.{◌≡◌, refl, sym, ◌∙◌}
use Prim.Native.Nat.{◌*◌, ◌+◌, ◌≤◌}
use native.Mathlib.Omega.{arith}
use borrow.Author.Rules.{rules}
use lib.ListN.{length}
use Rattle.base_buffers.proofs.Segments.{within, lent}
use Rattle.history_replay.proofs.Lent.{laid_start, laid_next, laid_end, old-count, old_at}
use Rattle.history_replay.proofs.lent_lists.places_in.Lts as lts
use Rattle.history_replay.proofs.lent_lists.places_in.Reads as reads
use Rattle.history_replay.proofs.lent_lists.places_in.Tie as tie
use Rattle.history_replay.proofs.lent_lists.places_in.Goals as goal

-- states on the way
abbrev In-loop-i : Type 0
In-loop-i = lts.In-loop tie.the-claims reads.Pre reads.Post goal.the-invariant-loop-i goal.the-decreases-loop-i

room : (c : In-loop-i) → 24 * c.loop-i.i + 24 ≤ 6216
room c =
    let v = c.loop-i.invariant in
    omega (arith, v.few, c.loop-i-test.true)

pub loop-i-init : goal.loop-i-init
loop-i-init c =
    let h : length c.no_places-all.result ≡ 6216 = search rules in
    record {
      long = h;
      few = c.requires.1;
      laid = laid_start _ 24 _ _ (old-count c.args.r.now c.args.m) (omega (arith, c.requires.1, h));
    }

pub put_old-requires : goal.put_old-requires
put_old-requires c =
    let v = c.loop-i.invariant in
    (lent v.laid.begun 24 _ refl (omega (arith, room c.before.before, v.long)), c.requires.0)

pub loop-i-preserved : goal.loop-i-preserved
loop-i-preserved c =
    let c_back3 = c.before.before.before in
    let v = c.loop-i.invariant in
    let i = c.loop-i.i in
    record {
      long = v.long;
      few = v.few;
      laid =
          laid_next _ 24 _ _ _ i v.laid c.loop-i-test.true (omega (arith, room c_back3.before, v.long)) _
          (c.put_old.ensures ∙ sym (old_at c.args.r.now c.args.m i c.loop-i-test.true))
          c.put_old.auto.out;
    }

pub returns : goal.returns
returns c = laid_end _ 24 _ _ _ _ c.loop-i.invariant.laid c.loop-i-test.false

pub overflow_mul-all : goal.overflow_mul-all
overflow_mul-all c = omega (arith, c.loop-i.invariant.few, c.loop-i-test.true)

pub overflow_mul-i : goal.overflow_mul-i
overflow_mul-i c = omega (arith, c.loop-i.invariant.few, c.loop-i-test.true)

pub overflow_add-i : goal.overflow_add-i
overflow_add-i c = omega (arith, c.loop-i.invariant.few, c.loop-i-test.true)

pub slice_bounds-put_old-count : goal.slice_bounds-put_old-count
slice_bounds-put_old-count c = omega arith

pub slice_bounds-all-start : goal.slice_bounds-all-start
slice_bounds-all-start c = omega arith

pub slice_bounds-all-end : goal.slice_bounds-all-end
slice_bounds-all-end c = within c.loop-i.invariant.laid.begun _ (omega (arith, room c.before, c.loop-i.invariant.long))

pub overflow_step-i : goal.overflow_step-i
overflow_step-i c = omega arith

pub loop-i-smaller : goal.loop-i-smaller
loop-i-smaller c = omega arith
