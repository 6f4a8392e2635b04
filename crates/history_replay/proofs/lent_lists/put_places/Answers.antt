-- The goals that a search does not find.
use mathlib.Core.Path.{refl, sym, ap, ◌∙◌}
use mathlib.Core.List.{List}
use Prim.Native.Nat.{ℕ, ◌*◌, ◌+◌, ◌≤◌}
use native.Mathlib.Omega.{arith}
use lib.ListN.{length}
use Rattle.base_buffers.proofs.Segments.{begun_length, within, lent, done, turned, part-ends, part_length}
use Rattle.history_calls.specs.Answers.{replied_in}
use Rattle.history_replay_model.specs.Record.{reply_of}
use Rattle.history_replay.proofs.Lent.{laid_start, laid_next, cells_count, cell_at}
use Rattle.history_replay.proofs.lent_lists.put_places.Lts as lts
use Rattle.history_replay.proofs.lent_lists.put_places.Reads as reads
use Rattle.history_replay.proofs.lent_lists.put_places.Tie as tie
use Rattle.history_replay.proofs.lent_lists.put_places.Goals as goal

-- states on the way
abbrev In-loop-i : Type 0
In-loop-i = lts.In-loop tie.the-claims reads.Pre reads.Post goal.the-invariant-loop-i goal.the-decreases-loop-i

-- there is room for one more, and one more place
room : (c : In-loop-i)
    → (31 * c.loop-i.i + 31 ≤ length c.args.out.now)
    × (24 * c.loop-i.i + 24 ≤ length c.args.places.now)
room c =
    let p = c.requires in
    (omega (arith, p.1), omega (arith, p.0))

pub loop-i-init : goal.loop-i-init
loop-i-init c =
    laid_start _ 31 _ _ (cells_count c.args.places.now c.args.m c.requires.0) (omega (arith, c.requires.1))

pub put_place-requires : goal.put_place-requires
put_place-requires c =
    let places = c.args.places.now in (
      lent c.loop-i.invariant.begun 31 _ refl (room c.before.before.before).0,
      ap length (part-ends (24 * c.loop-i.i) 24 places)
          ∙ part_length (24 * c.loop-i.i) 24 places (room c.before.before.before).1,
    )

pub loop-i-preserved : goal.loop-i-preserved
loop-i-preserved c =
    let c_back3 = c.before.before.before in
    let i = c.loop-i.i in
    let places = c.args.places.now in
    laid_next _ 31 _ _ _ i c.loop-i.invariant c.loop-i-test.true (room c_back3.before.before.before).0 _
    (c.put_place.ensures ∙ ap (λ (l : List ℕ). reply_of (replied_in l)) (part-ends (24 * i) 24 places)
    ∙ sym (cell_at places c.args.m c.requires.0 i c.loop-i-test.true))
    c.put_place.auto.out

pub returns : goal.returns
returns c =
    let l = c.loop-i.invariant in
    done (turned _ _ 31 c.args.m _ _ l.begun (omega (arith, l.least, c.loop-i-test.false)) l.many) c.requires.1

pub overflow_mul-i : goal.overflow_mul-i
overflow_mul-i c = omega (arith, (room c.before).0)

pub overflow_mul-i-in-loop-i : goal.overflow_mul-i-in-loop-i
overflow_mul-i-in-loop-i c = omega (arith, (room c.before).0)

pub overflow_add-i : goal.overflow_add-i
overflow_add-i c = omega (arith, (room c.before).0)

pub slice_bounds-put_place-count : goal.slice_bounds-put_place-count
slice_bounds-put_place-count c = omega arith

pub slice_bounds-put_place-start : goal.slice_bounds-put_place-start
slice_bounds-put_place-start c = omega arith

pub slice_bounds-put_place-end : goal.slice_bounds-put_place-end
slice_bounds-put_place-end c = within c.loop-i.invariant.begun _ (room c.before).0

pub overflow_mul-i-in-loop-i-2 : goal.overflow_mul-i-in-loop-i-2
overflow_mul-i-in-loop-i-2 c = omega (arith, (room c.before.before).1)

pub overflow_mul-i-in-loop-i-3 : goal.overflow_mul-i-in-loop-i-3
overflow_mul-i-in-loop-i-3 c = omega (arith, (room c.before.before).1)

pub overflow_add-i-in-loop-i : goal.overflow_add-i-in-loop-i
overflow_add-i-in-loop-i c = omega (arith, (room c.before.before).1)

pub slice_bounds-put_place-count-in-loop-i : goal.slice_bounds-put_place-count-in-loop-i
slice_bounds-put_place-count-in-loop-i c = omega arith

pub slice_bounds-put_place-start-in-loop-i : goal.slice_bounds-put_place-start-in-loop-i
slice_bounds-put_place-start-in-loop-i c = omega arith

pub slice_bounds-put_place-end-in-loop-i : goal.slice_bounds-put_place-end-in-loop-i
slice_bounds-put_place-end-in-loop-i c = omega (arith, (room c.before.before).1)

pub overflow_step-i : goal.overflow_step-i
overflow_step-i c = omega arith

pub loop-i-smaller : goal.loop-i-smaller
loop-i-smaller c = omega arith

pub shape_of-out : goal.shape_of-out
shape_of-out c = begun_length c.loop-i.invariant.begun
