-- The goals that a search does not find.
use mathlib.Core.Path.{◌≡◌, sym, ap, ap₂, ◌∙◌}
use mathlib.Core.List.{List}
use Prim.Native.Nat.{ℕ, ◌*◌, ◌<◌, min}
use native.Mathlib.Nat.{zero-add}
use native.Mathlib.Omega.{arith}
use lib.ListN.{length, get_or}
use Rattle.base_buffers.proofs.Segments.{part_length, part-ends}
use Rattle.archive_model.specs.Row.{Row}
use Rattle.archive_model.specs.Append.{no_row}
use Rattle.archive_fill.specs.Fill.{row_length, row_given, rows_given}
use Rattle.archive_fill.proofs.Records.{rows-count, row_get}
use Rattle.journal_model.specs.Disk.{same_row, agreeing}
use Rattle.journal_calls.proofs.Agreed.{agree_next, agree_stop, agree_end}
use Rattle.journal_calls.proofs.rows.agree.Lts as lts
use Rattle.journal_calls.proofs.rows.agree.Reads as reads
use Rattle.journal_calls.proofs.rows.agree.Tie as tie
use Rattle.journal_calls.proofs.rows.agree.Goals as goal

-- states on the way
abbrev Start : Type 0
Start = lts.Start tie.the-claims reads.Pre reads.Post goal.the-invariant-loop-i goal.the-decreases-loop-i

abbrev In-loop-i : Type 0
In-loop-i = lts.In-loop tie.the-claims reads.Pre reads.Post goal.the-invariant-loop-i goal.the-decreases-loop-i

abbrev After-same : Type 0
After-same = lts.After-same tie.the-claims reads.Pre reads.Post goal.the-invariant-loop-i goal.the-decreases-loop-i

-- the rows that come, and the leftovers

abbrev new : Start → List Row
new s = rows_given s.args.times.now s.args.rows.now

abbrev left : Start → List Row
left s = rows_given s.args.moments.now s.args.left.now

new-count : (s : Start) → length (new s) ≡ length s.args.times.now
new-count s = rows-count s.args.times.now s.args.rows.now

left-count : (s : Start) → length (left s) ≡ length s.args.moments.now
left-count s = rows-count s.args.moments.now s.args.left.now

-- row i is one of both
inside : (c : In-loop-i)
    → (c.loop-i.i < length c.args.times.now) × (c.loop-i.i < length c.args.moments.now)
inside c =
    let c_back3 = c.before.before.before in
    let c_back6 = c_back3.before.before.before in
    let v = c.loop-i.invariant in (
      omega (arith, v.least, new-count c_back6.before, left-count c_back6.before),
      omega
          (arith, v.least, new-count c_back6.before, left-count c_back6.before),
    )

pub loop-i-init : goal.loop-i-init
loop-i-init c =
    let c_back3 = c.before.before.before in
    record {
      bounded = omega arith;
      least = c.min-most.ensures ∙ ap₂ min (sym (new-count c_back3.before.before.before))
          (sym (left-count c_back3.before.before.before));
      rest = zero-add (agreeing (new c_back3.before.before.before)
          (left c_back3.before.before.before));
    }

pub same-requires : goal.same-requires
same-requires c =
    let c_back3 = c.before.before.before in
    let at = row_length * c.loop-i.i in
    let h = inside c_back3.before.before in (
      ap length (part-ends at row_length c.args.rows.now) ∙ part_length at row_length c.args.rows.now
          (omega (arith, c.requires.0, h.0)),
      ap length (part-ends at row_length c.args.left.now) ∙ part_length at row_length c.args.left.now
          (omega (arith, c.requires.1, h.1)),
    )

-- what the comparison told of row i
told : (c : After-same)
    → (
    let c_back3 = c.before.before.before in
    let c_back6 = c_back3.before.before.before in
    let c_back9 = c_back6.before.before.before in
    c.same.result ≡ same_row (get_or (new c_back9.before.before.before) c.loop-i.i no_row) (get_or (left
    c_back9.before.before.before) c.loop-i.i no_row))
told c =
    let c_back3 = c.before.before.before in
    let a = c.args in
    let i = c.loop-i.i in
    let at = row_length * i in
    c.same.ensures
    ∙ ap₂ (λ (x y : List ℕ). same_row (row_given (get_or a.times.now i 0) x) (row_given (get_or a.moments.now i 0) y))
    (part-ends at row_length a.rows.now) (part-ends at row_length a.left.now)
    ∙ sym (ap₂ same_row (row_get a.times.now a.rows.now i (inside c_back3.before.before).0)
    (row_get a.moments.now a.left.now i (inside c_back3.before.before).1))

pub returns-then-not-same : goal.returns-then-not-same
returns-then-not-same c =
    let c_back3 = c.before.before.before in
    let c_back6 = c_back3.before.before.before in
    let c_back9 = c_back6.before.before.before in
    let c_back12 = c_back9.before.before.before in
    let h = inside c_back6.before in (
      sym (agree_stop (new c_back12.before.before) (left c_back12.before.before) c.loop-i.i
          (omega (arith, new-count c_back12.before.before, h.0)) (omega
          (arith, left-count c_back12.before.before, h.1)) (sym (told c.before.before) ∙ c.if-not-same.true))
          ∙ c.loop-i.invariant.rest,
      omega (arith, h.1),
    )

pub loop-i-preserved : goal.loop-i-preserved
loop-i-preserved c =
    let c_back3 = c.before.before.before in
    let c_back6 = c_back3.before.before.before in
    let c_back9 = c_back6.before.before.before in
    let c_back12 = c_back9.before.before.before in
    let h = inside c_back6.before in
    record {
      bounded = omega arith;
      least = c.loop-i.invariant.least;
      rest =
          sym (agree_next (new c_back12.before.before) (left c_back12.before.before) c.loop-i.i
          (omega (arith, new-count c_back12.before.before, h.0)) (omega
          (arith, left-count c_back12.before.before, h.1)) (sym (told c.before.before) ∙ c.if-not-same.false))
          ∙ c.loop-i.invariant.rest;
    }

pub returns : goal.returns
returns c =
    let c_back3 = c.before.before.before in
    let c_back6 = c_back3.before.before.before in
    let v = c.loop-i.invariant in
    let i = c.loop-i.i in
    let most : c.min-most.result ≡ i = omega arith in
    let none = agree_end (new c_back6.before.before)
    (left c_back6.before.before) i (omega (arith, v.least)) in (
      omega (arith, v.rest, none),
      omega (
        arith,
        v.least,
        left-count
            c_back6.before.before,
      ),
    )

pub overflow_mul-at : goal.overflow_mul-at
overflow_mul-at c = omega (arith, (inside c.before).0)

pub overflow_add-end : goal.overflow_add-end
overflow_add-end c = omega (arith, (inside c.before).0)

pub offset_bounds-times-i : goal.offset_bounds-times-i
offset_bounds-times-i c = omega (arith, (inside c.before).0)

pub bounds-times-i : goal.bounds-times-i
bounds-times-i c = (inside c.before.before).0

pub slice_bounds-same-count : goal.slice_bounds-same-count
slice_bounds-same-count c = omega arith

pub slice_bounds-same-start : goal.slice_bounds-same-start
slice_bounds-same-start c = omega arith

pub slice_bounds-same-end : goal.slice_bounds-same-end
slice_bounds-same-end c = omega (arith, (inside c.before.before).0)

pub offset_bounds-moments-i : goal.offset_bounds-moments-i
offset_bounds-moments-i c = omega (arith, (inside c.before.before.before).0)

pub bounds-moments-i : goal.bounds-moments-i
bounds-moments-i c =
    let c_back3 = c.before.before.before in
    (inside c_back3.before).1

pub slice_bounds-same-count-in-loop-i : goal.slice_bounds-same-count-in-loop-i
slice_bounds-same-count-in-loop-i c = omega arith

pub slice_bounds-same-start-in-loop-i : goal.slice_bounds-same-start-in-loop-i
slice_bounds-same-start-in-loop-i c = omega arith

pub slice_bounds-same-end-in-loop-i : goal.slice_bounds-same-end-in-loop-i
slice_bounds-same-end-in-loop-i c =
    let c_back3 = c.before.before.before in
    omega (arith, (inside c_back3.before).1)

pub overflow_step-i : goal.overflow_step-i
overflow_step-i c =
    let c_back3 = c.before.before.before in
    let c_back6 = c_back3.before.before.before in
    omega (arith, (inside c_back6.before).0)

pub loop-i-smaller : goal.loop-i-smaller
loop-i-smaller c = omega arith
