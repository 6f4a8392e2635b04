-- The goals that a search does not find.
use Prim.Native.Nat.{◌+◌, ◌/◌}
use native.Mathlib.Omega.{arith}
use mathlib.Core.Path.{refl}
use Rattle.archive_report.proofs.Places.{bracket_start, bracket_half, bracket_place}
use Rattle.archive_report.proofs.lines.find_among.Goals as goal

pub step-low-requires : goal.step-low-requires
step-low-requires c = (
  c.requires.0,
  omega (arith, c.loop-size-test.true),
  omega (arith, c.loop-size.invariant.few, c.loop-size-test.true),
)

pub loop-size-preserved : goal.loop-size-preserved
loop-size-preserved c =
    let low = c.loop-size.low in
    let size = c.loop-size.size in
    let half = (size + 1) / 2 in
    bracket_half c.args.lines.now c.args.count c.args.identity c.requires.3 low size half (low + half)
    c.step-low.result c.loop-size.invariant
    (omega (arith, c.loop-size-test.true))
    (omega arith)
    (omega (arith, c.loop-size-test.true))
    refl
    c.step-low.ensures

pub returns : goal.returns
returns c =
    let a = c.args in
    bracket_place a.lines.now a.count a.identity c.loop-size.low c.loop-size.size c.loop-size.invariant
    (omega (arith, c.loop-size-test.false))

pub loop-size-init : goal.loop-size-init
loop-size-init c = bracket_start c.args.lines.now c.args.count c.args.identity
    c.args.most c.requires.1 c.requires.2

pub overflow_add-half : goal.overflow_add-half
overflow_add-half c = omega (arith, c.loop-size.invariant.few)

pub overflow_add-low : goal.overflow_add-low
overflow_add-low c = omega (arith, c.loop-size.invariant.few, c.loop-size-test.true)

pub overflow_sub-size : goal.overflow_sub-size
overflow_sub-size c = omega (arith, c.loop-size-test.true)

pub loop-size-smaller : goal.loop-size-smaller
loop-size-smaller c = omega (arith, c.loop-size-test.true)
