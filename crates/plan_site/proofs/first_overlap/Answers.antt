-- `plan_site::first_overlap` meets its contract: behind each repeater, the first that overlaps with it is looked for.
use mathlib.Core.Path.{refl}
use native.Mathlib.Omega.{arith}
use lib.ListN.{length-map}
use Rattle.plan_site.specs.Bytes.{assignment_of}
use Rattle.plan_site.proofs.Pairs.{found_behind, paired_stop, paired_next, paired_end}
use Rattle.plan_site.proofs.first_overlap.Goals as goal

pub loop-i-init : goal.loop-i-init
loop-i-init c = record { least = omega arith; whole = refl }

pub returns-in-Some : goal.returns-in-Some
returns-in-Some c =
    let xs = c.args.repeaters.now in
    paired_stop _ _ c.loop-i.invariant (omega (arith, length-map xs assignment_of, c.loop-i-test.true)) _
    (found_behind xs _ _ c.loop-i-test.true c.from.ensures c.first_clash.ensures c.in-Some.is)

pub loop-i-preserved : goal.loop-i-preserved
loop-i-preserved c =
    let xs = c.args.repeaters.now in
    paired_next _ _ c.loop-i.invariant (omega (arith, length-map xs assignment_of, c.loop-i-test.true))
    (found_behind xs _ _ c.loop-i-test.true c.from.ensures c.first_clash.ensures c.in_default.is)

pub returns : goal.returns
returns c =
    paired_end _ _ c.loop-i.invariant
    (omega (arith, length-map c.args.repeaters.now assignment_of, c.loop-i-test.false))
