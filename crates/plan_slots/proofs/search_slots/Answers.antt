-- `plan_slots::search_slots` meets its contract. The loop ends before the first slot of an empty range, or behind the last slot.
use borrow.Author.Rules.{rules}
use mathlib.Core.Path.{◌≡◌, ◌∙◌, sym, subst}
use native.Mathlib.Omega.{arith}
use Rattle.std.proofs.Common.{ℕ, ◌-◌, ◌^◌, ◌≤◌, ◌<◌}
use Rattle.std.specs.Prelude.{Result, Err}
use Rattle.plan_slots.specs.declared.SlotPlan.{SlotPlan}
use Rattle.plan_slots.specs.Search.{CountsAtMost}
use Rattle.plan_slots.proofs.Blocks.{at_start, at_next, at_end, found}
use Rattle.plan_slots.proofs.search_slots.Goals.{else-loop-slot-test, then-loop-slot-test+in-Err+else-slot-slot-end}
use Rattle.plan_slots.proofs.search_slots.Goals as goal

-- a slot that was passed has no more plans than the index says
passed : (gives : ℕ → ℕ → Result SlotPlan ℕ → Type 0) (slot k n : ℕ) {r : Result SlotPlan ℕ} → CountsAtMost gives
    → slot < 256 → k < 2 ^ 64 → r ≡ Err n → gives slot k r → n ≤ k
passed gives slot k n counts s b e told = counts slot k n s b (subst (gives slot k) e told)

pub loop-slot-init : goal.loop-slot-init
loop-slot-init g c = (omega arith, λ f h. at_start f _ _ _)

pub overflow_sub-k : goal.overflow_sub-k
overflow_sub-k g c = c.loop-slot.invariant.0

pub returns-in-Ok : goal.returns-in-Ok
returns-in-Ok g c =
    λ f h.
    let last : c.args.range.last < 256 = search rules in
    found f _ _ (c.loop-slot.invariant.1 f h) (omega (arith, c.loop-slot-test.true))
    (sym c.in-Ok.is
    ∙ h _ _ _ (omega (arith, last, c.loop-slot-test.true)) (omega (arith, c.ranges.k)) c.find.ensures)

pub overflow_add-passed : goal.overflow_add-passed
overflow_add-passed g c =
    let last : c.args.range.last < 256 = search rules in
    let few : c.in-Err.n ≤ c.args.k - c.loop-slot.passed =
    passed (goal.F-post g c.args.find) c.loop-slot.slot (c.args.k - c.loop-slot.passed) _ c.requires.counts
    (omega (arith, last, c.loop-slot-test.true)) (omega (arith, c.ranges.k)) c.in-Err.is c.find.ensures in
    omega (arith, few, c.loop-slot.invariant.0, c.ranges.k)

pub loop-slot-preserved : goal.loop-slot-preserved
loop-slot-preserved g c =
    let last : c.args.range.last < 256 = search rules in
    let few : c.in-Err.n ≤ c.args.k - c.loop-slot.passed =
    passed (goal.F-post g c.args.find) c.loop-slot.slot (c.args.k - c.loop-slot.passed) _ c.requires.counts
    (omega (arith, last, c.loop-slot-test.true)) (omega (arith, c.ranges.k)) c.in-Err.is c.find.ensures in (
      omega (arith, few, c.loop-slot.invariant.0),
      λ f h.
          at_next f _ _ (c.loop-slot.invariant.1 f h) (omega (arith, c.loop-slot-test.true))
          (sym c.in-Err.is
          ∙ h _ _ _ (omega (arith, last, c.loop-slot-test.true)) (omega (arith, c.ranges.k)) c.find.ensures),
    )

pub returns : goal.returns
returns g c =
    λ f h.
    let last : c.args.range.last < 256 = search rules in
    elim c.loop-slot-test.branch [
      | else-loop-slot-test w ↦
          rw w.passed-is (at_end f _ _ (c.loop-slot.invariant.1 f h) (omega (arith, w.loop-slot-test.false)))
      | then-loop-slot-test+in-Err+else-slot-slot-end w ↦
          rw w.passed-is
          (at_end f _ _
          (at_next f _ _ (c.loop-slot.invariant.1 f h) (omega (arith, w.loop-slot-test.true))
          (sym w.in-Err.is
          ∙ h _ _ _ (omega (arith, last, w.loop-slot-test.true)) (omega (arith, c.ranges.k)) w.find.ensures))
          (search rules))
    ]
