-- `plan_slots::search_slots` meets its contract: the slots are tried in order. The invariant is `Passed`, for whatever plans `find` finds: how many
-- plans the slots before this one have, and that index k is not among them; the measure: the slots left.
use Rattle.std.proofs.Common.{◌≤◌, ℕ, List, ◌+◌}
use Rattle.plan_slots.specs.declared.SlotPlan.{SlotPlan}
use Rattle.plan_slots.specs.Search.{LooksUp}
use Rattle.plan_slots.proofs.Blocks.{Passed}
use Rattle.plan_slots.proofs.search_slots.Given as goal

abbrev pub invariant-loop-slot : goal.invariant-loop-slot
invariant-loop-slot g l =
    (l.passed ≤ l.k)
    × ((f : ℕ → List SlotPlan) → LooksUp (goal.F-post g l.find) f
    → Passed f l.fn.range.first (l.fn.range.last + 1) l.k l.slot l.passed)
