-- `collector_state::Collector::copies` meets its contract: a case for each answer.
use Prim.Native.Nat.{◌≤◌}
use mathlib.Core.Path.{◌≡◌, sym, ◌∙◌}
use mathlib.Core.Bool.{true, false}
use native.Mathlib.Omega.{arith}
use Rattle.collector_model.specs.View.{capacity}
use Rattle.collector_model.specs.Acceptable.{acceptable}
use Rattle.collector_state.specs.Collector.{view_of}
use Rattle.collector_state.proofs.Hearing.{heard_unacceptable, heard_few, heard-closed, heard_open}
use Rattle.collector_state.proofs.Collector.copies.Goals as goal
use Rattle.collector_state.proofs.Collector.copies.Goals.{Then-not-is_acceptable, Else-not-is_acceptable, Else-summary-entry}

-- what the state's test says of it
failed : (c : Then-not-is_acceptable) → acceptable (view_of c.args.self) ≡ false
unfolding view_of
failed c = sym (c.is_acceptable.ensures _) ∙ c.if-not-is_acceptable.true

passed : (c : Else-not-is_acceptable) → acceptable (view_of c.args.self) ≡ true
unfolding view_of
passed c = sym (c.is_acceptable.ensures _) ∙ c.if-not-is_acceptable.false

-- the entry is open
few : (c : Else-summary-entry) → c.args.self.summary.count ≤ capacity
few c = heard_few _ c.args.entry (passed c.before.before)

pub returns-then-not-is_acceptable : goal.returns-then-not-is_acceptable
returns-then-not-is_acceptable c =
    let at = goal.at.returns-then-not-is_acceptable c in
    heard_unacceptable _ _ (failed at.Then-not-is_acceptable)

pub returns-then-summary-entry : goal.returns-then-summary-entry
returns-then-summary-entry c =
    let at = goal.at.returns-then-summary-entry c in
    heard-closed _ _ (passed at.Else-not-is_acceptable) c.if-summary-entry.true

pub returns : goal.returns
returns c = heard_open _ _ (passed (goal.at.returns c).Else-not-is_acceptable) c.if-summary-entry.false

pub offset_bounds-self-entry : goal.offset_bounds-self-entry
offset_bounds-self-entry c = omega (arith, few c, c.if-summary-entry.false)

pub bounds-self-entry : goal.bounds-self-entry
bounds-self-entry c = omega (arith, few c, c.if-summary-entry.false)
