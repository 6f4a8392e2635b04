-- `c_checkpoint::restore` meets its contract: a case for each answer.
use mathlib.Core.Path.{◌≡◌, sym, ap, ◌∙◌}
use mathlib.Core.Bool.{true, false}
use Rattle.collector_model.specs.Acceptable.{acceptable}
use Rattle.c_collector.specs.State.{Arrays, arrays_in, state_at}
use Rattle.c_collector.proofs.State.{same_loans}
use Rattle.c_checkpoint.proofs.Restoring.{refused-state, refused-image, restored}
use Rattle.c_checkpoint.proofs.restore.Goals.{Then-not-is_acceptable, Else-not-is_acceptable}
use Rattle.c_checkpoint.proofs.restore.Goals as goal

failed : (c : Then-not-is_acceptable) → acceptable (state_at (arrays_in c.args.state.now)) ≡ false
failed c =
    ap (λ (a : Arrays). acceptable (state_at a)) (sym c.held.ensures) ∙ sym c.is_acceptable.ensures
    ∙ c.if-not-is_acceptable.true

passed : (c : Else-not-is_acceptable) → acceptable (state_at (arrays_in c.args.state.now)) ≡ true
passed c =
    ap (λ (a : Arrays). acceptable (state_at a)) (sym c.held.ensures) ∙ sym c.is_acceptable.ensures
    ∙ c.if-not-is_acceptable.false

pub returns-then-not-is_acceptable : goal.returns-then-not-is_acceptable
returns-then-not-is_acceptable c = record {
  restores =
      refused-state _ _ (failed (goal.at.returns-then-not-is_acceptable c).Then-not-is_acceptable) _ c.number.ensures;
  same_loans = same_loans _;
}

pub returns-in-Err-clause-restores : goal.returns-in-Err-clause-restores
returns-in-Err-clause-restores c =
    refused-image _ _ (passed (goal.at.returns-in-Err-clause-restores c).Else-not-is_acceptable) _
    c.fresh.ensures.state _ c.restore.ensures _ c.in-Err.is _ c.number-in-Err.ensures

pub returns-in-Ok-clause-restores : goal.returns-in-Ok-clause-restores
returns-in-Ok-clause-restores c =
    restored _ _ (passed (goal.at.returns-in-Ok-clause-restores c).Else-not-is_acceptable) _
    c.fresh.ensures.state _ c.restore.ensures _ c.in-Ok.is _ c.put_state.ensures.put
