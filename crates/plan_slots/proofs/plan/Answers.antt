-- `plan_slots::plan` meets its contract: its test is `allowed`.
use mathlib.Core.Path.{◌≡◌, ◌∙◌, sym, ap}
use borrow.Author.Tests.{leb-true}
use Rattle.base_lists.proofs.Choice.{both}
use Rattle.plan_slots.specs.declared.Rule.{Rule}
use Rattle.plan_slots.specs.Plan.{plan_of, allowed, is_level, drawn, plans}
use mathlib.Core.Bool.{Bool, true, false, ◌&&◌}
use Rattle.plan_slots.proofs.plan.Goals as goal

pub returns-then-not-allowed : goal.returns-then-not-allowed
unfolding plan_of
returns-then-not-allowed c =
    let args = c.args in
    let no : allowed args.level args.duration ≡ false =
    ap (λ (b : Bool). is_level args.level && b) (sym c.is_duration.ensures) ∙ c.if-not-allowed.true in
    simp no

pub standard_rule-requires : goal.standard_rule-requires
standard_rule-requires c =
    let args = c.args in
    leb-true args.level 2 (both (is_level args.level) c.is_duration.result c.if-not-allowed.false).0

pub returns : goal.returns
unfolding plan_of
returns c =
    let args = c.args in
    let yes : allowed args.level args.duration ≡ true =
    ap (λ (b : Bool). is_level args.level && b) (sym c.is_duration.ensures) ∙ c.if-not-allowed.false in
    simp yes
    (c.choose.ensures
    ∙ ap (λ (r : Rule). drawn (plans r args.duration) args.draw) c.standard_rule.ensures)
