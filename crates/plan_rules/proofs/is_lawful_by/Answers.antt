-- `plan_rules::is_lawful_by` meets its contract: each return is a case of `is_lawful_by`, in its order.
use mathlib.Core.Path.{sym, ◌∙◌}
use mathlib.Core.Bool.{and-false}
use borrow.Author.Tests.{eq-eqb, ne_eqb}
use Rattle.plan_rules.specs.Rules.{is_lawful_by}
use Rattle.plan_rules.proofs.Known.{known}
use Rattle.plan_rules.proofs.is_lawful_by.Goals as goal

pub returns-then-not-timed : goal.returns-then-not-timed
unfolding is_lawful_by
returns-then-not-timed c =
    let no = sym c.is_duration-timed.ensures ∙ c.if-not-timed.true in
    simp no

pub returns-then-not-is_known : goal.returns-then-not-is_known
unfolding is_lawful_by
returns-then-not-is_known c =
    let no = sym c.is_known.ensures ∙ c.if-not-is_known.true in
    simp (no, and-false)

pub is_lawful_of_two-requires : goal.is_lawful_of_two-requires
is_lawful_of_two-requires c = known _ _ (sym c.is_known.ensures ∙ c.if-not-is_known.false)

pub returns-then-plan-eq-NO_SLOT : goal.returns-then-plan-eq-NO_SLOT
unfolding is_lawful_by
returns-then-plan-eq-NO_SLOT c =
    let timed = sym c.is_duration-timed.ensures ∙ c.if-not-timed.false in
    let named = sym c.is_known.ensures ∙ c.if-not-is_known.false in
    simp (timed, named, eq-eqb _ _ c.if-plan-eq-NO_SLOT.true) c.is_lawful_of_two.ensures

pub is_lawful_of_three-requires : goal.is_lawful_of_three-requires
is_lawful_of_three-requires c = known _ _ (sym c.is_known.ensures ∙ c.if-not-is_known.false)

pub returns : goal.returns
unfolding is_lawful_by
returns c =
    let timed = sym c.is_duration-timed.ensures ∙ c.if-not-timed.false in
    let named = sym c.is_known.ensures ∙ c.if-not-is_known.false in
    simp (timed, named, ne_eqb _ _ c.if-plan-eq-NO_SLOT.false) c.is_lawful_of_three.ensures
