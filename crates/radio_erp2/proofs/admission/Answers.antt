-- `radio_erp2::admission` meets its contract: a law of `Admitting` for each return.
use mathlib.Core.Path.{sym, ◌∙◌}
use Rattle.radio_erp2.proofs.Admitting.{admits_unholdable, admits_against, admits-reserved, admits_misfit, admits_all, short-most}
use Rattle.radio_erp2.proofs.admission.Goals as goal

pub returns-then-is_unholdable : goal.returns-then-is_unholdable
returns-then-is_unholdable c = admits_unholdable _ (sym c.is_unholdable.ensures ∙ c.if-is_unholdable.true)

pub returns-then-is_against_header : goal.returns-then-is_against_header
returns-then-is_against_header c = admits_against _ (sym c.is_against_header.ensures ∙ c.if-is_against_header.true)

pub returns-then-reserved : goal.returns-then-reserved
returns-then-reserved c =
    let holds = sym c.is_unholdable.ensures ∙ c.if-is_unholdable.false in
    let agrees = sym c.is_against_header.ensures ∙ c.if-is_against_header.false in
    admits-reserved _ holds agrees c.if-reserved.true

pub is_misfitting-requires : goal.is_misfitting-requires
is_misfitting-requires c = short-most _ (sym c.is_unholdable.ensures ∙ c.if-is_unholdable.false)

pub returns-then-is_misfitting : goal.returns-then-is_misfitting
returns-then-is_misfitting c =
    let holds = sym c.is_unholdable.ensures ∙ c.if-is_unholdable.false in
    let agrees = sym c.is_against_header.ensures ∙ c.if-is_against_header.false in
    admits_misfit _ holds agrees c.if-reserved.false (sym c.is_misfitting.ensures ∙ c.if-is_misfitting.true)

pub returns : goal.returns
returns c =
    let holds = sym c.is_unholdable.ensures ∙ c.if-is_unholdable.false in
    let agrees = sym c.is_against_header.ensures ∙ c.if-is_against_header.false in
    admits_all _ holds agrees c.if-reserved.false (sym c.is_misfitting.ensures ∙ c.if-is_misfitting.false)
