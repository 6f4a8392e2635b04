-- `plan_rules::plan_by` meets its contract: its three tests are those of `is_allowed`, and `choose` draws under the rule that was looked up.
use mathlib.Core.Path.{sym, ◌∙◌, ap}
use mathlib.Core.Bool.{and-false}
use Rattle.plan_slots.specs.declared.Rule.{Rule}
use Rattle.plan_slots.specs.Plan.{drawn, plans}
use Rattle.plan_rules.specs.Rules.{plan_by}
use Rattle.plan_rules.proofs.Known.{known}
use Rattle.plan_rules.proofs.plan_by.Goals as goal

pub returns-then-not-is_duration : goal.returns-then-not-is_duration
unfolding plan_by
returns-then-not-is_duration c =
    let no = sym c.is_duration.ensures ∙ c.if-not-is_duration.true in
    simp no

pub returns-then-not-is_known : goal.returns-then-not-is_known
unfolding plan_by
returns-then-not-is_known c =
    let no = sym c.is_known.ensures ∙ c.if-not-is_known.true in
    simp (no, and-false)

pub offers-requires : goal.offers-requires
offers-requires c = known _ _ (sym c.is_known.ensures ∙ c.if-not-is_known.false)

pub returns-then-not-offers : goal.returns-then-not-offers
unfolding plan_by
returns-then-not-offers c =
    let no = sym c.offers.ensures ∙ c.if-not-offers.true in
    simp (no, and-false)

pub rule_of-requires : goal.rule_of-requires
rule_of-requires c =
    known _ _ (sym c.is_known.ensures ∙ c.if-not-is_known.false)

pub returns : goal.returns
unfolding plan_by
returns c =
    let a = c.args in
    let timed = sym c.is_duration.ensures ∙ c.if-not-is_duration.false in
    let named = sym c.is_known.ensures ∙ c.if-not-is_known.false in
    let offered = sym c.offers.ensures ∙ c.if-not-offers.false in
    simp (timed, named, offered)
    (c.choose.ensures ∙ ap (λ (r : Rule). drawn (plans r a.duration) a.draw) c.rule_of.ensures)
