-- `plan_rules::is_lawful_of_two` meets its contract: each return is one of `Rows`.
use mathlib.Core.Path.{◌∙◌}
use Rattle.plan_rules.proofs.Rows.{compressed_of_two, level_1, level_2, standard_of_two, paused_of_two}
use Rattle.plan_rules.proofs.is_lawful_of_two.Goals as goal

pub returns-then-rule-eq-COMPRESSED : goal.returns-then-rule-eq-COMPRESSED
returns-then-rule-eq-COMPRESSED c = compressed_of_two _ _ _ _ c.requires c.if-rule-eq-COMPRESSED.true

pub returns-then-level-eq1 : goal.returns-then-level-eq1
returns-then-level-eq1 c =
    c.is_lawful.ensures ∙ level_1 _ _ _ _ c.requires c.if-rule-eq-COMPRESSED.false c.if-level-eq1.true

pub returns-then-level-eq2 : goal.returns-then-level-eq2
returns-then-level-eq2 c =
    c.is_lawful-then-level-eq2.ensures ∙ level_2 _ _ _ _ c.requires c.if-rule-eq-COMPRESSED.false c.if-level-eq2.true

pub returns-then-rule-eq-STANDARD : goal.returns-then-rule-eq-STANDARD
returns-then-rule-eq-STANDARD c =
    standard_of_two _ _ _ _ c.requires c.if-rule-eq-COMPRESSED.false
    c.if-level-eq1.false c.if-level-eq2.false c.if-rule-eq-STANDARD.true

pub returns : goal.returns
returns c =
    c.is_lawful-2.ensures
    ∙ paused_of_two _ _ _ _ c.requires c.if-rule-eq-COMPRESSED.false
    c.if-level-eq1.false c.if-level-eq2.false c.if-rule-eq-STANDARD.false
