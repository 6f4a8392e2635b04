-- `plan_rules::is_lawful_of_three` meets its contract: each return is one of `Rows`.
use mathlib.Core.Path.{◌∙◌}
use Rattle.plan_rules.proofs.Rows as rows
use Rattle.plan_rules.proofs.is_lawful_of_three.Goals as goal

pub returns-then-level-eq2 : goal.returns-then-level-eq2
returns-then-level-eq2 c = rows.compressed_unused _ _ _ _ c.requires c.if-rule-eq-COMPRESSED.true c.if-level-eq2.true

pub returns-then-rule-eq-COMPRESSED : goal.returns-then-rule-eq-COMPRESSED
returns-then-rule-eq-COMPRESSED c =
    c.is_lawful.ensures
    ∙ rows.compressed_of_three _ _ _ _ c.requires c.if-rule-eq-COMPRESSED.true c.if-level-eq2.false

pub returns-then-level-ne0 : goal.returns-then-level-ne0
returns-then-level-ne0 c = rows.two_of_three _ _ _ _ c.requires c.if-rule-eq-COMPRESSED.false c.if-level-ne0.true

pub returns-then-rule-eq-STANDARD : goal.returns-then-rule-eq-STANDARD
returns-then-rule-eq-STANDARD c =
    c.is_lawful-then-rule-eq-STANDARD.ensures
    ∙ rows.standard_of_three _ _ _ _ c.requires c.if-rule-eq-STANDARD.true c.if-level-ne0.false

pub returns : goal.returns
returns c =
    c.is_lawful-2.ensures
    ∙ rows.paused_of_three _ _ _ _ c.requires
    c.if-rule-eq-COMPRESSED.false c.if-level-ne0.false c.if-rule-eq-STANDARD.false
