-- `plan_rules::rule_of` meets its contract: the tables of code and definition read the same by computation.
use borrow.Author.Tests.{eq-eqb, ne_eqb}
use Rattle.plan_rules.proofs.rule_of.Goals as goal

pub returns-then-transmissions-eq2 : goal.returns-then-transmissions-eq2
returns-then-transmissions-eq2 c = simp (eq-eqb _ _ c.if-transmissions-eq2.true)

pub returns : goal.returns
returns c = simp (ne_eqb _ _ c.if-transmissions-eq2.false)
