-- `plan_slots::thirds` meets its contract: each answer is a case of `Third`.
use mathlib.Core.Path.{sym, ◌∙◌}
use borrow.Author.Rules.{rules}
use Rattle.plan_slots.proofs.Third.{none_fits, none_late, third_row}
use Rattle.plan_slots.proofs.thirds.Goals as goal

pub returns-then-ended-rule : goal.returns-then-ended-rule
returns-then-ended-rule c = none_fits _ _ _ (sym c.is_of_two.ensures ∙ c.if-is_of_two.true) (search rules)

pub returns-then-is_of_two : goal.returns-then-is_of_two
returns-then-is_of_two c = none_late _ _ _ (sym c.is_of_two.ensures ∙ c.if-is_of_two.true) (search rules)

pub returns : goal.returns
returns c = third_row _ _ _ (sym c.is_of_two.ensures ∙ c.if-is_of_two.false) c.row.ensures
