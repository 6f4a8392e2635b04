-- `plan_slots::row` meets its contract: each answer is a case of `Third`.
use borrow.Author.Rules.{rules}
use Rattle.plan_slots.proofs.Third.{row_too_long, row_none, row_some}
use Rattle.plan_slots.proofs.row.Goals as goal

pub returns-then-last-d : goal.returns-then-last-d
returns-then-last-d c = row_too_long _ _ _ _ (search rules)

pub returns-then-high-low : goal.returns-then-high-low
returns-then-high-low c = row_none _ _ _ _ (search rules) (search rules)

pub returns : goal.returns
returns c = row_some _ _ _ _ _ _ (search rules) (search rules) (search rules) (search rules) (search rules)
