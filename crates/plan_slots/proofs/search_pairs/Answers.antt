-- `plan_slots::search_pairs` meets its contract: the second slots are a row.
use borrow.Author.Rules.{rules}
use Rattle.plan_slots.proofs.After.{pairs_counted, pairs_found}
use Rattle.plan_slots.proofs.search_pairs.Goals as goal

pub returns-then-run-k : goal.returns-then-run-k
returns-then-run-k c = pairs_counted _ _ _ c.requires c.row-run.ensures _ (search rules)

pub returns : goal.returns
returns c =
    pairs_found _ _ _ c.requires c.row-run.ensures _ (search rules)
