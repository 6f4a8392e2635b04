-- `plan_slots::search_after` meets its contract: its three answers are those of `After`.
use mathlib.Core.Path.{◌∙◌, sym}
use borrow.Author.Rules.{rules}
use Rattle.plan_slots.proofs.After.{after_none, after_counted, after_found}
use Rattle.plan_slots.proofs.search_after.Goals as goal

pub returns-then-not-second_follows : goal.returns-then-not-second_follows
returns-then-not-second_follows c = after_none _ _ _ _ _ (sym c.second_follows.ensures ∙ c.if-not-second_follows.true)

pub returns-then-run-k : goal.returns-then-run-k
returns-then-run-k c =
    after_counted _ _ _ _ _ _ _ (sym c.second_follows.ensures ∙ c.if-not-second_follows.false)
    c.thirds-run.ensures (search rules)

pub returns : goal.returns
returns c =
    after_found _ _ _ _ _ _ _ (sym c.second_follows.ensures ∙ c.if-not-second_follows.false)
    c.thirds-run.ensures (search rules)
