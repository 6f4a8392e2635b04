-- `c_collector::Held::totals` meets its contract: a case for each answer.
use mathlib.Core.Path.{sym, ◌∙◌}
use Rattle.c_collector.proofs.State.{totals-refused, totals-shown}
use Rattle.c_collector.proofs.Held.totals.Goals as goal

pub returns-then-not-is_acceptable : goal.returns-then-not-is_acceptable
returns-then-not-is_acceptable c =
    rw c.number.ensures
    (totals-refused _ _ (sym c.is_acceptable.ensures ∙ c.if-not-is_acceptable.true))

pub returns : goal.returns
returns c =
    totals-shown _ _ (sym c.is_acceptable.ensures ∙ c.if-not-is_acceptable.false)
