-- `plan_slots::choose` meets its contract: where the first search does not reach the draw's index, its count gives the index that the second
-- looks up, which is in the list.
use mathlib.Core.Path.{◌∙◌, sym}
use Rattle.plan_slots.proofs.Draw.{drawn_first, drawn_none, drawn_again}
use Rattle.plan_slots.proofs.choose.Goals as goal

pub returns-then-n-lt1 : goal.returns-then-n-lt1
returns-then-n-lt1 c = drawn_none _ _ (sym c.in-Err.is ∙ c.search.ensures) c.if-n-lt1.true

pub returns-in-Ok : goal.returns-in-Ok
returns-in-Ok c = drawn_first _ _ (sym c.in-Ok.is ∙ c.search.ensures)

pub returns-else-n-lt1 : goal.returns-else-n-lt1
returns-else-n-lt1 c =
    drawn_again _ _ (sym c.in-Err.is ∙ c.search.ensures) c.if-n-lt1.false _ c.search-in-Err.ensures _ _
    c.map_err.ensures.cases
