-- `c_collector::Lent::take_told` meets its contract: the reception is admitted as was told.
use Rattle.c_collector.proofs.State.{told}
use Rattle.c_collector.proofs.Lent.take_told.Goals as goal

pub returns-clause-takes : goal.returns-clause-takes
returns-clause-takes c =
    told _ _ _ _ _ _ c.summary_in.ensures.1 c.summary_in.ensures.0 c.admit-answer.ensures.admits
    _ c.answer_number.ensures _ c.store.ensures
