-- `c_collector::Lent::take` meets its contract: the reception is taken as the test of the state says.
use mathlib.Core.Path.{ap, ◌∙◌}
use Rattle.collector_model.specs.Acceptable.{acceptable}
use Rattle.c_collector.specs.State.{Arrays, state_at}
use Rattle.c_collector.proofs.State.{taken}
use Rattle.c_collector.proofs.Lent.take.Goals as goal

pub returns-clause-takes : goal.returns-clause-takes
returns-clause-takes c =
    taken _ _ _ _ _ (c.is_acceptable-fit.ensures ∙ ap (λ (a : Arrays). acceptable (state_at a)) c.held.ensures)
    c.take_told.ensures.takes
