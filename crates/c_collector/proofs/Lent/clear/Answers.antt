-- `c_collector::Lent::clear` meets its contract: by computation.
use mathlib.Core.Path.{refl}
use Rattle.collector_model.specs.View.{fresh}
use Rattle.collector_state.specs.Collector.{entries_at}
use Rattle.base_lists.specs.Lists.{up_from}
use Rattle.c_collector.proofs.Lent.clear.Goals as goal

pub returns-clause-fresh : goal.returns-clause-fresh
unfolding fresh entries_at up_from
returns-clause-fresh c = record { zero = refl; state = refl }
