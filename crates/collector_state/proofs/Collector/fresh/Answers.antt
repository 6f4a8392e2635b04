-- `collector_state::Collector::fresh` meets its contract: with a count of 0 no entry shows.
use mathlib.Core.Path.{refl}
use mathlib.Core.List.{flatten}
use Rattle.base_lists.specs.Lists.{up_from}
use Rattle.collector_model.specs.View.{fresh}
use Rattle.collector_state.specs.Collector.{entries_at, columns_holding, view_of}
use Rattle.collector_state.proofs.Collector.fresh.Goals as goal

pub returns : goal.returns
unfolding fresh view_of entries_at up_from columns_holding flatten
returns c = record { state = refl; elements = refl }
