-- `collector_checkpoint::first_in` meets its contract.
use mathlib.Core.Path.{ap, ◌∙◌}
use Rattle.collector_model.specs.Header.{header_first}
use Rattle.collector_checkpoint.proofs.first_in.Goals as goal

pub returns : goal.returns
returns c = c.number_at.ensures ∙ ap header_first c.header_in.ensures
