-- `collector_checkpoint::second_in` meets its contract.
use mathlib.Core.Path.{ap, ◌∙◌}
use Rattle.collector_model.specs.Header.{header_second}
use Rattle.collector_checkpoint.proofs.second_in.Goals as goal

pub returns : goal.returns
returns c = c.number_at.ensures ∙ ap header_second c.header_in.ensures
