-- `collector_checkpoint::used_in` meets its contract.
use mathlib.Core.Path.{ap, ◌∙◌}
use native.Mathlib.Omega.{arith}
use Rattle.collector_model.specs.Header.{header_used}
use Rattle.collector_checkpoint.proofs.used_in.Goals as goal

pub returns : goal.returns
returns c = (c.byte_at.ensures ∙ ap header_used c.header_in.ensures, omega arith)
