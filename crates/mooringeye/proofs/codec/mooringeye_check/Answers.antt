-- `mooringeye::codec::mooringeye_check` meets its contract.
use mathlib.Core.Path.{◌∙◌}
use Rattle.mooringeye.proofs.codec.mooringeye_check.Goals as goal

pub returns : goal.returns
returns c = c.checked_number.ensures ∙ c.check.ensures
