-- `mooringeye::mooringeye_plan` meets its contract: what `plan` answers is packed.
use mathlib.Core.Path.{◌∙◌, ap}
use Rattle.mooringeye.specs.Packed.{packed}
use Rattle.mooringeye.proofs.mooringeye_plan.Goals as goal

pub returns : goal.returns
returns c = c.pack_planned.ensures ∙ ap packed c.plan.ensures
