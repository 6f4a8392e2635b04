-- `mooringeye::mooringeye_plan_by` meets its contract: what `plan_by` answers is packed.
use mathlib.Core.Path.{◌∙◌, ap}
use Rattle.mooringeye.specs.Packed.{packed}
use Rattle.mooringeye.proofs.mooringeye_plan_by.Goals as goal

pub returns : goal.returns
returns c = c.pack_planned.ensures ∙ ap packed c.plan_by.ensures
