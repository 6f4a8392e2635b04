-- `plan_slots::is_lawful` meets its contract: each call answers one test of a plan, slot by slot.
use Rattle.plan_slots.specs.Search.{passes}
use Rattle.plan_slots.proofs.Parts.{lawful_passes}
use Rattle.plan_slots.proofs.is_lawful.Goals as goal

pub returns : goal.returns
unfolding passes
returns c = simp lawful_passes cc
