-- `mooringeye::plant::mooringeye_journal_judge` meets its contract: the number of the judgement.
use mathlib.Core.Path.{ap, ◌∙◌}
use Rattle.journal_calls.specs.Block.{judgement_number}
use Rattle.mooringeye.proofs.plant.mooringeye_journal_judge.Goals as goal

pub returns : goal.returns
returns c = c.into.ensures ∙ ap judgement_number c.judge.ensures
