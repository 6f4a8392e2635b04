-- `journal_state::is_plain` meets its contract.
use mathlib.Core.Path.{refl}
use Rattle.journal_state.specs.Lawful.{is_plain}
use Rattle.journal_state.proofs.is_plain.Goals as goal

pub returns : goal.returns
unfolding is_plain
returns c = refl
