-- `collector_state::entries::close_up` meets its contract: a move from 0 on to 0 changes nothing.
use Rattle.std.proofs.Common.{refl, ◌∙◌}
use Rattle.collector_state.proofs.Moving.{moved_none, moved_within}
use Rattle.collector_state.proofs.entries.close_up.Goals as goal

pub returns-then-gone-eq0 : goal.returns-then-gone-eq0
returns-then-gone-eq0 g c = moved_none _ _ c.if-gone-eq0.true

pub returns : goal.returns
returns g c = c.copy_within.ensures.after ∙ moved_within c.args.gone c.args.left _ _ refl
