-- `collector_state::acceptable::mark` meets its contract: a remainder of 1024 is below it.
use native.Mathlib.Omega.{arith}
use Rattle.collector_state.specs.Private.{mark_of}
use Rattle.collector_state.proofs.acceptable.mark.Goals as goal

pub returns : goal.returns
unfolding mark_of
returns c = (rw (c.from-last.ensures, c.from-other.ensures, c.from-first.ensures), omega arith)
