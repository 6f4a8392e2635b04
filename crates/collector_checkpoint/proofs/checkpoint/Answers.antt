-- `collector_checkpoint::checkpoint` meets its contract: it lends the parts of its state.
use Rattle.collector_state.specs.Collector.{view_of}
use Rattle.collector_checkpoint.proofs.checkpoint.Goals as goal

pub returns : goal.returns
unfolding view_of
returns c = c.checkpoint_at.ensures
