use Rattle.std.proofs.Common.{◌-◌}
use Rattle.history_run.proofs.lent.next_bytes.Given as goal

abbrev pub decreases-loop-at : goal.decreases-loop-at
decreases-loop-at g l = l.n - l.at
