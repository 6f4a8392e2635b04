use Rattle.std.proofs.Common.{◌≤◌}
use Rattle.archive_run.proofs.calls.Given as goal

abbrev pub invariant-loop : goal.invariant-loop
invariant-loop g l = l.n ≤ 24576
