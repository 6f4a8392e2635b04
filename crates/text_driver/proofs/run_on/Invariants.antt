use Rattle.std.proofs.Common.{◌≤◌}
use Rattle.text_driver.proofs.run_on.Given as goal

abbrev pub invariant-loop : goal.invariant-loop
invariant-loop g l = l.kept ≤ 150
