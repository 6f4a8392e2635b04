-- `burst_bench::bursts_from` is safe and ends. The loop's invariant: i is at most the rounds; the measure is what is left of them.
use Rattle.std.proofs.Common.{◌-◌, ◌≤◌}
use Rattle.burst_bench.proofs.bursts_from.Given as goal

abbrev pub invariant-loop-i : goal.invariant-loop-i
invariant-loop-i l = l.i ≤ l.rounds

abbrev pub decreases-loop-i : goal.decreases-loop-i
decreases-loop-i l = l.rounds - l.i
