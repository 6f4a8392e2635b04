-- `take_bench::bench_test` is safe and ends. The loop's invariant: i is at most the rounds; the measure is what is left of them.
use Rattle.std.proofs.Common.{◌-◌, ◌≤◌}
use Rattle.take_bench.proofs.bench_test.Given as goal

abbrev pub invariant-loop-i : goal.invariant-loop-i
invariant-loop-i l = l.i ≤ l.rounds

abbrev pub decreases-loop-i : goal.decreases-loop-i
decreases-loop-i l = l.rounds - l.i
