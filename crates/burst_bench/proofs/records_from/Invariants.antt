-- `burst_bench::records_from` is safe and ends. The loop's invariant: the index is at most 256; the measure is what is left of it.
use Rattle.std.proofs.Common.{ℕ, ◌-◌, ◌≤◌}
use Rattle.burst_bench.proofs.records_from.Given as goal

pub record Reading (k i : ℕ) : Type 0 where
  pub bounded : i ≤ 256
  pub early : k ≤ 256

abbrev pub invariant-loop-i : goal.invariant-loop-i
invariant-loop-i l = Reading l.k l.i

abbrev pub decreases-loop-i : goal.decreases-loop-i
decreases-loop-i l = 256 - l.i
