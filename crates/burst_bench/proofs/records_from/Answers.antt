-- The goals that a search does not find.
use Rattle.std.proofs.Common.{arith}
use Rattle.burst_bench.proofs.records_from.Goals as goal

pub overflow_add-k : goal.overflow_add-k
overflow_add-k c = omega arith

pub overflow_mul-k : goal.overflow_mul-k
overflow_mul-k c = omega arith

pub overflow_step-i : goal.overflow_step-i
overflow_step-i c = omega arith

pub loop-i-smaller : goal.loop-i-smaller
loop-i-smaller c = omega arith

pub loop-i-preserved : goal.loop-i-preserved
loop-i-preserved c = record { bounded = omega arith; early = omega arith }
