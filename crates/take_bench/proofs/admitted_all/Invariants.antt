-- The same arrays stay lent.
use Rattle.collector_state.specs.Collector.{SameArrays}
use Rattle.take_bench.proofs.admitted_all.Given as goal

abbrev pub invariant-loop-i : goal.invariant-loop-i
invariant-loop-i l = SameArrays l.fn.state l.state
