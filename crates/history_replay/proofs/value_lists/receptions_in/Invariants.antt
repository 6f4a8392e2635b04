-- `history_replay::value_lists::receptions_in` meets its contract. The invariant: the first i are read; the measure: the records left.
use Prim.Native.Nat.{◌-◌}
use Rattle.collector_burst.specs.Records.{reception_of}
use Rattle.history_replay.proofs.Filling.{Filled, reception_at, none}
use Rattle.history_replay.proofs.value_lists.receptions_in.Given as goal

abbrev pub invariant-loop-i : goal.invariant-loop-i
invariant-loop-i l = Filled reception_of (reception_at l.bytes) none l.bytes l.n l.all l.i

abbrev pub decreases-loop-i : goal.decreases-loop-i
decreases-loop-i l = l.n - l.i
