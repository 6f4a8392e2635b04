-- `history_replay::values::all` meets its contract. The invariant: the record of the first i calls is written, and the state is that after them; the measure: the
-- calls left.
use Prim.Native.Nat.{◌-◌}
use Rattle.c_collector.specs.State.{arrays_of}
use Rattle.history_replay.proofs.Running.{Calling}
use Rattle.history_replay.proofs.values.all.Given as goal

abbrev pub invariant-loop-i : goal.invariant-loop-i
invariant-loop-i l =
    Calling l.calls l.lent (arrays_of l.initial.now) l.i l.i-end l.initial.out l.out l.at (arrays_of l.now)

abbrev pub decreases-loop-i : goal.decreases-loop-i
decreases-loop-i l = l.i-end - l.i
