-- `history_replay::all` meets its contract. The invariant: the record of the first i calls is written, and the arrays are those after them; the measure: the
-- calls left.
use Prim.Native.Nat.{◌-◌}
use Rattle.c_collector.specs.State.{arrays_in, SameLoans}
use Rattle.history_replay.proofs.Running.{Calling}
use Rattle.history_replay.proofs.all.Given as goal

abbrev pub invariant-loop-i : goal.invariant-loop-i
invariant-loop-i l =
    Calling l.calls l.lent (arrays_in l.fn.state) l.i l.i-end l.fn.out l.out l.at (arrays_in l.state)
    × SameLoans l.fn.state l.state

abbrev pub decreases-loop-i : goal.decreases-loop-i
decreases-loop-i l =
    l.i-end - l.i
