-- `history_replay::lent_lists::put_places` meets its contract. The invariant: the first i places are written; the measure: the places left.
use Prim.Native.Nat.{◌-◌}
use Rattle.history_replay.proofs.Lent.{Laid, cells}
use Rattle.history_replay.proofs.lent_lists.put_places.Given as goal

abbrev pub invariant-loop-i : goal.invariant-loop-i
invariant-loop-i l = Laid (cells l.places) 31 l.m l.initial.out l.out l.i

abbrev pub decreases-loop-i : goal.decreases-loop-i
decreases-loop-i l = l.m - l.i
