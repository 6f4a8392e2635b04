-- `history_replay::lent_lists::places_in` meets its contract. The invariant: the first i places are put; the measure: the places left.
use mathlib.Core.Path.{◌≡◌}
use mathlib.Core.List.{List}
use Prim.Native.Nat.{ℕ, ◌-◌, ◌≤◌}
use lib.ListN.{length}
use Rattle.history_replay.proofs.Lent.{Laid, old}
use Rattle.history_replay.proofs.lent_lists.places_in.Given as goal

pub record Placing (r : List ℕ) (m : ℕ) (orig all : List ℕ) (i : ℕ) : Type 0 where
  pub long : length orig ≡ 6216
  pub few : m ≤ 259
  pub laid : Laid (old r m) 24 m orig all i

abbrev pub invariant-loop-i : goal.invariant-loop-i
invariant-loop-i l = Placing l.r l.m l.initial.all l.all l.i

abbrev pub decreases-loop-i : goal.decreases-loop-i
decreases-loop-i l = l.m - l.i
