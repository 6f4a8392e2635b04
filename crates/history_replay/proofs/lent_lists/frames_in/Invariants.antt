-- `history_replay::lent_lists::frames_in` meets its contract. The invariant: the first i frames are put; the measure: the records left.
use mathlib.Core.Path.{◌≡◌}
use mathlib.Core.List.{List}
use Prim.Native.Nat.{ℕ, ◌-◌, ◌*◌, ◌≤◌}
use lib.ListN.{length}
use Rattle.history_replay.proofs.Lent.{Laid, frames}
use Rattle.history_replay.proofs.lent_lists.frames_in.Given as goal

pub record Framing (records : List ℕ) (n : ℕ) (orig all : List ℕ) (i : ℕ) : Type 0 where
  pub long : length orig ≡ 5698
  pub few : n ≤ 259
  pub whole : 64 * n ≤ length records
  pub laid : Laid (frames records n) 22 n orig all i

abbrev pub invariant-loop-i : goal.invariant-loop-i
invariant-loop-i l = Framing l.records l.n l.initial.all l.all l.i

abbrev pub decreases-loop-i : goal.decreases-loop-i
decreases-loop-i l = l.n - l.i
