-- `history_replay::fits` meets its contract. The invariant: what is left is what the first i calls leave; the measure: the calls left.
use mathlib.Core.Path.{◌≡◌}
use mathlib.Core.List.{List, []}
use Prim.Native.Nat.{ℕ, ◌+◌, ◌-◌, ◌/◌, ◌≤◌}
use lib.ListN.{length, take}
use Rattle.history_replay_model.specs.Replay.{size_of_all}
use Rattle.history_replay.specs.Calls.{call_length, calls_in}
use Rattle.history_replay.proofs.fits.Given as goal

pub record Fitting (calls : List ℕ) (n i i-end left : ℕ) : Type 0 where
  pub bounded : i ≤ i-end
  pub end : i-end ≡ length calls / call_length
  pub whole : left + size_of_all (take i (calls_in [] calls)) ≡ n

abbrev pub invariant-loop-i : goal.invariant-loop-i
invariant-loop-i l = Fitting l.calls l.n l.i l.i-end l.left

abbrev pub decreases-loop-i : goal.decreases-loop-i
decreases-loop-i l = l.i-end - l.i
