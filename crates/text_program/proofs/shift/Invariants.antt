-- `text_program::shift` meets its contract. The invariant: i characters are moved. The measure is how many are left.
use mathlib.Core.Path.{◌≡◌}
use mathlib.Core.List.{List}
use Prim.Native.Nat.{ℕ, ◌-◌, ◌≤◌}
use lib.ListN.{length}
use Rattle.base_buffers.proofs.Moves.{Moved}
use Rattle.text_program.proofs.shift.Given as goal

pub record Shifted (old : List ℕ) (from n i : ℕ) (new : List ℕ) : Type 0 where
  pub bounded : i ≤ n
  pub long : length new ≡ length old
  pub moved : Moved old from n i new

abbrev pub invariant-loop-i : goal.invariant-loop-i
invariant-loop-i l = Shifted l.initial.buffer l.from l.n l.i l.buffer

abbrev pub decreases-loop-i : goal.decreases-loop-i
decreases-loop-i l = l.n - l.i
