-- `block_layout::equal` meets its contract. The invariant: what was found so far and what is left of both decide the whole; the measure: the bytes
-- left.
use mathlib.Core.Path.{◌≡◌}
use mathlib.Core.Bool.{Bool, ◌&&◌}
use mathlib.Core.List.{List}
use Prim.Native.Nat.{ℕ, ◌-◌, ◌≤◌}
use lib.ListN.{length, drop}
use Rattle.base_lists.specs.Lists.{equal}
use Rattle.block_layout.proofs.equal.Given as goal

pub record Comparing (a b : List ℕ) (i-end : ℕ) (same : Bool) (i : ℕ) : Type 0 where
  pub bounded : i ≤ i-end
  pub ends : i-end ≡ length a
  pub rest : same && equal (drop i a) (drop i b) ≡ equal a b

abbrev pub invariant-loop-i : goal.invariant-loop-i
invariant-loop-i l = Comparing l.a l.b l.i-end l.same l.i

abbrev pub decreases-loop-i : goal.decreases-loop-i
decreases-loop-i l = l.i-end - l.i
