-- `c_archive::put_filled` meets its contract. The invariant: the first i bytes are those of the resized list, and the rest is as it was; the
-- measure: the bytes left.
use mathlib.Core.List.{List}
use Prim.Native.Nat.{ℕ, ◌-◌, ◌≤◌}
use lib.ListN.{take}
use Rattle.base_buffers.specs.Buffer.{resized}
use Rattle.base_buffers.proofs.Segments.{Begun}
use Rattle.block_layout.specs.Cell.{cell_capacity}
use Rattle.c_archive.proofs.put_filled.Given as goal

pub record Putting (out₀ bytes : List ℕ) (n : ℕ) (out : List ℕ) (i : ℕ) : Type 0 where
  pub bounded : i ≤ cell_capacity
  pub begun : Begun out₀ (resized i (take n bytes)) i out

abbrev pub invariant-loop-i : goal.invariant-loop-i
invariant-loop-i l = Putting l.initial.out l.bytes l.n l.out l.i

abbrev pub decreases-loop-i : goal.decreases-loop-i
decreases-loop-i l = cell_capacity - l.i
