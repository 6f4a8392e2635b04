-- `archive_fill::put_cells` meets its contract. The invariant: the first i cells are written, and the rest is as it was; the measure: the rows left.
use mathlib.Core.List.{List, map, flatten}
use Prim.Native.Nat.{ℕ, ◌-◌, ◌*◌, ◌≤◌}
use lib.ListN.{length, take}
use Rattle.base_buffers.proofs.Segments.{Begun}
use Rattle.block_layout.specs.Cell.{cell_length}
use Rattle.archive_model.specs.Row.{row_cell}
use Rattle.archive_fill.specs.Fill.{rows_given}
use Rattle.archive_fill.proofs.put_cells.Given as goal

unfoldable pub cells : List ℕ → List ℕ → List (List ℕ)
cells times rows = map row_cell (rows_given times rows)

pub record Putting (out₀ times rows out : List ℕ) (i : ℕ) : Type 0 where
  pub bounded : i ≤ length times
  pub begun : Begun out₀ (flatten (take i (cells times rows))) (cell_length * i) out

abbrev pub invariant-loop-i : goal.invariant-loop-i
invariant-loop-i l = Putting l.initial.out l.times l.rows l.out l.i

abbrev pub decreases-loop-i : goal.decreases-loop-i
decreases-loop-i l = length l.times - l.i
