-- `collector_checkpoint::put_cells` meets its contract. The invariant: the first i cells are written, and the rest is as it was; the measure: the
-- cells left.
use mathlib.Core.List.{List, map, flatten}
use Prim.Native.Nat.{ℕ, ◌-◌, ◌*◌, ◌≤◌}
use lib.ListN.{take}
use Rattle.block_layout.specs.Cell.{cell_length}
use Rattle.base_buffers.proofs.Segments.{Begun}
use Rattle.collector_model.specs.Image.{entry_cell}
use Rattle.collector_checkpoint.specs.Private.{entries_from}
use Rattle.collector_state.specs.Collector.{Columns, columns_held}
use Rattle.collector_checkpoint.proofs.put_cells.Given as goal

unfoldable pub cells : Columns → ℕ → ℕ → List (List ℕ)
cells a first used = map entry_cell (entries_from a first used)

pub record Putting (out₀ : List ℕ) (a : Columns) (first used : ℕ) (out : List ℕ) (i : ℕ) : Type 0 where
  pub bounded : i ≤ used
  pub begun : Begun out₀ (flatten (take i (cells a first used))) (cell_length * i) out

abbrev pub invariant-loop-i : goal.invariant-loop-i
invariant-loop-i l =
    Putting l.initial.out (columns_held l.state) l.first l.used l.out l.i

abbrev pub decreases-loop-i : goal.decreases-loop-i
decreases-loop-i l = l.used - l.i
