-- `collector_closings::put_past` meets its contract. The invariant: those of the first i telegrams that are no longer open are
-- written. The measure: the telegrams left.
use mathlib.Core.List.{List}
use Prim.Native.Nat.{ℕ, ◌-◌, ◌*◌, ◌≤◌}
use Rattle.base_buffers.specs.Printed.{Printed}
use Rattle.history_rows.specs.Closings.{closed_at}
use Rattle.collector_state.specs.Collector.{Columns, columns_held, entries_at}
use Rattle.collector_closings.specs.Cells.{entry_cells}
use Rattle.collector_closings.proofs.put_past.Given as goal

pub record Putting (a : Columns) (time n count : ℕ) (closed₀ closed : List ℕ) (k i : ℕ) : Type 0 where
  pub bounded : i ≤ count
  pub put : Printed closed₀ (32 * n) (entry_cells (closed_at time (entries_at a i))) (32 * i) closed (32 * k)

abbrev pub invariant-loop-i : goal.invariant-loop-i
invariant-loop-i l =
    Putting (columns_held l.state) l.time l.n l.state.summary.count l.initial.closed l.closed l.k l.i

abbrev pub decreases-loop-i : goal.decreases-loop-i
decreases-loop-i l = l.state.summary.count - l.i
