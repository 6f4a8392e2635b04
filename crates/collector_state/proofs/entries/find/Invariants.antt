-- `collector_state::entries::find` meets its contract. The loop's invariant: none of the entries from i on is a copy, whatever their counts are.
-- The measure is i.
use Prim.Native.Nat.{ℕ, ◌≤◌, ◌<◌}
use mathlib.Core.Path.{◌≡◌}
use mathlib.Core.Bool.{false}
use mathlib.Core.List.{List}
use Rattle.collector_model.specs.View.{Reception}
use Rattle.collector_model.specs.Acceptable.{is_copy_of}
use Rattle.collector_state.specs.Collector.{Columns, columns, entry_at}
use Rattle.collector_state.proofs.entries.find.Given as goal

pub record Searching (a : List ℕ → Columns) (gone count : ℕ) (r : Reception) (i : ℕ) : Type 0 where
  pub above : gone ≤ i
  pub bounded : i ≤ count
  pub none : (copies : List ℕ) (j : ℕ) → i ≤ j → j < count → is_copy_of (entry_at (a copies) j) r ≡ false

abbrev pub invariant-loop-i : goal.invariant-loop-i
invariant-loop-i l =
    Searching (columns l.times l.lens l.bytes) l.gone l.count (record { bytes = l.received; time = l.time }) l.i

abbrev pub decreases-loop-i : goal.decreases-loop-i
decreases-loop-i l = l.i
