-- `collector_state::acceptable::are_telegrams` meets its contract. The loop's invariant: the first i entries are valid, no two the same telegram,
-- and their marks are seen. The measure is the number of entries left.
use Prim.Native.Nat.{ℕ, ◌-◌, ◌≤◌}
use mathlib.Core.Path.{◌≡◌}
use mathlib.Core.Bool.{Bool, true}
use mathlib.Core.List.{List}
use Rattle.collector_state.specs.Collector.{columns, entries_at}
use Rattle.collector_state.specs.Private.{are_telegrams}
use Rattle.collector_state.proofs.Marks.{Marked}
use Rattle.collector_state.proofs.acceptable.are_telegrams.Given as goal

pub record Testing (times lens bytes : List ℕ) (count : ℕ) (seen : List Bool) (i : ℕ) : Type 0 where
  pub bounded : i ≤ count
  pub passed : (copies : List ℕ) → are_telegrams (entries_at (columns times lens bytes copies) i) ≡ true
  pub marked : Marked lens bytes i seen

abbrev pub invariant-loop-i : goal.invariant-loop-i
invariant-loop-i l = Testing l.times l.lens l.bytes l.count l.seen l.i

abbrev pub decreases-loop-i : goal.decreases-loop-i
decreases-loop-i l = l.count - l.i
