-- `archive_report::tally::loose_rows` meets its contract. The invariant: those counted and those left are all; the measure: the rows left.
use mathlib.Core.Path.{◌≡◌}
use mathlib.Core.List.{List}
use Prim.Native.Nat.{ℕ, ◌+◌, ◌-◌, ◌≤◌}
use Rattle.archive_report_model.specs.Report.{loose_in}
use Rattle.archive_report.specs.Private.{rows_between}
use Rattle.archive_report.proofs.tally.loose_rows.Given as goal

pub record Counting (block : List ℕ) (used n i : ℕ) : Type 0 where
  pub bounded : i ≤ used
  pub rest : n + loose_in (rows_between block i (used - i)) ≡ loose_in (rows_between block 0 used)

abbrev pub invariant-loop-i : goal.invariant-loop-i
invariant-loop-i l = Counting l.block l.used l.n l.i

abbrev pub decreases-loop-i : goal.decreases-loop-i
decreases-loop-i l = l.used - l.i
