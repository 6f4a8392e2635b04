-- `archive_report::tally::add_rows` meets its contract. The invariant: the rows that are left bring the lines so far to those of the whole; the
-- measure: the rows left.
use mathlib.Core.List.{List}
use Prim.Native.Nat.{ℕ, ◌-◌, ◌*◌, ◌≤◌}
use Rattle.archive_report.specs.Lines.{line_length, lines_at}
use Rattle.archive_report.specs.Private.{SameBehind}
use Rattle.archive_report.proofs.Blocks.{Running}
use Rattle.archive_report.proofs.tally.add_rows.Given as goal

pub record Adding (lines₀ : List ℕ) (count : ℕ) (block : List ℕ) (used : ℕ) (lines : List ℕ) (n i : ℕ) : Type 0 where
  pub bounded : i ≤ used
  pub running : Running block used (lines_at lines₀ count) n i lines
  pub grown : count ≤ n
  pub behind : SameBehind (line_length * n) lines₀ lines

abbrev pub invariant-loop-i : goal.invariant-loop-i
invariant-loop-i l = Adding l.initial.lines l.count l.block l.used l.lines l.n l.i

abbrev pub decreases-loop-i : goal.decreases-loop-i
decreases-loop-i l = l.used - l.i
