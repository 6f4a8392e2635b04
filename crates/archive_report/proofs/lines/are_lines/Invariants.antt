-- `archive_report::lines::are_lines` meets its contract. The invariant: what is left of lines and totals decides the whole; the measure: the lines
-- left.
use mathlib.Core.Path.{◌≡◌}
use mathlib.Core.List.{List}
use Prim.Native.Nat.{ℕ, ◌+◌, ◌-◌, ◌≤◌}
use Rattle.archive_report_model.specs.Report.{is_tally}
use Rattle.archive_report.specs.Lines.{lines_from, lines_at}
use Rattle.archive_report.proofs.lines.are_lines.Given as goal

pub record Testing (lines : List ℕ) (count kept loose k l i : ℕ) : Type 0 where
  pub bounded : i ≤ count
  pub few : k + l ≤ kept + loose
  pub rest : is_tally (lines_from lines i (count - i)) k l ≡ is_tally (lines_at lines count) kept loose

abbrev pub invariant-loop-i : goal.invariant-loop-i
invariant-loop-i l = Testing l.lines l.count l.kept l.loose l.k l.l l.i

abbrev pub decreases-loop-i : goal.decreases-loop-i
decreases-loop-i l = l.count - l.i
