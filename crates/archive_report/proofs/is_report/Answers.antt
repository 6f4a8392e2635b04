-- `archive_report::is_report` meets its contract: each return is one test of the definition.
use native.Mathlib.Omega.{arith}
use mathlib.Core.Path.{◌∙◌}
use Rattle.archive_report.proofs.Windows.{lines-count}
use Rattle.archive_report.specs.Report.{report_of}
use Rattle.archive_report.proofs.Calls.{report-archives, report-lines, report-rows, report-tally}
use Rattle.archive_report.proofs.is_report.Goals as goal

pub returns-then-count-gt-MAX_LINES : goal.returns-then-count-gt-MAX_LINES
returns-then-count-gt-MAX_LINES c =
    let a = c.args in
    report-lines (report_of a.report) c.if-archives-gt-MAX_ARCHIVES.false
    (omega (arith, lines-count a.report.lines 0 a.report.count, c.if-count-gt-MAX_LINES.true))

pub returns-then-most-kept : goal.returns-then-most-kept
returns-then-most-kept c =
    report-rows (report_of c.args.report) c.if-archives-gt-MAX_ARCHIVES.false (omega (
      arith,
      lines-count
          c.args.report.lines 0 c.args.report.count,
      c.if-count-gt-MAX_LINES.false,
    )) (omega (arith, c.if-most-kept.true))

pub returns-then-most-kept-2 : goal.returns-then-most-kept-2
returns-then-most-kept-2 c =
    report-rows (report_of c.args.report) c.if-archives-gt-MAX_ARCHIVES.false
    (omega (arith, lines-count c.args.report.lines 0 c.args.report.count, c.if-count-gt-MAX_LINES.false))
    (omega (arith, c.if-most-kept.false, c.if-most-kept-2.true))

pub returns : goal.returns
returns c =
    c.are_lines.ensures
    ∙ report-tally (report_of c.args.report) c.if-archives-gt-MAX_ARCHIVES.false
    (omega (arith, lines-count c.args.report.lines 0 c.args.report.count, c.if-count-gt-MAX_LINES.false))
    (omega (arith, c.if-most-kept.false, c.if-most-kept-2.false))

pub returns-then-archives-gt-MAX_ARCHIVES : goal.returns-then-archives-gt-MAX_ARCHIVES
returns-then-archives-gt-MAX_ARCHIVES c = report-archives (report_of c.args.report) c.if-archives-gt-MAX_ARCHIVES.true
