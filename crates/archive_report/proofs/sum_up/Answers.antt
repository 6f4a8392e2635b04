-- `archive_report::sum_up` meets its contract.
use mathlib.Core.Path.{refl}
use Rattle.archive_report.specs.Report.{report_of}
use Rattle.archive_report.specs.Private.{tally_of}
use Rattle.archive_report.proofs.Calls.{closed_full, closed_over, closed-done}
use Rattle.archive_report.proofs.sum_up.Goals as goal

pub returns-then-archives-ge-MAX_ARCHIVES : goal.returns-then-archives-ge-MAX_ARCHIVES
returns-then-archives-ge-MAX_ARCHIVES c =
    let a = c.args in
    (closed_full (report_of a.before) (tally_of a.t a.lines) c.if-archives-ge-MAX_ARCHIVES.true, refl)

pub returns-then-t : goal.returns-then-t
returns-then-t c =
    let a = c.args in (
      closed_over (report_of a.before) (tally_of a.t a.lines) c.if-archives-ge-MAX_ARCHIVES.false c.if-t.true,
      refl,
    )

pub returns : goal.returns
returns c =
    let a = c.args in
    (closed-done (report_of a.before) (tally_of a.t a.lines) c.if-archives-ge-MAX_ARCHIVES.false c.if-t.false, refl)
