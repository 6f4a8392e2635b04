-- `archive_report::Report::share` meets its contract.
use native.Mathlib.Omega.{arith}
use mathlib.Core.Path.{◌≡◌, sym, ◌∙◌}
use mathlib.Core.Bool.{true}
use Rattle.archive_report_model.specs.Report.{is_report}
use Rattle.archive_report_model.proofs.Additions.{Passed, facts}
use Rattle.archive_report.specs.Report.{report_of}
use Rattle.archive_report.proofs.Calls.{share_not, share_zero, share_few, share_done}
use Rattle.archive_report.proofs.Report.share.Lts as lts
use Rattle.archive_report.proofs.Report.share.Reads as reads
use Rattle.archive_report.proofs.Report.share.Tie as tie
use Rattle.archive_report.proofs.Report.share.Goals as goal

-- states on the way
abbrev Else-not-is_report : Type 0
Else-not-is_report = lts.Else1 tie.the-claims reads.Pre reads.Post

-- where the report is accepted
yes : (c : Else-not-is_report) → is_report (report_of c.args.self) ≡ true
yes c = sym c.is_report.ensures ∙ c.if-not-is_report.false

passed : (c : Else-not-is_report) → Passed (report_of c.args.self)
passed c = facts (report_of c.args.self) (yes c)

pub returns-then-not-is_report : goal.returns-then-not-is_report
returns-then-not-is_report c =
    share_not (report_of c.args.self)
    (sym c.is_report.ensures ∙ c.if-not-is_report.true) c.args.received

pub returns-then-received-eq0 : goal.returns-then-received-eq0
returns-then-received-eq0 c =
    share_zero (report_of c.args.self) (yes c.before.before) c.args.received c.if-received-eq0.true

pub returns-then-received-rows : goal.returns-then-received-rows
returns-then-received-rows c =
    share_few (report_of c.args.self) (yes c.before.before.before)
    c.args.received c.if-received-eq0.false c.if-received-rows.true

pub returns : goal.returns
returns c =
    share_done (report_of c.args.self) (yes c.before.before.before)
    c.args.received c.if-received-eq0.false c.if-received-rows.false

pub overflow_add-rows : goal.overflow_add-rows
overflow_add-rows c = let p = passed c.before in omega (arith, p.rows, p.archives)

pub overflow_mul-result : goal.overflow_mul-result
overflow_mul-result c = let p = passed c.before.before.before in omega (arith, p.rows, p.archives)
