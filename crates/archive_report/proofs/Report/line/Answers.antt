-- `archive_report::Report::line` meets its contract.
use native.Mathlib.Omega.{arith}
use borrow.Author.Rules.{rules}
use mathlib.Core.Path.{◌≡◌, sym, ap, ◌∙◌}
use mathlib.Core.Bool.{true}
use lib.ListN.{length}
use Rattle.archive_report_model.specs.Report.{Line, is_report}
use Rattle.archive_report_model.proofs.Additions.{facts}
use Rattle.archive_report.specs.Report.{report_of}
use Rattle.archive_report.proofs.Windows.{lines-count, line_at_lem}
use Rattle.archive_report.proofs.Calls.{line-not, line_none, line-found}
use Rattle.archive_report.proofs.Report.line.Goals as goal

pub returns-then-not-is_report : goal.returns-then-not-is_report
returns-then-not-is_report c =
    line-not (report_of c.args.self) (sym c.is_report.ensures ∙ c.if-not-is_report.true) c.args.i

pub returns-then-self-i : goal.returns-then-self-i
returns-then-self-i c =
    let a = c.args in
    line_none (report_of a.self) (sym c.is_report.ensures ∙ c.if-not-is_report.false) a.i
    (omega (arith, lines-count a.self.lines 0 a.self.count, c.if-self-i.true))

pub line_in-requires : goal.line_in-requires
line_in-requires c =
    let s = c.args.self in
    let long : length s.lines ≡ 1280 = search rules in
    let yes : is_report (report_of s) ≡ true = sym c.is_report.ensures ∙ c.if-not-is_report.false in
    (omega (arith, (facts (report_of s) yes).few, lines-count s.lines 0 s.count, c.if-self-i.false), long)

pub returns : goal.returns
returns c =
    let a = c.args in
    ap (λ (l : Line). record { number = 0; line = l })
    (c.line_in.ensures ∙ sym (line_at_lem a.self.lines a.self.count a.i c.if-self-i.false))
    ∙ line-found (report_of a.self) (sym c.is_report.ensures ∙ c.if-not-is_report.false) a.i
    (omega (arith, lines-count a.self.lines 0 a.self.count, c.if-self-i.false))
