-- `archive_report::is_adding` meets its contract: each return is one test of the definition.
use Prim.Native.Nat.{◌+◌, ◌^◌, ◌<◌}
use native.Mathlib.Omega.{arith}
use borrow.Author.Rules.{rules}
use mathlib.Core.Path.{◌≡◌, sym, ◌∙◌}
use mathlib.Core.Bool.{true}
use lib.ListN.{length}
use Rattle.archive_model.specs.Append.{is_scan}
use Rattle.archive_file.specs.Archive.{scan_of}
use Rattle.archive_report_model.specs.Report.{is_report}
use Rattle.archive_report_model.specs.Pieces.{rows_so_far}
use Rattle.archive_report_model.proofs.Additions.{facts}
use Rattle.archive_report.specs.declared.Adding.{Adding}
use Rattle.archive_report.specs.Report.{report_of, adding_of}
use Rattle.archive_report.proofs.Windows.{lines-count}
use Rattle.archive_report.proofs.Blocks.{scan_few, few_so_far}
use Rattle.archive_report.proofs.Calls.{adding-report, adding-scan, adding-lines, adding-rows, adding-tally}
use Rattle.archive_report.proofs.is_adding.Goals as goal

few : (a : Adding) → is_report (report_of a.before) ≡ true → is_scan (scan_of a.scan) ≡ true
    → a.before.kept + a.before.loose + a.scan.rows < 2 ^ 62
few a y s =
    let p = facts (report_of a.before) y in
    omega (arith, p.rows, p.archives, scan_few (scan_of a.scan) s)

pub returns-then-not-is_report : goal.returns-then-not-is_report
returns-then-not-is_report c =
    adding-report (adding_of c.args.a)
    (sym c.is_report.ensures ∙ c.if-not-is_report.true)

pub returns-then-not-is_scan : goal.returns-then-not-is_scan
returns-then-not-is_scan c =
    adding-scan (adding_of c.args.a) (sym c.is_report.ensures ∙ c.if-not-is_report.false)
    (sym c.is_scan.ensures ∙ c.if-not-is_scan.true)

pub returns-then-a-gt-MAX_LINES : goal.returns-then-a-gt-MAX_LINES
returns-then-a-gt-MAX_LINES c =
    let a = c.args.a in
    adding-lines (adding_of a) (sym c.is_report.ensures ∙ c.if-not-is_report.false)
    (sym c.is_scan.ensures ∙ c.if-not-is_scan.false)
    (omega (arith, lines-count a.lines 0 a.count, c.if-a-gt-MAX_LINES.true))

pub returns-then-rows-a : goal.returns-then-rows-a
returns-then-rows-a c =
    adding-rows (adding_of c.args.a) (sym c.is_report.ensures ∙ c.if-not-is_report.false)
    (sym c.is_scan.ensures ∙ c.if-not-is_scan.false) (omega (
      arith,
      lines-count c.args.a.lines 0 c.args.a.count,
      c.if-a-gt-MAX_LINES.false,
    )) (λ e. omega (arith, e, c.rows_of-rows.ensures, c.if-rows-a.true))

pub returns-then-rows-a-2 : goal.returns-then-rows-a-2
returns-then-rows-a-2 c =
    adding-rows (adding_of c.args.a) (sym c.is_report.ensures ∙ c.if-not-is_report.false) (sym c.is_scan.ensures ∙
    c.if-not-is_scan.false) (omega (arith, lines-count c.args.a.lines 0 c.args.a.count, c.if-a-gt-MAX_LINES.false))
    (λ e. c.if-rows-a-2.true (omega (arith, e, c.rows_of-rows.ensures, c.if-rows-a.false)))

pub are_lines-requires : goal.are_lines-requires
are_lines-requires c =
    let equal : c.args.a.kept + c.args.a.loose ≡ rows_so_far (adding_of c.args.a) =
    omega (arith, c.rows_of-rows.ensures, c.if-rows-a.false, c.if-rows-a-2.false) in
    let a = c.args.a in
    let long : length a.lines ≡ 1280 = search rules in (
      c.if-a-gt-MAX_LINES.false,
      long,
      omega (
        arith,
        few_so_far a.over (a.kept + a.loose) (a.before.kept + a.before.loose + a.scan.rows) equal,
        few c.args.a (sym c.is_report.ensures ∙ c.if-not-is_report.false)
            (sym c.is_scan.ensures ∙ c.if-not-is_scan.false),
      ),
    )

pub returns : goal.returns
returns c =
    let equal : c.args.a.kept + c.args.a.loose ≡ rows_so_far (adding_of c.args.a) =
    omega (arith, c.rows_of-rows.ensures, c.if-rows-a.false, c.if-rows-a-2.false) in
    c.are_lines.ensures
    ∙ adding-tally (adding_of c.args.a)
    (sym c.is_report.ensures ∙ c.if-not-is_report.false)
    (sym c.is_scan.ensures ∙ c.if-not-is_scan.false)
    (omega (arith, lines-count c.args.a.lines 0 c.args.a.count, c.if-a-gt-MAX_LINES.false))
    equal

pub overflow_add-before : goal.overflow_add-before
overflow_add-before c = omega (
  arith,
  few c.args.a (sym c.is_report.ensures ∙ c.if-not-is_report.false)
      (sym c.is_scan.ensures ∙ c.if-not-is_scan.false),
)

pub rows_of-rows-requires : goal.rows_of-rows-requires
rows_of-rows-requires c = omega (
  arith,
  few c.args.a (sym c.is_report.ensures ∙ c.if-not-is_report.false)
      (sym c.is_scan.ensures ∙ c.if-not-is_scan.false),
)
