-- `archive_report::lines::add_row` meets its contract: the row is joined to its line, or there is no room, or a gap is made for a new line.
use Prim.Native.Nat.{ℕ}
use native.Mathlib.Omega.{arith}
use mathlib.Core.Path.{sym, ap, ◌∙◌}
use Rattle.archive_report_model.specs.Report.{Line, merged_line, rows_of_line}
use Rattle.archive_report.specs.Lines.{line_at}
use Rattle.archive_report.specs.Private.{line_for}
use Rattle.archive_report.proofs.Windows.{ordered_of, total_at, stored_as}
use Rattle.archive_report.proofs.Places.{joined_there, put_there, no_room, is_there, not_there}
use Rattle.archive_report.proofs.lines.add_row.Goals as goal

pub find-i-requires : goal.find-i-requires
find-i-requires c =
    (c.requires.1, c.requires.0, ordered_of c.args.lines.now c.args.count c.requires.2)

pub line_in-line-requires : goal.line_in-line-requires
line_in-line-requires c =
    let a = c.args in
    let there = is_there a.lines.now a.count c.find-i.result a.identity (sym c.is_at.ensures ∙ c.if-is_at.true) in
    (omega (arith, there.0, c.requires.0), c.requires.1)

pub with_row-requires : goal.with_row-requires
with_row-requires c =
    let a = c.args in
    let there = is_there a.lines.now a.count c.find-i.result a.identity (sym c.is_at.ensures ∙ c.if-is_at.true) in
    omega (
      arith,
      ap rows_of_line c.line_in-line.ensures,
      total_at a.lines.now a.count c.find-i.result there.0,
      c.requires.3,
    )

pub store_line-requires : goal.store_line-requires
store_line-requires c =
    let a = c.args in
    let there = is_there a.lines.now a.count c.find-i.result a.identity (sym c.is_at.ensures ∙ c.if-is_at.true) in
    (omega (arith, there.0, c.requires.0), c.requires.1)

pub returns-then-is_at : goal.returns-then-is_at
returns-then-is_at c =
    let a = c.args in
    let xs = a.lines.now in
    let i = c.find-i.result in
    let there = is_there xs a.count i a.identity (sym c.is_at.ensures ∙ c.if-is_at.true) in
    joined_there xs a.count i (line_for a.identity a.time a.loose) c.find-i.ensures there.0 there.1 _
    (stored_as
    (c.with_row.ensures
    ∙ ap (λ (l : Line). merged_line (line_for l.identity a.time a.loose) l) c.line_in-line.ensures
    ∙ ap (λ (x : ℕ). merged_line (line_for x a.time a.loose) (line_at xs i)) there.1)
    c.store_line.ensures)

pub returns-then-count-eq-MAX_LINES : goal.returns-then-count-eq-MAX_LINES
returns-then-count-eq-MAX_LINES c =
    let a = c.args in
    no_room a.lines.now a.count c.find-i.result
    (line_for a.identity a.time a.loose) c.find-i.ensures
    (not_there a.lines.now a.count c.find-i.result
    a.identity (sym c.is_at.ensures ∙ c.if-is_at.false))
    c.if-count-eq-MAX_LINES.true

pub returns : goal.returns
returns c =
    let a = c.args in
    put_there a.lines.now a.count c.find-i.result
    (line_for a.identity a.time a.loose) c.find-i.ensures
    (not_there a.lines.now a.count c.find-i.result
    a.identity (sym c.is_at.ensures ∙ c.if-is_at.false))
    _ _
    c.make_gap.ensures
    (stored_as c.line_for.ensures c.store_line-2.ensures)
