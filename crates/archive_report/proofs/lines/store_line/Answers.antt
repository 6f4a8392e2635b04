-- `archive_report::lines::store_line` meets its contract: five numbers one after the other.
use native.Mathlib.Omega.{arith}
use borrow.Author.Rules.{rules}
use lib.ListN.{length-set}
use Rattle.archive_report.proofs.Windows.{stored-line}
use Rattle.archive_report.proofs.lines.store_line.Goals as goal

pub bounds-lines-at-2 : goal.bounds-lines-at-2
bounds-lines-at-2 c = simp length-set (search rules)

pub bounds-lines-at-3 : goal.bounds-lines-at-3
bounds-lines-at-3 c = simp length-set (search rules)

pub bounds-lines-at-4 : goal.bounds-lines-at-4
bounds-lines-at-4 c = simp length-set (search rules)

pub bounds-lines-at-5 : goal.bounds-lines-at-5
bounds-lines-at-5 c = simp length-set (search rules)

pub returns : goal.returns
returns c =
    let line = c.args.line in
    stored-line c.args.lines.now c.args.i line.identity line.kept line.loose line.earliest line.latest
    (omega (arith, c.requires.0, c.requires.1))
