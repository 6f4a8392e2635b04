-- `archive_report::lines::is_at` meets its contract.
use borrow.Author.Tests.{le-ltb, lt-ltb}
use Rattle.archive_report.proofs.lines.is_at.Goals as goal

pub returns-then-count-i : goal.returns-then-count-i
returns-then-count-i c = simp (le-ltb _ _ c.if-count-i.true)

pub returns : goal.returns
returns c = simp (lt-ltb _ _ c.if-count-i.false)
