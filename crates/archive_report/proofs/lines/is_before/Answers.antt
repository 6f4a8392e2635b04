-- `archive_report::lines::is_before` meets its contract.
use Rattle.archive_report.proofs.Testing.{before_none, before_more}
use Rattle.archive_report.proofs.lines.is_before.Goals as goal

pub returns-then-count-i : goal.returns-then-count-i
returns-then-count-i c = before_none c.args.lines.now c.args.count c.args.i c.if-count-i.true

pub returns : goal.returns
returns c =
    before_more c.args.lines.now c.args.count c.args.i c.if-count-i.false
