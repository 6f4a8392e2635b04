-- `archive_report::is_piece` meets its contract.
use Rattle.archive_report.proofs.Calls.{piece_odd, piece_whole}
use Rattle.archive_report.proofs.is_piece.Goals as goal

pub returns-then-len-ne0 : goal.returns-then-len-ne0
returns-then-len-ne0 c = piece_odd c.args.blocks c.args.len c.if-len-ne0.true

pub returns : goal.returns
returns c = piece_whole c.args.blocks c.args.len c.if-len-ne0.false
