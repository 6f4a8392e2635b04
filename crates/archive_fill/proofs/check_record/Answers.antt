-- `archive_fill::check_record` meets its contract: a length over 21 is refused before the bytes are looked at.
use mathlib.Core.Path.{ap, ◌∙◌}
use native.Mathlib.Omega.{arith}
use Rattle.radio_erp1.specs.Subtelegram.{check_of}
use Rattle.archive_fill.proofs.Records.{long-given, bytes-shown}
use Rattle.archive_fill.proofs.check_record.Goals as goal

pub returns-then-len-gt-CELL_CAPACITY : goal.returns-then-len-gt-CELL_CAPACITY
returns-then-len-gt-CELL_CAPACITY c = long-given 0 c.args.given.now (omega (arith, c.byte_at-len.ensures))

pub returns : goal.returns
returns c =
    c.check.ensures
    ∙ ap check_of
    (bytes-shown 0 c.args.given.now c.byte_at-len.result c.requires c.byte_at-len.ensures
    c.if-len-gt-CELL_CAPACITY.false)
