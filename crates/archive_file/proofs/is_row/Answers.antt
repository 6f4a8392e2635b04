-- `archive_file::is_row` meets its contract: a length over 21 is refused before the bytes are looked at.
use mathlib.Core.Path.{ap, ◌∙◌}
use native.Mathlib.Omega.{arith}
use borrow.Author.Tests.{lt-leb}
use Rattle.radio_erp1.specs.Subtelegram.{check_of}
use Rattle.archive_file.proofs.Cells.{bytes-shown, long-row, answer_valid}
use Rattle.archive_file.proofs.is_row.Goals as goal

pub returns-else-len-le-CELL_CAPACITY : goal.returns-else-len-le-CELL_CAPACITY
returns-else-len-le-CELL_CAPACITY c =
    lt-leb _ _ c.if-len-le-CELL_CAPACITY.false
    ∙ long-row c.args.cell.now (omega (arith, c.cell_used-len.ensures))

pub returns-then-len-le-CELL_CAPACITY : goal.returns-then-len-le-CELL_CAPACITY
returns-then-len-le-CELL_CAPACITY c =
    c.is_ok.ensures.value
    ∙ answer_valid _ c.check.result
    (c.check.ensures
    ∙ ap check_of
    (bytes-shown c.args.cell.now c.cell_used-len.result
    c.requires c.cell_used-len.ensures c.if-len-le-CELL_CAPACITY.true))
