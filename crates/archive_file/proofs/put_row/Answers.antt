-- `archive_file::put_row` meets its contract: each return is one case of `put_row_of`.
use mathlib.Core.Path.{sym, ap, ◌∙◌}
use Rattle.std.proofs.lemmas.Result.{err_from_is_err_and}
use Rattle.radio_erp1.proofs.Checks.{check_facts}
use Rattle.archive_model.specs.Append.{stored}
use Rattle.archive_file.specs.Archive.{row_of}
use Rattle.archive_file.proofs.Puts.{next_told, put-size, put_far, put_other, put-invalid, put-done}
use Rattle.archive_file.proofs.put_row.Goals as goal

pub returns-then-block-ne-BLOCK_LENGTH : goal.returns-then-block-ne-BLOCK_LENGTH
returns-then-block-ne-BLOCK_LENGTH c =
    let a = c.args in
    put-size a.block.now a.n (row_of a.bytes.now a.time a.loose) c.if-block-ne-BLOCK_LENGTH.true

pub returns-then-n-ge-MAX_ROWS : goal.returns-then-n-ge-MAX_ROWS
returns-then-n-ge-MAX_ROWS c =
    let a = c.args in
    put_far a.block.now a.n (row_of a.bytes.now a.time a.loose) c.if-block-ne-BLOCK_LENGTH.false c.if-n-ge-MAX_ROWS.true

pub returns-then-not-is_next : goal.returns-then-not-is_next
returns-then-not-is_next c =
    let a = c.args in
    put_other a.block.now a.n (row_of a.bytes.now a.time a.loose)
    c.if-block-ne-BLOCK_LENGTH.false c.if-n-ge-MAX_ROWS.false
    (next_told a.n a.block.now c.if-block-ne-BLOCK_LENGTH.false
    (sym c.is_next.ensures ∙ c.if-not-is_next.true))

pub returns-in_err-check : goal.returns-in_err-check
returns-in_err-check c =
    let a = c.args in
    let p = err_from_is_err_and c.from_residual.result c.from_residual.ensures.1 in
    rw (p.1, p.2)
    (put-invalid a.block.now a.n (row_of a.bytes.now a.time a.loose)
    c.if-block-ne-BLOCK_LENGTH.false c.if-n-ge-MAX_ROWS.false
    (next_told a.n a.block.now c.if-block-ne-BLOCK_LENGTH.false
    (sym c.is_next.ensures ∙ c.if-not-is_next.false))
    c.in_err-check.field-0.0 c.in_err-check.ensures)

pub write_row-requires : goal.write_row-requires
write_row-requires c =
    (c.if-block-ne-BLOCK_LENGTH.false, (check_facts _ (sym c.in_ok-check.ensures)).high)

pub returns : goal.returns
returns c =
    let a = c.args in
    ap stored c.write_row.ensures
    ∙ put-done a.block.now a.n (row_of a.bytes.now a.time a.loose) c.if-block-ne-BLOCK_LENGTH.false
    c.if-n-ge-MAX_ROWS.false
    (next_told a.n a.block.now c.if-block-ne-BLOCK_LENGTH.false
    (sym c.is_next.ensures ∙ c.if-not-is_next.false))
    (sym c.in_ok-check.ensures)
