-- `archive_fill::is_given` meets its contract: each return is one of its tests.
use Rattle.archive_fill.proofs.Cases.{given-block, given_far, given-other, given_same}
use Rattle.archive_fill.proofs.is_given.Goals as goal

pub returns-then-block-ne-BLOCK_LENGTH : goal.returns-then-block-ne-BLOCK_LENGTH
returns-then-block-ne-BLOCK_LENGTH c =
    let a = c.args in
    given-block a.block a.n a.times a.rows c.if-block-ne-BLOCK_LENGTH.true

pub returns-then-n-ge-MAX_ROWS : goal.returns-then-n-ge-MAX_ROWS
returns-then-n-ge-MAX_ROWS c =
    let a = c.args in
    given_far a.block a.n a.times a.rows c.if-block-ne-BLOCK_LENGTH.false c.if-n-ge-MAX_ROWS.true

pub returns-then-rows-times : goal.returns-then-rows-times
returns-then-rows-times c =
    let a = c.args in
    given-other a.block a.n a.times a.rows
    c.if-block-ne-BLOCK_LENGTH.false c.if-n-ge-MAX_ROWS.false c.if-rows-times.true

pub returns : goal.returns
returns c =
    let a = c.args in
    given_same a.block a.n a.times a.rows
    c.if-block-ne-BLOCK_LENGTH.false c.if-n-ge-MAX_ROWS.false c.if-rows-times.false
