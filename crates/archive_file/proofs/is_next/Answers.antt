-- `archive_file::is_next` meets its contract.
use borrow.Author.Tests.{eq-eqb, ne_eqb}
use Rattle.block_layout.specs.Block.{block_length}
use Rattle.archive_file.proofs.is_next.Goals as goal

pub returns-then-block-ne-BLOCK_LENGTH : goal.returns-then-block-ne-BLOCK_LENGTH
returns-then-block-ne-BLOCK_LENGTH c = rw (ne_eqb _ block_length c.if-block-ne-BLOCK_LENGTH.true)

pub returns-then-used-eq0 : goal.returns-then-used-eq0
returns-then-used-eq0 c =
    rw (eq-eqb _ block_length c.if-block-ne-BLOCK_LENGTH.false, eq-eqb _ 0 c.if-used-eq0.true)
    c.is_blank.ensures

pub returns : goal.returns
returns c =
    rw (
      eq-eqb _ block_length c.if-block-ne-BLOCK_LENGTH.false,
      ne_eqb _ 0 c.if-used-eq0.false,
      c.number_of.ensures,
      c.byte_at.ensures,
    )
