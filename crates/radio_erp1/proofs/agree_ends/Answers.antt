-- `radio_erp1::agree_ends` meets its contract: two blocks that meet are all of the bytes.
use Rattle.std.proofs.Common.{arith, ◌∙◌}
use Rattle.radio_erp1.proofs.Blocks.{differ, agreed}
use Rattle.radio_erp1.proofs.agree_ends.Goals as goal

pub returns-then-agree_block : goal.returns-then-agree_block
returns-then-agree_block g c =
    agreed c.args.a.now c.args.b.now c.args.n g.row.W c.requires.0 c.requires.1 c.requires.2 c.requires.3
    (rw c.if-agree_block.true at c.agree_block.ensures) c.agree_block-then-agree_block.ensures

pub returns-else-agree_block : goal.returns-else-agree_block
returns-else-agree_block g c =
    c.if-agree_block.false
    ∙ differ c.args.a.now c.args.b.now c.args.n g.row.W c.requires.0 c.requires.1 (omega arith)
    (rw c.if-agree_block.false at c.agree_block.ensures)
