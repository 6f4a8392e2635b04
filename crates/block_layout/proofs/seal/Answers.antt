-- `block_layout::seal` meets its contract: the byte that is stored is the CRC of those before it.
use mathlib.Core.Path.{sym}
use native.Mathlib.Omega.{arith}
use Rattle.block_layout.proofs.Block.{seal_not, seal_set}
use Rattle.block_layout.proofs.seal.Goals as goal

pub returns-then-block-ne-BLOCK_LENGTH : goal.returns-then-block-ne-BLOCK_LENGTH
returns-then-block-ne-BLOCK_LENGTH c = sym (seal_not c.args.block.now c.if-block-ne-BLOCK_LENGTH.true)

pub returns : goal.returns
returns c =
    rw c.crc8_long-crc.ensures (seal_set c.args.block.now (omega arith))
