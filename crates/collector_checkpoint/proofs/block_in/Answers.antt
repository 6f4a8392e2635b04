-- `collector_checkpoint::block_in_lem` meets its contract.
use Prim.Native.Nat.{◌*◌}
use Rattle.block_layout.specs.Block.{block_length}
use Rattle.base_buffers.proofs.Segments.{part-ends}
use Rattle.collector_checkpoint.proofs.block_in.Goals as goal

pub returns : goal.returns
returns c = part-ends (block_length * c.args.k) block_length _
