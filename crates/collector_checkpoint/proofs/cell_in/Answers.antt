-- `collector_checkpoint::cell_in_lem` meets its contract: a block has 512 bytes, and the cell lies in it.
use mathlib.Core.Path.{◌≡◌, ap, ◌∙◌}
use Prim.Native.Nat.{◌+◌, ◌*◌, ◌/◌, ◌%◌}
use native.Mathlib.Omega.{arith}
use lib.ListN.{length}
use Rattle.block_layout.specs.Cell.{cell_length}
use Rattle.block_layout.specs.Block.{header_length, cells_per_block, block_length, block_cell}
use Rattle.base_buffers.proofs.Segments.{part-ends}
use Rattle.collector_checkpoint.proofs.Reading.{block-long}
use Rattle.collector_checkpoint.proofs.cell_in.Goals as goal

pub slice_bounds-result-end : goal.slice_bounds-result-end
slice_bounds-result-end c =
    let long : length c.block_in-block.result.now ≡ block_length =
    ap length c.block_in-block.ensures
    ∙ block-long c.args.image.now (c.args.i / cells_per_block) c.requires.0 (omega arith) in
    omega arith

pub returns : goal.returns
returns c = part-ends (header_length + cell_length * (c.args.i % cells_per_block)) cell_length _
    ∙ ap (block_cell (c.args.i % cells_per_block)) c.block_in-block.ensures
