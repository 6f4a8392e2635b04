-- `collector_checkpoint::header_in` meets its contract: a block has 512 bytes, and its header lies in it.
use mathlib.Core.Path.{◌≡◌, ap, ◌∙◌}
use native.Mathlib.Omega.{arith}
use lib.ListN.{length}
use Rattle.block_layout.specs.Block.{block_length, block_header}
use Rattle.collector_checkpoint.proofs.Reading.{block-long}
use Rattle.collector_checkpoint.proofs.header_in.Goals as goal

pub slice_bounds-result-end : goal.slice_bounds-result-end
slice_bounds-result-end c =
    let long : length c.block_in-block.result.now ≡ block_length =
    ap length c.block_in-block.ensures ∙ block-long c.args.image.now c.args.k c.requires.0 (omega arith) in
    omega arith

pub returns : goal.returns
returns c = ap block_header c.block_in-block.ensures
