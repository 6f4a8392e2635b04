-- `archive_file::cell_at` meets its contract.
use Prim.Native.Nat.{◌+◌, ◌*◌}
use Rattle.block_layout.specs.Cell.{cell_length}
use Rattle.block_layout.specs.Block.{header_length}
use Rattle.base_buffers.proofs.Segments.{part-ends}
use Rattle.archive_file.proofs.cell_at.Goals as goal

pub returns : goal.returns
returns c = part-ends (header_length + cell_length * c.args.i) cell_length _
