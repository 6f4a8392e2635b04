-- `collector_checkpoint::put_block` meets its contract: the header, the cells with the zeros after them, the CRC.
use mathlib.Core.Path.{◌∙◌}
use mathlib.Core.List.{map}
use Prim.Native.Nat.{◌*◌}
use native.Mathlib.Omega.{arith}
use Rattle.collector_model.specs.Header.{header_of}
use Rattle.block_layout.specs.Block.{header_length, cells_per_block, body_length}
use Rattle.base_buffers.proofs.Segments.{Writing, packed, begin, lend, lent}
use Rattle.base_buffers.proofs.Buffer.{overwritten-fits}
use Rattle.collector_model.proofs.Header.{header-length}
use Rattle.block_layout.proofs.Block.{seal_written}
use Rattle.collector_model.specs.Image.{entry_cell}
use Rattle.collector_state.specs.Collector.{Columns, columns_held}
use Rattle.collector_checkpoint.specs.Private.{entries_from}
use Rattle.collector_checkpoint.proofs.Writing.{writable_part, block_written}
use Rattle.collector_checkpoint.proofs.put_block.Goals as goal
use Rattle.collector_checkpoint.proofs.put_block.Goals.{Start, After-put_header, After-put_cells}

abbrev table : Start → Columns
table s = columns_held s.args.state

pub put_cells-requires : goal.put_cells-requires
put_cells-requires c =
    let a = c.args in (
      omega arith,
      omega arith,
      rw c.used_from-used.ensures (writable_part a.state.lens.now a.k a.state.summary.count c.requires.1 c.requires.2),
    )

-- after the header, and after the cells
abbrev headed : After-put_header → Writing header_length
headed c =
    let a = c.args in
    let b = begin a.out.now in
    packed
    (lend b _ (header_of a.k c.used_from-used.result a.a a.b) header_length
    (c.put_header.ensures
    ∙ overwritten-fits header_length _ _ (lent b header_length header_length (omega arith) (omega arith)))
    c.put_header.auto.out (omega arith) (omega arith))

abbrev filled : After-put_cells → Writing body_length
filled c =
    let after_header = c.before.before.before in
    packed (lend (headed after_header.before).begun _ _ body_length
    c.put_cells.ensures c.put_cells.auto.out (omega arith) (omega arith))

pub returns : goal.returns
returns c =
    let at = goal.at.returns c in
    let t = table at.Start in
    let a = c.args in
    let used = c.used_from-used.result in
    c.seal.ensures
    ∙ seal_written (header_of a.k used a.a a.b)
    (map entry_cell (entries_from t (cells_per_block * a.k) used))
    (header-length a.k used a.a a.b) (filled at.After-put_cells).begun c.requires.0
    ∙ block_written t a.k a.a a.b a.state.summary.count used c.used_from-used.ensures
