-- `archive_file::row_at` meets its contract: each return is one case of `row_at_of`.
use mathlib.Core.Path.{sym, ap, ◌∙◌}
use mathlib.Core.List.{List}
use Prim.Native.Nat.{ℕ, ◌*◌, ◌/◌, ◌%◌}
use native.Mathlib.Omega.{arith}
use lib.ListN.{length}
use Rattle.block_layout.specs.Block.{cells_per_block, block_length, block_cell}
use Rattle.base_buffers.proofs.Segments.{part_length, part-ends}
use Rattle.archive_model.specs.Append.{ReadRow, cell_at}
use Rattle.archive_file.specs.Archive.{ShownRow, row_shown}
use Rattle.archive_file.specs.Private.{row_in_block}
use Rattle.archive_file.proofs.Calls.{row-size, row_out, row_in}
use Rattle.archive_file.proofs.row_at.Goals as goal

-- an answer with the bytes of its cell
abbrev shown : ℕ → List ℕ → ReadRow → ShownRow
shown i buffer a = row_shown a (cell_at i buffer)

pub returns-then-not-is_whole : goal.returns-then-not-is_whole
returns-then-not-is_whole c =
    let a = c.args in
    ap (shown a.i a.buffer.now) (row-size a.buffer.now a.i (sym c.is_whole.ensures ∙ c.if-not-is_whole.true))

pub returns-then-buffer-k : goal.returns-then-buffer-k
returns-then-buffer-k c =
    let a = c.args in
    ap (shown a.i a.buffer.now)
    (row_out a.buffer.now a.i (sym c.is_whole.ensures ∙ c.if-not-is_whole.false) c.if-buffer-k.true)

pub read_row-requires : goal.read_row-requires
read_row-requires c =
    let a = c.args in
    let k = a.i / cells_per_block in (
      ap length (part-ends (block_length * k) block_length a.buffer.now)
          ∙ part_length (block_length * k) block_length a.buffer.now (omega arith),
      omega arith,
    )

pub returns : goal.returns
returns c =
    let a = c.args in
    let k = a.i / cells_per_block in
    c.read_row.ensures
    ∙ ap (λ (l : List ℕ). row_shown (row_in_block l (a.i % cells_per_block)) (block_cell (a.i % cells_per_block) l))
    (part-ends (block_length * k) block_length a.buffer.now)
    ∙ ap (shown a.i a.buffer.now)
    (row_in a.buffer.now a.i (sym c.is_whole.ensures ∙ c.if-not-is_whole.false) c.if-buffer-k.false)
