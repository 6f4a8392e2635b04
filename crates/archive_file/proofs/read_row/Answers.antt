-- `archive_file::read_row` meets its contract: the bytes of the cell are copied as they stand.
use mathlib.Core.Path.{◌≡◌, sym, ap, ap₂, ◌∙◌}
use mathlib.Core.Bool.{Bool}
use mathlib.Core.List.{List}
use Prim.Native.Nat.{ℕ, ◌+◌, ◌*◌, ◌≤◌, ◌<◌}
use native.Mathlib.Omega.{arith}
use borrow.Author.Rules.{rules}
use borrow.Author.Tests.{lt-ltb, le-ltb}
use lib.ListN.{length}
use Rattle.block_layout.specs.Cell.{cell_length, cell_capacity, cell_time, cell_used, cell_field}
use Rattle.block_layout.specs.Block.{header_length, cells_per_block, block_length, block_cell}
use Rattle.base_buffers.proofs.Segments.{part_length}
use Rattle.base_buffers.proofs.Buffer.{resized_whole}
use Rattle.archive_model.specs.Row.{row_count, row_in}
use Rattle.archive_model.specs.Append.{ReadRow, cell_row}
use Rattle.archive_model.proofs.Reading.{cell_found, cell_long}
use Rattle.archive_file.specs.Archive.{row_shown}
use Rattle.archive_file.specs.Private.{row_in_block}
use Rattle.archive_file.proofs.Cells.{used_is}
use Rattle.archive_file.proofs.read_row.Goals as goal

pub returns-then-byte_at-i : goal.returns-then-byte_at-i
returns-then-byte_at-i c =
    let a = c.args in
    let h : row_count a.block.now ≤ a.i = omega (arith, c.byte_at.ensures, c.if-byte_at-i.true) in
    rw (le-ltb a.i (row_count a.block.now) h)

cell_is : (block : List ℕ) (i : ℕ) → length block ≡ block_length → i < cells_per_block
    → length (block_cell i block) ≡ cell_length
cell_is block i l h = part_length (header_length + cell_length * i) cell_length block (omega arith)

-- the cell is the answer of its block
in_block : (block cell : List ℕ) (i : ℕ) → cell ≡ block_cell i block → i < row_count block
    → cell_row cell ≡ row_in_block block i
in_block block cell i e h = ap cell_row e ∙ (rw (lt-ltb i (row_count block) h))

pub returns-then-len-gt-CELL_CAPACITY : goal.returns-then-len-gt-CELL_CAPACITY
returns-then-len-gt-CELL_CAPACITY c =
    let a = c.args in
    let h : a.i < row_count a.block.now = omega (arith, c.byte_at.ensures, c.if-byte_at-i.false) in
    ap (λ (r : ReadRow). row_shown r (block_cell a.i a.block.now))
    (sym (cell_long c.cell_at-cell.result.now (omega
    (arith, c.cell_used-len.ensures, c.if-len-gt-CELL_CAPACITY.true)))
    ∙ in_block a.block.now c.cell_at-cell.result.now a.i c.cell_at-cell.ensures h)

-- what is read of a cell
read : (cell bytes : List ℕ) (time len : ℕ) (loose : Bool) → len ≡ cell_used cell
    → len ≤ cell_capacity → time ≡ cell_time cell → loose ≡ (row_in cell).loose
    → bytes ≡ cell_field cell
    → (record { number = 0; len = len; bytes = bytes; time = time; loose = loose }) ≡ row_shown (cell_row cell) cell
read cell bytes time len loose u h t o b =
    let short : cell_used cell ≤ cell_capacity = omega arith in
    rw (cell_found cell short, b, used_is cell, t, o, u)

pub returns : goal.returns
returns c =
    let a = c.args in
    let cell = c.cell_at-cell.result.now in
    let h : a.i < row_count a.block.now = omega (arith, c.byte_at.ensures, c.if-byte_at-i.false) in
    let l : length cell ≡ cell_length =
    ap length c.cell_at-cell.ensures ∙ cell_is a.block.now a.i c.requires.0 c.requires.1 in
    let field =
    c.copy_field.ensures
    ∙ resized_whole cell_capacity (cell_field cell) (part_length 9 cell_capacity cell (omega (arith, l))) in
    read cell _ _ _ _ c.cell_used-len.ensures c.if-len-gt-CELL_CAPACITY.false c.cell_time-time.ensures
    c.is_loose-loose.ensures field
    ∙ ap₂ row_shown (in_block a.block.now cell a.i c.cell_at-cell.ensures h) c.cell_at-cell.ensures

pub cell_at-cell-requires : goal.cell_at-cell-requires
cell_at-cell-requires c = (search rules, omega arith)
