-- Opening an archive and appending a row, for every buffer (document 02, A2).
use Rattle.std.specs.Prelude.{ℕ, ◌+◌, ◌-◌, ◌*◌, ◌/◌, ◌%◌, Bool, false, cond, not, ◌&&◌, List, [], ◌∷◌, ◌++◌, ltb, leb, eqb, length, take, drop}
use Rattle.base_refusal.specs.Number.{number_of}
use Rattle.base_refusal.specs.declared.Refusal.TheVariants.{ShortOutput, Argument, NotAccepted, Mismatch, Size}
use Rattle.base_buffers.specs.Buffer.{part}
use Rattle.block_layout.specs.Cell.{cell_length, cell_capacity, cell_used}
use Rattle.block_layout.specs.Block.{header_length, cells_per_block, body_length, block_length, sealed, block_cell}
use Rattle.radio_erp1.specs.Subtelegram.{check_of, is_valid}
use Rattle.archive_model.specs.Row.{Row, row_cell, rows_header, block_number, row_count, row_in, is_blank}
use Rattle.archive_model.specs.Buffer.{Found, At, None, max_blocks, max_rows, is_whole, blocks_in, mismatch, rows_in, buffer_of, Stage, Filling, Short, Ended, Wrong, Scan, scan_blocks}

-- the verdict on a buffer: 16 for a wrong length, 12 with the position of the first block that does not match, 0 for an
-- archive
pub record Verdict : Type 0 where
  pub number : ℕ
  pub position : ℕ

-- the verdict by the first block that does not match
abbrev pub found : Found → Verdict
found (At k) = record { number = number_of Mismatch; position = k }
found None = record { number = 0; position = 0 }

-- the verdict on a buffer: first its length, then its blocks
unfoldable pub verdict : List ℕ → Verdict
verdict buffer =
    cond (not (is_whole (length buffer))) (record { number = number_of Size; position = 0 }) (found (mismatch buffer))

-- the verdict, and with 0 how many rows the archive has
pub record Opening : Type 0 where
  pub number : ℕ
  pub position : ℕ
  pub rows : ℕ

-- opening an archive
unfoldable pub open_of : List ℕ → Opening
open_of buffer = record {
  number = (verdict buffer).number;
  position = (verdict buffer).position;
  rows = cond (eqb (verdict buffer).number 0) (length (rows_in buffer)) 0;
}

-- the number, the position that goes with it, and every byte of the buffer after the call
pub record Appended : Type 0 where
  pub number : ℕ
  pub position : ℕ
  pub buffer : List ℕ

-- "the check's for a row, 6 for no room for another block"
abbrev pub row_number : List ℕ → Row → ℕ
row_number buffer r =
    cond (not (is_valid r.bytes)) (check_of r.bytes)
    (cond (leb (cells_per_block * (length buffer / block_length)) (length (rows_in buffer))) (number_of ShortOutput)
    0)

-- a refusal: the buffer is unchanged
abbrev pub refused_append : ℕ → ℕ → List ℕ → Appended
refused_append number position buffer = record { number = number; position = position; buffer = buffer }

-- done: the buffer after the call
abbrev pub stored : List ℕ → Appended
stored buffer = record { number = 0; position = 0; buffer = buffer }

-- appending a row to an archive: the verdict, then the numbers of the row, then the rows with the new one
unfoldable pub append_of : List ℕ → Row → Appended
append_of buffer r =
    cond (not (eqb (verdict buffer).number 0))
    (refused_append (verdict buffer).number (verdict buffer).position buffer)
    (cond (not (eqb (row_number buffer r) 0)) (refused_append (row_number buffer r) 0 buffer)
    (stored (buffer_of (length buffer) (rows_in buffer ++ (r ∷ [])))))

-- ---- row n of an archive is in block n / 15, in cell n % 15, so the number of rows tells where the next one goes

-- block k of a buffer
abbrev pub block_at : ℕ → List ℕ → List ℕ
block_at k buffer = part (block_length * k) block_length buffer

-- the block after row n is put: its new header, the cells before the row, the row, the old bytes after it, and the CRC
unfoldable pub put_row : ℕ → Row → List ℕ → List ℕ
put_row n r block =
    sealed
    (rows_header (n / cells_per_block) (n % cells_per_block + 1)
    ++ part header_length (cell_length * (n % cells_per_block)) block
    ++ row_cell r
    ++ part (header_length + cell_length * (n % cells_per_block + 1))
    (body_length - (header_length + cell_length * (n % cells_per_block + 1))) block)

-- the first five bytes of a block say that row n is the next one
abbrev pub is_next : ℕ → List ℕ → Bool
is_next n block =
    cond (eqb (n % cells_per_block) 0) (is_blank (part 0 5 block))
    (eqb (block_number block) (n / cells_per_block) && eqb (row_count block) (n % cells_per_block))

-- row n is put into a single block: 16 for a wrong length or an n that no archive has; 12 with the block's number if
-- row n is not the next of the block; the check's number for a row that is not valid
unfoldable pub put_row_of : List ℕ → ℕ → Row → Appended
put_row_of block n r =
    cond (not (eqb (length block) block_length && ltb n max_rows)) (refused_append (number_of Size) 0 block)
    (cond (not (is_next n block)) (refused_append (number_of Mismatch) (n / cells_per_block) block)
    (cond (not (is_valid r.bytes)) (refused_append (check_of r.bytes) 0 block)
    (stored (put_row n r block))))

-- the buffer has the block of row n
abbrev pub is_inside : ℕ → List ℕ → Bool
is_inside n buffer = ltb (n / cells_per_block) (length buffer / block_length)

-- a row is appended as row n. Of the blocks, only the one for row n is read.
unfoldable pub append_at_of : List ℕ → ℕ → Row → Appended
append_at_of buffer n r =
    cond (not (is_whole (length buffer))) (refused_append (number_of Size) 0 buffer)
    (cond (is_inside n buffer && not (is_next n (block_at (n / cells_per_block) buffer)))
    (refused_append (number_of Mismatch) (n / cells_per_block) buffer)
    (cond (not (is_valid r.bytes)) (refused_append (check_of r.bytes) 0 buffer)
    (cond (not (is_inside n buffer)) (refused_append (number_of ShortOutput) 0 buffer)
    (stored
    (take (block_length * (n / cells_per_block)) buffer
    ++ put_row n r (block_at (n / cells_per_block) buffer)
    ++ drop (block_length * (n / cells_per_block) + block_length) buffer)))))

-- ---- a scan in pieces

-- how many rows n blocks have, by the stage after them. Filling: all blocks are full. Short: all but the last are full,
-- and the last is short. Ended: at least one block is all zero. Wrong: block j does not match.
abbrev pub is_stage : Stage → ℕ → ℕ → Bool
is_stage Filling n rows = eqb rows (cells_per_block * n)
is_stage Short n rows = ltb rows (cells_per_block * n) && ltb (cells_per_block * n) (rows + cells_per_block)
is_stage Ended n rows = leb (rows + cells_per_block) (cells_per_block * n)
is_stage (Wrong j) n rows = ltb j n

-- a scan that some blocks give: at most 2^32 blocks with at most 15 rows each. The calls answer 11 for any other.
abbrev pub is_scan : Scan → Bool
is_scan s =
    leb s.blocks max_blocks
    && (leb s.rows (cells_per_block * s.blocks) && is_stage s.stage s.blocks s.rows)

-- the number, and the scan after a piece
pub record Feeding : Type 0 where
  pub number : ℕ
  pub next : Scan

-- 11 for a scan that no blocks give; then 16 for a piece that isn't whole blocks, or if there are then more than 2^32
-- blocks in all
unfoldable pub feed_of : Scan → List ℕ → Feeding
feed_of s piece =
    cond (not (is_scan s)) (record { number = number_of NotAccepted; next = s })
    (cond (not (eqb (length piece % block_length) 0 && leb (s.blocks + length piece / block_length) max_blocks))
    (record { number = number_of Size; next = s })
    (record { number = 0; next = scan_blocks s (blocks_in piece) }))

-- ---- row i, read from its cell

-- the number, and the row; no row with a refusal
pub record ReadRow : Type 0 where
  pub number : ℕ
  pub row : Row

abbrev pub no_row : Row
no_row = record { bytes = []; time = 0; loose = false }

-- the row of a cell; 12 if its length is over 21, because no block of an archive has such a cell
unfoldable pub cell_row : List ℕ → ReadRow
cell_row cell =
    cond (leb (cell_used cell) cell_capacity) (record { number = 0; row = row_in cell })
    (record { number = number_of Mismatch; row = no_row })

-- the cell of row i
abbrev pub cell_at : ℕ → List ℕ → List ℕ
cell_at i buffer = block_cell (i % cells_per_block) (block_at (i / cells_per_block) buffer)

-- 16 for a wrong length of the buffer, 10 if there is no row i, 12 as `cell_row` says
unfoldable pub row_at_of : List ℕ → ℕ → ReadRow
row_at_of buffer i =
    cond (not (is_whole (length buffer))) (record { number = number_of Size; row = no_row })
    (cond (is_inside i buffer && ltb (i % cells_per_block) (row_count (block_at (i / cells_per_block) buffer)))
    (cell_row (cell_at i buffer))
    (record { number = number_of Argument; row = no_row }))
