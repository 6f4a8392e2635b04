-- Rows of an archive and the blocks that hold them (document 02, A2).
use Rattle.std.specs.Prelude.{ℕ, ◌+◌, Bool, true, cond, ◌&&◌, List, [], ◌∷◌, ◌++◌, map, leb, eqb, length, get_or, replicate}
use Rattle.base_lists.specs.Lists.{equal, all, up_from}
use Rattle.base_buffers.specs.Buffer.{part}
use Rattle.block_layout.specs.BigEndian.{be, unbe}
use Rattle.block_layout.specs.Cell.{cell_of, cell_time, cell_bytes, cell_last}
use Rattle.block_layout.specs.Block.{cells_per_block, block_of, block_cell}
use Rattle.radio_erp1.specs.Subtelegram.{is_valid}

-- a reception that was KEPT or LOOSE
pub record Row : Type 0 where
  pub bytes : List ℕ
  pub time : ℕ
  pub loose : Bool

-- the last two bytes of its cell as one number: "byte 30 of a row is 0 for KEPT and 1 for LOOSE", byte 31 zero
abbrev pub row_last : Bool → ℕ
row_last loose = cond loose 256 0

-- the cell of a row
abbrev pub row_cell : Row → List ℕ
row_cell r = cell_of r.time r.bytes (row_last r.loose)

-- "number (4 bytes big-endian, from 0), row count 1 to 15 (1), zeros to byte 23"
abbrev pub rows_header : ℕ → ℕ → List ℕ
rows_header k count = be 4 k ++ (count ∷ []) ++ replicate 19 0

-- block k with these rows
unfoldable pub rows_block : ℕ → List Row → List ℕ
rows_block k rows = block_of (rows_header k (length rows)) (map row_cell rows)

-- ---- what a block says, sound or not

-- the number in the first four bytes
abbrev pub block_number : List ℕ → ℕ
block_number block = unbe (part 0 4 block)

-- the count of rows in byte 4
abbrev pub row_count : List ℕ → ℕ
row_count block = get_or block 4 0

-- the row in a cell
abbrev pub row_in : List ℕ → Row
row_in cell = record { bytes = cell_bytes cell; time = cell_time cell; loose = eqb (cell_last cell) (row_last true) }

-- the rows of a block, as many as its count says
unfoldable pub rows_of : List ℕ → List Row
rows_of block = map (λ i. row_in (block_cell i block)) (up_from 0 (row_count block))

-- a row is valid: its bytes pass the check
abbrev pub is_row : Row → Bool
is_row r = is_valid r.bytes

-- "layout, rows and check are right apart from its number" (A9)
unfoldable pub is_sound : List ℕ → Bool
is_sound block =
    leb 1 (row_count block)
    && (leb (row_count block) cells_per_block
    && (all is_row (rows_of block)
    && equal (rows_block (block_number block) (rows_of block)) block))

-- all bytes are zero
abbrev pub is_blank : List ℕ → Bool
is_blank block = all (λ b. eqb b 0) block
