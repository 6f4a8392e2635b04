-- The buffer of an archive: what it holds, and the first block that does not match (document 02, A2).
use Rattle.std.specs.Prelude.{ℕ, suc, ◌+◌, ◌-◌, ◌*◌, ◌/◌, ◌%◌, ◌^◌, Bool, false, cond, not, ◌&&◌, ltb, leb, eqb, length}
use mathlib.Core.List.{List, [], ◌∷◌, map, flatten}
use Rattle.base_lists.specs.Lists.{padded, up_from}
use Rattle.base_buffers.specs.Buffer.{part}
use Rattle.block_layout.specs.Block.{cells_per_block, block_length}
use Rattle.archive_model.specs.Row.{Row, rows_block, block_number, row_count, rows_of, is_sound, is_blank}

-- ---- writing

-- how many blocks n rows need: "only the last block may have fewer than 15 rows"
abbrev pub blocks_for : ℕ → ℕ
blocks_for n = (n + (cells_per_block - 1)) / cells_per_block

-- the rows of block k
abbrev pub rows_at : ℕ → List Row → List Row
rows_at k rows = part (cells_per_block * k) cells_per_block rows

-- the bytes of an archive of these rows: full blocks, and a last one that may be short
unfoldable pub archive_of : List Row → List ℕ
archive_of rows = flatten (map (λ k. rows_block k (rows_at k rows)) (up_from 0 (blocks_for (length rows))))

-- a buffer of n bytes with these rows: "the archive ends at the first all-zero block, after which all is zero, or at
-- the end of the room"
unfoldable pub buffer_of : ℕ → List Row → List ℕ
buffer_of n rows = padded n (archive_of rows)

-- ---- reading

-- the largest number of blocks of an archive
abbrev pub max_blocks : ℕ
max_blocks = 2 ^ 32

-- the largest number of rows of an archive
abbrev pub max_rows : ℕ
max_rows = cells_per_block * max_blocks

-- the length of a buffer is right; 16 is answered for "room that isn't whole blocks or is over 2^32 of them"
unfoldable pub is_whole : ℕ → Bool
is_whole n = eqb (n % block_length) 0 && leb (n / block_length) max_blocks

-- the whole blocks of a buffer
unfoldable pub blocks_in : List ℕ → List (List ℕ)
blocks_in buffer = map (λ k. part (block_length * k) block_length buffer) (up_from 0 (length buffer / block_length))

-- the rows of all blocks; an all-zero block has none
unfoldable pub rows_in : List ℕ → List Row
rows_in buffer = flatten (map rows_of (blocks_in buffer))

-- the position of a block, or None
pub data Found : Type 0 where
  At : ℕ → Found
  None : Found

-- after the end of an archive: the first block that is not all zero
abbrev pub non_zero : ℕ → List (List ℕ) → Found
non_zero k [] = None
non_zero k (b ∷ bs) = cond (is_blank b) (non_zero (suc k) bs) (At k)

-- a block has fewer than 15 rows
abbrev pub is_short : List ℕ → Bool
is_short block = ltb (row_count block) cells_per_block

-- "with a non-zero block next"
abbrev pub is_followed : List (List ℕ) → Bool
is_followed [] = false
is_followed (b ∷ bs) = not (is_blank b)

-- "the first block that doesn't match (wrong number, short with a non-zero block next, or non-zero after the end
-- included)", of the blocks from number k on
unfoldable pub mismatch_from : ℕ → List (List ℕ) → Found
mismatch_from k [] = None
mismatch_from k (b ∷ bs) =
    cond (is_blank b) (non_zero (suc k) bs)
    (cond (not (is_sound b && eqb (block_number b) k)) (At k)
    (cond (is_short b && is_followed bs) (At k)
    (mismatch_from (suc k) bs)))

-- the first block of a buffer that does not match
unfoldable pub mismatch : List ℕ → Found
mismatch buffer = mismatch_from 0 (blocks_in buffer)

-- ---- the same in pieces: what is known after some blocks, so that a file can be read once, in parts

-- what is known of the blocks so far
pub data Stage : Type 0 where
  -- Filling: all blocks so far are full. Short: the last one is short. Ended: there was an all-zero block.
  Filling Short Ended : Stage
  -- the position of the first block that does not match
  Wrong : ℕ → Stage

-- a scan after some blocks
pub record Scan : Type 0 where
  -- how many blocks were read, and how many rows they have
  pub blocks : ℕ
  pub rows : ℕ
  pub stage : Stage

-- the scan before the first block
abbrev pub start_scan : Scan
start_scan = record { blocks = 0; rows = 0; stage = Filling }

-- the stage after a block that is not all zero, at position k
abbrev pub stage_after : Stage → ℕ → List ℕ → Stage
stage_after Filling k b = cond (is_sound b && eqb (block_number b) k) (cond (is_short b) Short Filling) (Wrong k)
stage_after Short k b = Wrong (k - 1)
stage_after Ended k b = Wrong k
stage_after (Wrong j) k b = Wrong j

-- the stage after an all-zero block
abbrev pub stage_blank : Stage → Stage
stage_blank Filling = Ended
stage_blank Short = Ended
stage_blank Ended = Ended
stage_blank (Wrong j) = Wrong j

-- the scan after one more block
unfoldable pub scan_block : Scan → List ℕ → Scan
scan_block s b = record {
  blocks = s.blocks + 1;
  rows = s.rows + cond (is_sound b) (row_count b) 0;
  stage = cond (is_blank b) (stage_blank s.stage) (stage_after s.stage s.blocks b);
}

-- the scan after more blocks
unfoldable pub scan_blocks : Scan → List (List ℕ) → Scan
scan_blocks s [] = s
scan_blocks s (b ∷ bs) = scan_blocks (scan_block s b) bs

-- the first block that does not match, by the stage after all blocks: a short last block is allowed
abbrev pub stage_found : Stage → Found
stage_found Filling = None
stage_found Short = None
stage_found Ended = None
stage_found (Wrong j) = At j
