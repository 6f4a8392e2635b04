-- What is proved of a cut, which keeps the first rows of an archive.
use Rattle.std.specs.Prelude.{ℕ, ◌+◌, ◌-◌, ◌*◌, ◌/◌, ◌%◌, ◌<◌, ◌≡◌, List, ◌++◌, length, take, drop, replicate}
use Rattle.block_layout.specs.Block.{cells_per_block, block_length}
use Rattle.archive_model.specs.Buffer.{rows_in}
use Rattle.archive_model.specs.Append.{verdict, stored, block_at}
use Rattle.archive_model.specs.Claims.{after_appends}
use Rattle.archive_cut.specs.Cut.{cut_of, cut_block_of}

-- First rows remain: after a cut, the buffer is an archive of the same length with exactly the first m rows.
abbrev pub FirstRowsRemain : Type 0
FirstRowsRemain =
    (m : ℕ) (buffer : List ℕ) → (cut_of m buffer).number ≡ 0
    → ((verdict (cut_of m buffer).buffer).number ≡ 0) × (rows_in (cut_of m buffer).buffer ≡ take m (rows_in buffer))
    × (length (cut_of m buffer).buffer ≡ length buffer)

-- Again: a second cut to the same number of rows is answered 0 and changes nothing.
abbrev pub CutAgain : Type 0
CutAgain =
    (m : ℕ) (buffer : List ℕ) → (cut_of m buffer).number ≡ 0
    → cut_of m (cut_of m buffer).buffer ≡ stored (cut_of m buffer).buffer

-- Undone: if the rows that were cut off are appended again in their order, the buffer is the old one.
abbrev pub Undone : Type 0
Undone =
    (m : ℕ) (buffer : List ℕ) → (cut_of m buffer).number ≡ 0
    → after_appends (cut_of m buffer).buffer (drop m (rows_in buffer)) ≡ buffer

-- One block: if rows are cut off, the blocks before block m / 15 stay, that block becomes what `cut_block` makes of it
-- for m % 15 rows, and the blocks after it are zero.
abbrev pub AtOneBlock : Type 0
AtOneBlock =
    (m : ℕ) (buffer : List ℕ) → (verdict buffer).number ≡ 0 → m < length (rows_in buffer)
    → ((cut_block_of (m % cells_per_block) (block_at (m / cells_per_block) buffer)).number ≡ 0)
    × (cut_of m buffer
    ≡ stored
    (take (block_length * (m / cells_per_block)) buffer
    ++ (cut_block_of (m % cells_per_block) (block_at (m / cells_per_block) buffer)).block
    ++ replicate (length buffer - (block_length * (m / cells_per_block) + block_length)) 0))

-- Zeros behind: if block k has rows, an archive with zeros from block k on is the archive cut to the 15 k rows before
-- that block. So if blocks of a file are cleared one by one, the last one first, the file stays an archive.
abbrev pub ZerosBehind : Type 0
ZerosBehind =
    (k : ℕ) (buffer : List ℕ) → (verdict buffer).number ≡ 0 → cells_per_block * k < length (rows_in buffer)
    → cut_of (cells_per_block * k) buffer
    ≡ stored (take (block_length * k) buffer ++ replicate (length buffer - block_length * k) 0)
