-- What is proved of a call that puts several rows into one block.
use Rattle.std.specs.Prelude.{ℕ, ◌+◌, ◌*◌, ◌/◌, ◌^◌, ◌<◌, ◌≡◌, true, cond, List, [], ◌∷◌, ◌++◌, ltb, eqb, length, take, drop}
use Rattle.base_lists.specs.Lists.{all}
use Rattle.block_layout.specs.Block.{cells_per_block, block_length}
use Rattle.archive_model.specs.Row.{Row}
use Rattle.archive_model.specs.Buffer.{rows_in}
use Rattle.archive_model.specs.Append.{Appended, verdict, stored, block_at, put_row_of}
use Rattle.archive_fill.specs.Fill.{put_rows_of}

-- rows that are put by one call each, up to the first that is refused
unfoldable pub one_by_one : List ℕ → ℕ → List Row → Appended
one_by_one block n [] = stored block
one_by_one block n (r ∷ rows) =
    cond (eqb (put_row_of block n r).number 0) (one_by_one (put_row_of block n r).buffer (n + 1) rows)
    (put_row_of block n r)

-- One by one: if rows are put together with answer 0, single calls put each of them with answer 0 and leave the same
-- block.
abbrev pub OneByOne : Type 0
OneByOne =
    (block : List ℕ) (n : ℕ) (rows : List Row) → (put_rows_of block n rows).number ≡ 0
    → one_by_one block n rows ≡ put_rows_of block n rows

-- a buffer whose block k is replaced
abbrev pub with_block : ℕ → List ℕ → List ℕ → List ℕ
with_block k block buffer = take (block_length * k) buffer ++ block ++ drop (block_length * k + block_length) buffer

-- the number of the block where the next row of an archive goes; and rows that are put into that block
abbrev pub next_block : List ℕ → ℕ
next_block buffer = length (rows_in buffer) / cells_per_block

abbrev pub put_next : List ℕ → List Row → Appended
put_next buffer rows = put_rows_of (block_at (next_block buffer) buffer) (length (rows_in buffer)) rows

-- In an archive: the buffer with that block replaced is the archive of the old rows and then the new ones.
abbrev pub InArchive : Type 0
InArchive =
    (buffer : List ℕ) (rows : List Row) → (verdict buffer).number ≡ 0 → next_block buffer < length buffer / block_length
    → all (λ r. ltb r.time (2 ^ 64)) rows ≡ true → (put_next buffer rows).number ≡ 0
    → ((verdict (with_block (next_block buffer) (put_next buffer rows).buffer buffer)).number ≡ 0)
    × (rows_in (with_block (next_block buffer) (put_next buffer rows).buffer buffer) ≡ rows_in buffer ++ rows)
