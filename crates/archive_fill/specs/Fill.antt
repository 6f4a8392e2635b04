-- Several rows are put into one block, all or none, in the layout of document 02, A2.
use Rattle.std.specs.Prelude.{ℕ, ◌+◌, ◌*◌, ◌/◌, ◌%◌, cond, not, ◌&&◌, List, [], ◌∷◌, map, ltb, eqb, length, get_or, drop}
use Rattle.base_refusal.specs.Number.{number_of}
use Rattle.base_refusal.specs.declared.Refusal.TheVariants.{ShortOutput, Mismatch, Size}
use Rattle.base_lists.specs.Lists.{up_from}
use Rattle.radio_erp1.specs.Subtelegram.{check_of}
use Rattle.base_buffers.specs.Buffer.{part, resized}
use Rattle.block_layout.specs.Block.{cells_per_block, block_length}
use Rattle.archive_model.specs.Row.{Row, is_row}
use Rattle.archive_model.specs.Buffer.{max_rows}
use Rattle.archive_model.specs.Append.{Verdict, Appended, refused_append, stored, is_next, put_row}

-- ---- the rows that a caller hands over

-- the length of a record of a row without its time
abbrev pub row_length : ℕ
row_length = 23

-- a record of 23 bytes: the first byte is not 0 for LOOSE, the second is the length, then the bytes. A length over 21
-- gives a row of that length, which fails the check with 1.
abbrev pub row_given : ℕ → List ℕ → Row
row_given time given = record {
  bytes = resized (get_or given 1 0) (drop 2 given);
  time = time;
  loose = not (eqb (get_or given 0 0) 0);
}

-- the rows of a list of times, each with its record
unfoldable pub rows_given : List ℕ → List ℕ → List Row
rows_given times records =
    map (λ i. row_given (get_or times i 0) (part (row_length * i) row_length records)) (up_from 0 (length times))

-- ---- putting them

-- rows n, n + 1, .. are put one after the other
unfoldable pub put_rows : ℕ → List Row → List ℕ → List ℕ
put_rows n [] block = block
put_rows n (r ∷ rows) block = put_rows (n + 1) rows (put_row n r block)

-- the check's number for the first row that it refuses, and the position of that row in the list, counted from i; 0 if
-- it refuses none
unfoldable pub check_rows : ℕ → List Row → Verdict
check_rows i [] = record { number = 0; position = 0 }
check_rows i (r ∷ rows) = cond (is_row r) (check_rows (i + 1) rows) (record { number = check_of r.bytes; position = i })

-- 16 for a wrong length or an n that no archive has; 12 with the block's number if row n is not the next of the block;
-- the check's number with the position of the row; 6 if the block has no room for all rows
unfoldable pub put_rows_of : List ℕ → ℕ → List Row → Appended
put_rows_of block n rows =
    cond (not (eqb (length block) block_length && ltb n max_rows)) (refused_append (number_of Size) 0 block)
    (cond (not (is_next n block)) (refused_append (number_of Mismatch) (n / cells_per_block) block)
    (cond (not (eqb (check_rows 0 rows).number 0))
    (refused_append (check_rows 0 rows).number (check_rows 0 rows).position block)
    (cond (ltb cells_per_block (n % cells_per_block + length rows)) (refused_append (number_of ShortOutput) 0 block)
    (stored (put_rows n rows block)))))

-- the same for records: also 16 if they are not 23 bytes for each time
unfoldable pub put_rows_given : List ℕ → ℕ → List ℕ → List ℕ → Appended
put_rows_given block n times records =
    cond (not (eqb (length records) (row_length * length times))) (refused_append (number_of Size) 0 block)
    (put_rows_of block n (rows_given times records))
