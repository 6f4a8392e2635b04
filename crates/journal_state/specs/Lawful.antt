-- The conditions on a state that can be written and is accepted.
use Rattle.std.specs.Prelude.{ℕ, ◌+◌, ◌-◌, ◌/◌, ◌%◌, min, Bool, true, cond, ◌&&◌, List, leb, eqb, length, take, drop}
use Rattle.base_lists.specs.Lists.{equal}
use Rattle.block_layout.specs.Block.{cells_per_block}
use Rattle.collector_model.specs.Image.{totals_in, accepts}
use Rattle.archive_model.specs.Row.{block_number, row_count, is_sound, is_blank}
use Rattle.archive_model.specs.Buffer.{max_rows}
use Rattle.journal_state.specs.State.{Kept, nth, began, had, file_number, name_length, logged, offset, tail_length, printed, max_name, max_tail, old_length, version_of, state_bytes, read_state}

-- how many rows an image counts, KEPT and LOOSE
unfoldable pub image_rows : List ℕ → ℕ
image_rows image = (totals_in image).kept + (totals_in image).loose

-- a block is the one with the last of `rows` rows of a file; it is all zero if there are none
unfoldable pub is_last_of : ℕ → List ℕ → Bool
is_last_of rows block =
    cond (eqb rows 0) (is_blank block)
    (is_sound block
    && (eqb (block_number block) ((rows - 1) / cells_per_block) && eqb (row_count block) ((rows - 1) % cells_per_block + 1)))

-- the file of the archive is right: it has the rows that it had when it began, and those that the collector has counted
-- since; the copy is its last block
unfoldable pub is_file : Kept → ℕ → Bool
is_file k counted =
    leb (began k) counted
    && (leb (had k + (counted - began k)) max_rows && is_last_of (had k + (counted - began k)) k.last)

-- the archive is right: its name is filled with zeros; without a name there is no archive, and its numbers are zero
unfoldable pub is_attached : Kept → ℕ → Bool
is_attached k counted =
    leb (name_length k) max_name
    && (is_blank (drop (name_length k) k.name)
    && cond (eqb (name_length k) 0)
    (eqb (began k) 0 && eqb (had k) 0 && eqb (file_number k) 0 && is_blank k.last)
    (is_file k counted))

-- the position in the log is right: the last 512 bytes before the offset are kept, or all if there are fewer; all is
-- zero if the position is not known
unfoldable pub is_placed : Kept → Bool
is_placed k =
    leb (tail_length k) max_tail
    && (is_blank (drop (tail_length k) k.tail)
    && cond (eqb (logged k) 0) (eqb (nth k 6) 0 && eqb (nth k 7) 0 && eqb (nth k 8) 0 && eqb (nth k 9) 0)
    (eqb (logged k) 1 && eqb (tail_length k) (min (offset k) max_tail)))

-- the file for rows is right: its numbers are all zero if there is none
unfoldable pub is_printed : Kept → Bool
is_printed k =
    cond (eqb (printed k) 0) (eqb (nth k 11) 0 && eqb (nth k 12) 0 && eqb (nth k 13) 0) (eqb (printed k) 1)

-- a lawful state: its image is accepted, and its archive, its position in the log and its file for rows are right
unfoldable pub is_lawful_state : Kept → Bool
is_lawful_state k = accepts k.image && (is_attached k (image_rows k.image) && (is_placed k && is_printed k))

-- a state that version 1 can hold: without a position in the log, and without a file for rows
unfoldable pub is_plain : Kept → Bool
is_plain k =
    eqb (nth k 5) 0 && eqb (nth k 6) 0 && eqb (nth k 7) 0 && eqb (nth k 8) 0 && eqb (nth k 9) 0 && eqb (nth k 10) 0
    && eqb (nth k 11) 0 && eqb (nth k 12) 0
    && eqb (nth k 13) 0

-- a file is accepted if it has one of the two lengths and is byte for byte what is written for the lawful state in it
unfoldable pub accepts_state : List ℕ → Bool
accepts_state bytes =
    let k = read_state bytes in
    cond (eqb (length bytes) old_length) (is_plain k) true
    && (is_lawful_state k && equal (take (length bytes) (state_bytes k (version_of (length bytes)))) bytes)
