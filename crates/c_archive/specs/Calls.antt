-- What the calls answer, and what they write into lent memory. The answers are those of the models. After a refusal,
-- lent memory is unchanged, except for a position that goes with the refusal.
use Rattle.std.specs.Prelude.{ℕ, Bool, cond, not, ◌||◌, List, [], ◌∷◌, ◌++◌, eqb, length}
use Rattle.base_refusal.specs.Number.{number_of}
use Rattle.base_refusal.specs.declared.Refusal.TheVariants.{Length, Sum, Nested, Crc, Mismatch}
use Rattle.archive_model.specs.Row.{Row}
use Rattle.archive_model.specs.Append.{Opening, Appended, row_at_of}
use Rattle.archive_repack_model.specs.Repack.{Salvaged, Removed}
use Rattle.archive_fill.specs.Fill.{row_length}
use Rattle.c_layout.specs.Frame.{wrong_size, frame_bytes, flag_byte}
use Rattle.c_layout.specs.Lent.{if_done, if_mismatch}

-- ---- answers, and the lent memory that they go into

-- how many rows an archive has
abbrev pub open_call : Opening → ℕ → ℕ → Opening
open_call a rows position = record {
  number = a.number;
  position = if_mismatch a.number a.position position;
  rows = if_done a.number a.rows rows;
}

-- a row appended, or rows cut
abbrev pub append_call : Appended → ℕ → Appended
append_call a position = record {
  number = a.number;
  position = if_mismatch a.number a.position position;
  buffer = a.buffer;
}

-- several rows are put into a block: the position of a row also goes with the check's numbers
unfoldable pub has_place : ℕ → Bool
has_place n =
    eqb n (number_of Mismatch)
    || (eqb n (number_of Length) || eqb n (number_of Sum) || (eqb n (number_of Crc) || eqb n (number_of Nested)))

-- the result of `put_rows` in lent memory
abbrev pub put_rows_call : Appended → ℕ → Appended
put_rows_call a position = record {
  number = a.number;
  position = cond (has_place a.number) a.position position;
  buffer = a.buffer;
}

-- the result of a salvage in lent memory
abbrev pub salvage_call : Salvaged → ℕ → ℕ → Salvaged
salvage_call a dropped rows = record {
  number = a.number;
  count = if_done a.number a.count dropped;
  rows = if_done a.number a.rows rows;
  output = a.output;
  positions = a.positions;
}

-- the result of a removal in lent memory
abbrev pub remove_call : Removed → ℕ → ℕ → Removed
remove_call a freed position = record {
  number = a.number;
  position = if_mismatch a.number a.position position;
  freed = if_done a.number a.freed freed;
  buffer = a.buffer;
}

-- ---- a row

-- a row without its time: 1 for LOOSE or 0, its length, and its bytes, zero filled to 21
unfoldable pub row_bytes : Row → List ℕ
row_bytes r = (flag_byte r.loose ∷ []) ++ frame_bytes (length r.bytes) r.bytes

-- the number, every byte of the row after the call, and its time
pub record RowCall : Type 0 where
  pub number : ℕ
  pub row : List ℕ
  pub time : ℕ

abbrev pub row_answer : ℕ → List ℕ → ℕ → RowCall
row_answer number row time = record { number = number; row = row; time = time }

-- row i, read from its cell; if the lent row has another size, row and time are unchanged
unfoldable pub row_call : List ℕ → ℕ → List ℕ → ℕ → RowCall
row_call buffer i old was =
    cond (not (eqb (length old) row_length)) (row_answer wrong_size old was)
    (row_answer (row_at_of buffer i).number
    (if_done (row_at_of buffer i).number (row_bytes (row_at_of buffer i).row) old)
    (if_done (row_at_of buffer i).number (row_at_of buffer i).row.time was))
