-- The results of the calls on an archive, as the model names them (document 02, A2).
use Rattle.std.specs.Prelude.{ℕ, Bool, false, cond, List, eqb, length, replicate, Result, Ok, Err, ⊤}
use Rattle.base_refusal.specs.Number.{number_of}
use Rattle.base_refusal.specs.declared.Refusal.TheVariants.{Mismatch}
use Rattle.block_layout.specs.Cell.{cell_capacity, cell_field}
use Rattle.archive_model.specs.Row.{Row, row_count, is_sound}
use Rattle.archive_model.specs.Buffer as buffer
use Rattle.archive_model.specs.Append.{Opening, Appended, Feeding, ReadRow}
use Rattle.archive_file.specs.declared.RowAt.{RowAt}
use Rattle.archive_file.specs.declared.Stage.{Stage}
use Rattle.archive_file.specs.declared.Stage.TheVariants as stage
use Rattle.archive_file.specs.declared.Scan.{Scan}
use Rattle.archive_file.specs.declared.ArchiveError.{ArchiveError}
use Rattle.base_refusal.specs.declared.Refusal.{Refusal}

-- ---- results: the number, the position that goes with 12, and what else is returned

abbrev pub open_result : Result ℕ ArchiveError → Opening
open_result (Ok n) = record { number = 0; position = 0; rows = n }
open_result (Err (ArchiveError.Damaged k)) = record { number = number_of Mismatch; position = k; rows = 0 }
open_result (Err (ArchiveError.Refused why)) = record { number = number_of why; position = 0; rows = 0 }

abbrev pub append_result : Result ⊤ ArchiveError → List ℕ → Appended
append_result (Ok tt) after = record { number = 0; position = 0; buffer = after }
append_result (Err (ArchiveError.Damaged k)) after = record { number = number_of Mismatch; position = k; buffer = after }
append_result (Err (ArchiveError.Refused why)) after = record { number = number_of why; position = 0; buffer = after }

abbrev pub row_of : List ℕ → ℕ → Bool → Row
row_of bytes time loose = record { bytes = bytes; time = time; loose = loose }

-- a row as it is returned: its length, and 21 bytes
pub record ShownRow : Type 0 where
  pub number : ℕ
  pub len : ℕ
  pub bytes : List ℕ
  pub time : ℕ
  pub loose : Bool

-- a row that a call returns, as the model names it; all zero with a refusal
abbrev pub read_result : Result RowAt Refusal → ShownRow
read_result (Ok r) = record { number = 0; len = r.len; bytes = r.bytes; time = r.time; loose = r.loose }
read_result (Err why) = record {
  number = number_of why;
  len = 0;
  bytes = replicate cell_capacity 0;
  time = 0;
  loose = false;
}

-- the row that was read, with the 21 bytes of its cell; all zero with a refusal
abbrev pub row_shown : ReadRow → List ℕ → ShownRow
row_shown a cell = record {
  number = a.number;
  len = length a.row.bytes;
  bytes = cond (eqb a.number 0) (cell_field cell) (replicate cell_capacity 0);
  time = a.row.time;
  loose = a.row.loose;
}

-- ---- a single block, and a scan

-- the number of rows of a sound block; 0 for any other block
abbrev pub sound_count : List ℕ → ℕ
sound_count block = cond (is_sound block) (row_count block) 0

abbrev pub stage_of : Stage → buffer.Stage
stage_of stage.Filling = buffer.Filling
stage_of stage.Short = buffer.Short
stage_of stage.Ended = buffer.Ended
stage_of (stage.Wrong k) = buffer.Wrong k

abbrev pub scan_of : Scan → buffer.Scan
scan_of s = record { blocks = s.blocks; rows = s.rows; stage = stage_of s.stage }

-- the result after a scan of all blocks with n rows
abbrev pub open_found : buffer.Found → ℕ → Opening
open_found (buffer.At k) n = record { number = number_of Mismatch; position = k; rows = 0 }
open_found buffer.None n = record { number = 0; position = 0; rows = n }

-- the number of an answer, and the scan after it: with a refusal, the scan that was handed in
abbrev pub feed_result : buffer.Scan → Result Scan Refusal → Feeding
feed_result s (Ok next) = record { number = 0; next = scan_of next }
feed_result s (Err why) = record { number = number_of why; next = s }
