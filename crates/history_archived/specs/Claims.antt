-- The claims on the rows that `lines` gives. proofs/Archived.antt proves them. For input that comes in pieces, the
-- claim is `RowsInPieces` of text_collect.
use Rattle.std.specs.Prelude.{ℕ, ◌*◌, ◌≡◌, true, List, [], length}
use Rattle.base_lists.specs.Lists.{all}
use Rattle.collector_model.specs.Reference.{model_view, log_of}
use Rattle.text_program.specs.Lines.{lines_of, output_of}
use Rattle.text_program.specs.Collect.{Phase, starting}
use Rattle.archive_model.specs.Row.{Row}
use Rattle.archive_model.specs.Claims.{is_fit}
use Rattle.archive_fill.specs.Fill.{row_length, rows_given, check_rows}
use Rattle.text_collect.specs.Printed.{past_after_lines}
use Rattle.text_collect.specs.Session.{Receiver, running_at}
use Rattle.text_collect.specs.Rows.{row_times, row_records}
use Rattle.journal_model.specs.Rows.{model_rows}
use Rattle.history_archived.specs.Archived.{archived_of}

-- the rows in the times and the records that a text gives, as `put_rows` reads them
abbrev pub rows_said : Phase Receiver → List ℕ → List Row
rows_said s input = rows_given (output_of row_times s input) (output_of row_records s input)

-- Log archived: the rows of a log are the reference model's.
abbrev pub LogArchived : Type 0
LogArchived = (input : List ℕ) → rows_said starting input ≡ archived_of input

-- Lines archived: the same for further lines, after any lines and with any setting.
abbrev pub LinesArchived : Type 0
LinesArchived =
    (setting : ℕ) (before : List (List ℕ)) (input : List ℕ)
    → rows_said (running_at setting (model_view (log_of (past_after_lines [] before)))) input
    ≡ model_rows (past_after_lines [] before) (lines_of input)

-- Records sized: there is a record of 23 bytes for each time, in every state.
abbrev pub RecordsSized : Type 0
RecordsSized =
    (s : Phase Receiver) (input : List ℕ) → length (output_of row_records s input) ≡ row_length * length (output_of row_times s input)

-- an archive can hold each of these rows, and the check of `put_rows` refuses none of them
pub record Storable (rows : List Row) : Type 0 where
  pub fit : all is_fit rows ≡ true
  pub checked : (check_rows 0 rows).number ≡ 0

-- Archived storable: this holds for the rows of every input.
abbrev pub ArchivedStorable : Type 0
ArchivedStorable = (input : List ℕ) → Storable (archived_of input)
