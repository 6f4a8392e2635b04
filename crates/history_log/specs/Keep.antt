-- What `keep` answers for a log and an archive, and every byte of what is lent (document 02, A2, A8; document 01,
-- "Cases").
use Rattle.std.specs.Prelude.{ℕ, ◌-◌, ◌*◌, ◌/◌, min, Bool, cond, not, ◌||◌, List, [], ◌∷◌, ◌++◌, leb, ltb, eqb, length, drop, Option, Some, None}
use Rattle.base_buffers.specs.Buffer.{resized}
use Rattle.base_refusal.specs.Number.{number_of}
use Rattle.base_refusal.specs.declared.Refusal.TheVariants.{Argument, ShortOutput}
use Rattle.block_layout.specs.Block.{cells_per_block, block_length}
use Rattle.collector_closings.specs.Cells.{entry_cells}
use Rattle.collector_model.specs.View.{Reception, View}
use Rattle.collector_model.specs.Image.{image_of}
use Rattle.collector_model.specs.Reference.{log_of, model_view}
use Rattle.text_lines.specs.Reading.{setting_of}
use Rattle.text_program.specs.Lines.{lines_of}
use Rattle.text_collect.specs.Printed.{past_after_lines}
use Rattle.archive_model.specs.Buffer.{max_blocks, buffer_of, rows_in}
use Rattle.archive_model.specs.Append.{verdict}
use Rattle.journal_model.specs.Claims.{last_block}
use Rattle.journal_state.specs.State as state
use Rattle.c_lines.specs.Calls.{first_number}
use Rattle.history_archived.specs.Archived.{archived_of}
use Rattle.history_archived.specs.Closed.{closed_of}
use Rattle.history_log.specs.declared.Kept.{Kept}

-- ---- the collector after a log, by the reference model

-- the receptions of the lines after a first line `level N`, newest first; any other first line ends the run
abbrev pub past_with : Option ℕ → List (List ℕ) → List Reception
past_with (Some n) ls = past_after_lines [] ls
past_with None ls = []

-- the same for a first line that is missing
abbrev pub past_for : List (List ℕ) → List Reception
past_for [] = []
past_for (l ∷ ls) = past_with (setting_of l) ls

-- the collector after all lines
unfoldable pub state_after_log : List ℕ → View
state_after_log log = model_view (log_of (past_for (lines_of log)))

-- ---- the state of the plant's tool after a log that came on standard input

-- the text that is taken: all, or nothing if the first line says no level or has not ended
unfoldable pub taken_of : List ℕ → List ℕ
taken_of log = cond (leb (first_number log) 2) log []

-- the numbers of the state file: lines taken; rows counted when the file began, 0; rows that the archive had before; its
-- number, 0; length of its name; 1 for a known position in the log; this position; device and inode, 0 for standard
-- input; how many bytes before it are kept; no file for rows: 0 four times
abbrev pub state_numbers : (lines had name offset tail : ℕ) → List ℕ
state_numbers lines had name offset tail =
    lines ∷ 0 ∷ had ∷ 0 ∷ name ∷ 1 ∷ offset ∷ 0 ∷ 0 ∷ tail ∷ 0 ∷ 0 ∷ 0 ∷ 0 ∷ []

-- how many of the last bytes of a text are kept, at most 512
abbrev pub tail_length_of : List ℕ → ℕ
tail_length_of text = min (length text) state.max_tail

-- these bytes, with zeros after them
abbrev pub tail_of : List ℕ → List ℕ
tail_of text = resized state.max_tail (drop (length text - tail_length_of text) text)

-- the state, by the reference model
unfoldable pub note_of : (log archive name : List ℕ) → state.Kept
note_of log archive name =
    let text = taken_of log in
    state.kept
    (state_numbers (length (lines_of text)) (length (rows_in archive)) (length name) (length text) (tail_length_of text))
    (resized state.max_name name) (last_block max_blocks (rows_in archive ++ archived_of log)) (image_of (state_after_log log))
    (tail_of text)

-- ---- what is left

-- how many rows n bytes have room for
abbrev pub capacity_of : ℕ → ℕ
capacity_of n = cells_per_block * (n / block_length)

-- the number, the position, how many rows the archive has, how many telegrams the log closes, how many lines were
-- taken, and every byte of the archive, of what closed and of the state at exit
pub record Keeping : Type 0 where
  pub number : ℕ
  pub position : ℕ
  pub rows : ℕ
  pub closings : ℕ
  pub lines : ℕ
  pub archive : List ℕ
  pub heard : List ℕ
  pub state : List ℕ

abbrev pub keeping_of : Kept → List ℕ → List ℕ → List ℕ → Keeping
keeping_of r archive heard state = record {
  number = r.number;
  position = r.position;
  rows = r.rows;
  closings = r.closings;
  lines = r.lines;
  archive = archive;
  heard = heard;
  state = state;
}

-- a refusal: the numbers that go with it
abbrev pub refused_kept : ℕ → ℕ → Kept
refused_kept number position =
    record { number = number; position = position; rows = 0; closings = 0; lines = 0 }

-- a name of no byte, or of more than 255
abbrev pub is_no_name : List ℕ → Bool
is_no_name name = eqb (length name) 0 || ltb state.max_name (length name)

-- more than there is room for: the rows, or the bytes of what closes
unfoldable pub has_no_room : List ℕ → List ℕ → List ℕ → Bool
has_no_room log archive heard =
    ltb (capacity_of (length archive)) (length (rows_in archive ++ archived_of log))
    || ltb (length heard) (length (entry_cells (closed_of log)))

-- refused: 16, or 12 with its position, for the archive; 10 for the name; 6 if rows or closings do not fit; then all is
-- unchanged. Else the archive of its rows and those that the reference model keeps of the log, what the model closes at
-- the front of `heard`, and the bytes of the tool's state
unfoldable pub keep_of : (log archive heard name bytes : List ℕ) → Keeping
keep_of log archive heard name bytes =
    let rows = rows_in archive ++ archived_of log in
    let cells = entry_cells (closed_of log) in
    let refused : ℕ → ℕ → Keeping = λ number position. keeping_of (refused_kept number position) archive heard bytes in
    cond (not (eqb (verdict archive).number 0)) (refused (verdict archive).number (verdict archive).position)
    (cond (is_no_name name) (refused (number_of Argument) 0)
    (cond (has_no_room log archive heard) (refused (number_of ShortOutput) 0)
    (record {
      number = 0;
      position = 0;
      rows = length rows;
      closings = length (closed_of log);
      lines = length (lines_of (taken_of log));
      archive = buffer_of (length archive) rows;
      heard = cells ++ drop (length cells) heard;
      state = state.state_bytes (note_of log archive name) 2;
    })))
