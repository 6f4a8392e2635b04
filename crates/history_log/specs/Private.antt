-- What the private functions promise: only their proofs need it.
use Rattle.std.specs.Prelude.{ℕ, ◌+◌, ◌-◌, ◌*◌, ◌/◌, ◌%◌, ◌≤◌, ◌≡◌, Bool, true, false, cond, ◌&&◌, List, [], ◌++◌, leb, eqb, length, take, drop, replicate}
use Rattle.std.proofs.lemmas.List.Edits.{sets}
use Rattle.base_lists.specs.Lists.{all}
use Rattle.base_buffers.specs.Buffer.{resized}
use Rattle.block_layout.specs.Cell.{cell_length}
use Rattle.block_layout.specs.Block.{cells_per_block, block_length}
use Rattle.collector_model.specs.View.{fresh}
use Rattle.collector_model.specs.Image.{image_length, image_of}
use Rattle.collector_model.specs.Acceptable.{acceptable}
use Rattle.collector_model.specs.Exact.{Fits}
use Rattle.collector_closings.specs.Cells.{entry_cells}
use Rattle.text_lines.specs.Reading.{line_limit}
use Rattle.text_program.specs.Chunks.{at_line_start, feed, feed_text}
use Rattle.text_program.specs.Lines.{lines_of, Program, output_of}
use Rattle.text_program.specs.Collect.{Phase, starting, running, over, next_phase}
use Rattle.text_program.specs.Buffer.{is_unended}
use Rattle.archive_model.specs.Row.{Row}
use Rattle.archive_model.specs.Buffer.{rows_in}
use Rattle.archive_model.specs.Append.{verdict, block_at}
use Rattle.archive_model.specs.Claims.{is_fit}
use Rattle.archive_fill.specs.Fill.{row_length, rows_given, put_rows_of}
use Rattle.archive_fill.specs.Claims.{with_block}
use Rattle.text_collect.specs.Session.{Receiver, model_collector, running_at}
use Rattle.text_collect.specs.Rows.{row_times, row_records}
use Rattle.text_collect.specs.Heard.{line_closings}
use Rattle.journal_state.specs.State as state
use Rattle.journal_state.specs.Calls.{write_of}
use Rattle.history_archived.specs.Archived.{archived_of}
use Rattle.history_archived.specs.Closed.{closed_of}
use Rattle.history_archived.specs.Claims.{rows_said}
use Rattle.c_collector.specs.State.{Arrays, state_at}
use Rattle.history_log.specs.declared.Pass.{Pass}
use Rattle.history_log.specs.declared.Turn.{Turn}
use Rattle.history_log.specs.Keep.{state_after_log, taken_of, state_numbers, tail_length_of, tail_of, capacity_of}

-- ---- the archive

abbrev pub buffer_length : ℕ
buffer_length = 4096

-- an archive of n rows
pub record Holds (archive : List ℕ) (n : ℕ) : Type 0 where
  pub right : (verdict archive).number ≡ 0
  pub count : length (rows_in archive) ≡ n

-- rows put into the block of row n
unfoldable pub put_in : List ℕ → ℕ → List Row → List ℕ
put_in archive n rows =
    let k = n / cells_per_block in
    cond (eqb (length rows) 0) archive (with_block k (put_rows_of (block_at k archive) n rows).buffer archive)

-- an archive with these rows after its own
pub record Grown (archive : List ℕ) (more : List Row) (archive' : List ℕ) : Type 0 where
  pub right : (verdict archive').number ≡ 0
  pub rows : rows_in archive' ≡ rows_in archive ++ more
  pub long : length archive' ≡ length archive

-- ---- the state file

-- the block with the last row, or zeros
abbrev pub last_in : List ℕ → ℕ → List ℕ
last_in archive rows =
    cond (eqb rows 0) (replicate {A = ℕ} block_length 0) (block_at ((rows - 1) / cells_per_block) archive)

-- the state with these parts, as it is written
abbrev pub note_with : (log archive : List ℕ) (had rows : ℕ) (name image : List ℕ) → state.Kept
note_with log archive had rows name image =
    let text = taken_of log in
    state.kept (state_numbers (length (lines_of text)) had (length name) (length text) (tail_length_of text))
    (resized state.max_name name) (last_in archive rows) image (tail_of text)

-- it was written, if it is lawful
pub record Noted (log archive : List ℕ) (had rows : ℕ) (name image old new : List ℕ) (r : ℕ) : Type 0 where
  pub lines : r ≡ length (lines_of (taken_of log))
  pub bytes : new ≡ (write_of (note_with log archive had rows name image) old).output

-- ---- where a run writes

-- an archive and the number of its rows, and a buffer and the number of closings at its front
pub record Outputs : Type 0 where
  pub archive : List ℕ
  pub rows : ℕ
  pub heard : List ℕ
  pub closings : ℕ

abbrev pub outputs : List ℕ → ℕ → List ℕ → ℕ → Outputs
outputs archive rows heard closings =
    record { archive = archive; rows = rows; heard = heard; closings = closings }

-- what they have fits
pub record OutputsFit (o : Outputs) : Type 0 where
  pub rows : o.rows ≤ capacity_of (length o.archive)
  pub closings : cell_length * o.closings ≤ length o.heard

-- these numbers of further rows and of further bytes of closings fit
abbrev pub have_room : Outputs → ℕ → ℕ → Bool
have_room o rows cells =
    leb (o.rows + rows) (capacity_of (length o.archive))
    && leb (cell_length * o.closings + cells) (length o.heard)

-- ---- lines

-- the phase of a run, and what a text gives from there on
abbrev pub phase_at : ℕ → Arrays → Phase Receiver
phase_at setting s = running_at setting (state_at s)

abbrev pub times_given : Phase Receiver → List ℕ → List ℕ
times_given s text = feed_text row_times line_limit (at_line_start s) text

abbrev pub records_given : Phase Receiver → List ℕ → List ℕ
records_given s text = feed_text row_records line_limit (at_line_start s) text

abbrev pub cells_given : Phase Receiver → List ℕ → List ℕ
cells_given s text = feed_text (line_closings true) line_limit (at_line_start s) text

-- the bytes of all that a text closes
abbrev pub cells_said : Phase Receiver → List ℕ → List ℕ
cells_said s input = output_of (line_closings true) s input

-- a call of `lines_as` is not refused, and what the outputs have fits
pub record Callable (s : Arrays) (setting : ℕ) (o : Outputs) : Type 0 where
  pub accepted : acceptable (state_at s) ≡ true
  pub level : setting ≤ 2
  pub room : OutputsFit o

-- the text can be taken, and its rows can be put after those of the archive
pub record Ready (write : Bool) (s : Arrays) (setting : ℕ) (input : List ℕ) (o : Outputs) : Type 0 where
  pub callable : Callable s setting o
  pub fits : Fits (state_at s)
  pub fit : all is_fit (rows_said (phase_at setting s) input) ≡ true
  pub holds : write ≡ true → Holds o.archive o.rows

-- whole lines were taken from s on to s'; their rows and closings were put, if they were to be and fit
pub record Turned (write : Bool) (s : Arrays) (setting : ℕ) (input : List ℕ) (o : Outputs) (s' : Arrays)
    (archive' heard' : List ℕ) (r : Turn) : Type 0 where
  pub within : r.used ≤ length input
  pub timed : feed row_times line_limit (at_line_start (phase_at setting s)) (take r.used input)
      ≡ at_line_start (phase_at setting s')
  pub recorded : feed row_records line_limit (at_line_start (phase_at setting s)) (take r.used input)
      ≡ at_line_start (phase_at setting s')
  pub closed : feed (line_closings true) line_limit (at_line_start (phase_at setting s)) (take r.used input)
      ≡ at_line_start (phase_at setting s')
  pub count : r.rows ≡ length (times_given (phase_at setting s) (take r.used input))
  pub sized : length (records_given (phase_at setting s) (take r.used input)) ≡ row_length * r.rows
  pub cells : cell_length * r.closings ≡ length (cells_given (phase_at setting s) (take r.used input))
  pub few : o.rows % cells_per_block + r.rows ≤ cells_per_block
  pub brief : cell_length * r.closings ≤ buffer_length
  pub rest : r.used ≡ 0 → is_unended input ≡ true
  pub fits : r.fits ≡ have_room o r.rows (cell_length * r.closings)
  pub put : archive'
      ≡ cond (write && r.fits)
      (put_in o.archive o.rows
      (rows_given (times_given (phase_at setting s) (take r.used input))
      (records_given (phase_at setting s) (take r.used input))))
      o.archive
  pub heard : heard'
      ≡ cond (write && r.fits)
      (sets o.heard (cell_length * o.closings) (cells_given (phase_at setting s) (take r.used input)))
      o.heard

-- a text was gone through: its rows are in the archive, and what it closes is after the other closings, if they were to
-- be put and fit
pub record TextPassed (write : Bool) (rows : List Row) (cells : List ℕ) (o : Outputs) (archive' heard' : List ℕ)
    (r : Pass) : Type 0 where
  pub fits : r.fits ≡ have_room o (length rows) (length cells)
  pub count : r.fits ≡ true → r.rows ≡ o.rows + length rows
  pub closings : r.fits ≡ true → cell_length * r.closings ≡ cell_length * o.closings + length cells
  pub quiet : write ≡ false → archive' ≡ o.archive
  pub still : write ≡ false → heard' ≡ o.heard
  pub grown : write ≡ true → r.fits ≡ true → Grown o.archive rows archive'
  pub heard : write ≡ true → r.fits ≡ true → heard' ≡ sets o.heard (cell_length * o.closings) cells

-- ---- the collector

-- the image of the collector in a phase of a run
abbrev pub image_at : Phase Receiver → List ℕ
image_at starting = image_of fresh
image_at (running c) = image_of c.view
image_at over = image_of fresh

-- a program over the same lines that gives it at the end
abbrev pub states : Program (Phase Receiver)
states = record { next = next_phase model_collector; text = λ s l. []; end = image_at }

-- the text was gone through, and the collector is in the state that it leads to
pub record Went (write : Bool) (s : Arrays) (setting : ℕ) (input : List ℕ) (o : Outputs) (s' : Arrays)
    (archive' heard' : List ℕ)
    (r : Pass) : Type 0 where
  pub passed : TextPassed write (rows_said (phase_at setting s) input) (cells_said (phase_at setting s) input) o archive'
      heard' r
  pub left : r.fits ≡ true → output_of states (phase_at setting s) input ≡ image_of (state_at s')
  pub accepted : r.fits ≡ true → acceptable (state_at s') ≡ true

-- a log was gone through by a fresh collector
pub record LogPassed (write : Bool) (log : List ℕ) (o : Outputs) (s' : Arrays) (archive' heard' : List ℕ)
    (r : Pass) : Type 0 where
  pub passed : TextPassed write (archived_of log) (entry_cells (closed_of log)) o archive' heard' r
  pub left : r.fits ≡ true → image_of (state_at s') ≡ image_of (state_after_log log)
  pub accepted : r.fits ≡ true → acceptable (state_at s') ≡ true

-- a log was gone through; the image is written, if it was to be and all fits
pub record WentThrough (write : Bool) (log : List ℕ) (o : Outputs) (image archive' heard' image' : List ℕ)
    (r : Pass) : Type 0 where
  pub passed : TextPassed write (archived_of log) (entry_cells (closed_of log)) o archive' heard' r
  pub parked : image' ≡ cond (write && r.fits) (image_of (state_after_log log) ++ drop image_length image) image
