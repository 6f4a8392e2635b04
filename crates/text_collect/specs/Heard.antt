-- What the lines of a run close (`closings`), and the lines of a call with all that they give.
use Rattle.std.specs.Prelude.{◌≡◌, Bool, true, cond, not, ◌||◌, List, [], ℕ, ◌+◌, ◌*◌, ◌≤◌, ◌<◌, eqb, leb, length, take, drop}
use Rattle.collector_closings.specs.Cells.{closed_cells}
use Rattle.collector_state.specs.Collector.{Columns}
use Rattle.text_lines.specs.Reading.{line_limit, Reading, reception, bad, line_reading}
use Rattle.text_rows.specs.declared.formats.Format.{Format}
use Rattle.text_program.specs.Lines.{Program}
use Rattle.text_program.specs.Chunks.{at_line_start, feed_text}
use Rattle.text_program.specs.Collect.{Phase, starting, running, over, next_phase}
use Rattle.text_program.specs.Buffer.{is_unended, Fed}
use Rattle.text_collect.specs.Printed.{reception_at}
use Rattle.text_collect.specs.Session.{Receiver, model_collector}
use Rattle.text_collect.specs.Rows.{row_times, row_records, line_ticks}
use Rattle.text_collect.specs.Elements.{ElementsAfter}
use Rattle.text_collect.specs.Stored.{given_by, BeforeEach}
use Rattle.text_collect.specs.Formats.{collect_in, longest_line_in}

-- ---- what lines close, 32 bytes for each telegram

-- what a later line closes
abbrev pub closed_by_line : Receiver → Reading → List ℕ
closed_by_line c (reception time bytes) = closed_cells c.view (reception_at time bytes)
closed_by_line c bad = []

-- what a line closes, by the phase of the run
abbrev pub closed_in : Phase Receiver → List ℕ → List ℕ
closed_in starting l = []
closed_in (running c) l = closed_by_line c (line_reading l)
closed_in over l = []

-- a program over the same lines as `collect`, which writes the closings if they are asked for, else nothing
abbrev pub line_closings : Bool → Program (Phase Receiver)
line_closings asked = record { next = next_phase model_collector; text = λ s l. cond asked (closed_in s l) []; end = λ s. [] }

-- ---- the lines of a call

-- a buffer whose length is not 0 asks for closings
abbrev pub is_asked : List ℕ → Bool
is_asked closed = not (eqb (length closed) 0)

-- after this number of bytes, there is room for what one more line may close: 64 telegrams. Without a buffer, there
-- always is.
abbrev pub has_room_behind : (long bytes : ℕ) → Bool
has_room_behind long bytes = eqb long 0 || leb (bytes + 2048) long

-- the same after a number of closings
abbrev pub has_room : (long count : ℕ) → Bool
has_room long count = has_room_behind long (32 * count)

-- after a text, there is an entry for a row, room for the longest text of a line, and room for what it may close
pub record RoomyIn (f : Format) (s : Phase Receiver) (out moments closed text : List ℕ) : Type 0 where
  pub rows : given_by row_times s text < length moments
  pub chars : given_by (collect_in f) s text + longest_line_in ≤ length out
  pub closings : has_room_behind (length closed) (given_by (line_closings (is_asked closed)) s text) ≡ true

-- Whole lines of the input, `used` characters, were taken from phase s to s', and from the collector's columns a to a'.
-- The front of the output has their rows in the format. The fronts of the other three buffers have the times of the
-- rows for an archive, their records, and what the lines close. Before each line there was room. If fewer lines were
-- taken than allowed, and there is room for one more, then no further line has ended.
pub record HeardIn (f : Format) (s : Phase Receiver) (a : Columns) (input : List ℕ) (most : ℕ)
    (out moments rows closed out' moments' rows' closed' : List ℕ) (s' : Phase Receiver) (a' : Columns)
    (used written count lines closings : ℕ) : Type 0 where
  pub within : used ≤ length input
  pub elements : ElementsAfter s a (take used input) s' a'
  pub text : Fed (collect_in f) s (take used input) out s' out' written
  pub times : Fed row_times s (take used input) moments s' moments' count
  pub records : Fed row_records s (take used input) rows s' rows' (23 * count)
  pub closes : Fed (line_closings (is_asked closed)) s (take used input) closed s' closed' (32 * closings)
  pub ticks : lines ≡ length (feed_text line_ticks line_limit (at_line_start s) (take used input))
  pub few : lines ≤ most
  pub due : BeforeEach (RoomyIn f s out moments closed) s input used
  pub rest : lines < most → count < length moments → written + longest_line_in ≤ length out
      → has_room (length closed) closings ≡ true → is_unended (drop used input) ≡ true
