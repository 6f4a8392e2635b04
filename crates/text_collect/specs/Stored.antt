-- Whole lines of a call, with their rows for an archive.
use Rattle.std.specs.Prelude.{◌≡◌, true, List, ℕ, ◌+◌, ◌*◌, ◌≤◌, ◌<◌, length, take, drop}
use Rattle.collector_state.specs.Collector.{Columns}
use Rattle.text_lines.specs.Reading.{line_limit}
use Rattle.text_program.specs.Lines.{Program}
use Rattle.text_program.specs.Chunks.{at_line_start, feed, feed_text}
use Rattle.text_program.specs.Collect.{Phase, collect}
use Rattle.text_program.specs.Buffer.{is_unended, Fed}
use Rattle.text_collect.specs.Session.{Receiver, model_collector, longest_line}
use Rattle.text_collect.specs.Rows.{row_times, row_records, line_ticks}
use Rattle.text_collect.specs.Elements.{ElementsAfter}

-- how much a program writes for a text
abbrev pub given_by : Program (Phase Receiver) → Phase Receiver → List ℕ → ℕ
given_by p s text = length (feed_text p line_limit (at_line_start s) text)

-- `Holds` is true before each line of the first `used` characters: for each shorter front that is whole lines
abbrev pub BeforeEach : (List ℕ → Type 0) → Phase Receiver → List ℕ → ℕ → Type 0
BeforeEach Holds s input used =
    (n : ℕ) (s' : Phase Receiver) → n < used → feed row_times line_limit (at_line_start s) (take n input) ≡ at_line_start s'
    → Holds (take n input)

-- after a text, there is an entry for a row, and room for the longest text of a line
pub record Roomy (s : Phase Receiver) (out moments text : List ℕ) : Type 0 where
  pub rows : given_by row_times s text < length moments
  pub chars : given_by (collect model_collector) s text + longest_line ≤ length out

-- Whole lines of the input, `used` characters, were taken from phase s to s', and from the collector's columns a to a'.
-- The front of the output has what they give. The fronts of the other two buffers have the times of their rows and the
-- records of these. Before each line there was room. If fewer lines were taken than allowed, and there is room for one
-- more, then no further line has ended.
pub record StoredTo (s : Phase Receiver) (a : Columns) (input : List ℕ) (most : ℕ)
    (out moments rows out' moments' rows' : List ℕ) (s' : Phase Receiver) (a' : Columns) (used written count lines : ℕ)
    : Type 0 where
  pub within : used ≤ length input
  pub elements : ElementsAfter s a (take used input) s' a'
  pub text : Fed (collect model_collector) s (take used input) out s' out' written
  pub times : Fed row_times s (take used input) moments s' moments' count
  pub records : Fed row_records s (take used input) rows s' rows' (23 * count)
  pub ticks : lines ≡ length (feed_text line_ticks line_limit (at_line_start s) (take used input))
  pub few : lines ≤ most
  pub due : BeforeEach (Roomy s out moments) s input used
  pub rest : lines < most → count < length moments → written + longest_line ≤ length out → is_unended (drop used input) ≡ true
