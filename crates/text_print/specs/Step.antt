-- What the program does with a chunk of its input.
use Rattle.std.specs.Prelude.{ℕ, ◌+◌, ◌*◌, ◌≤◌, min, ◌≡◌, Bool, true, false, cond, ◌||◌, List, [], ◌++◌, length, take}
use Rattle.std.proofs.lemmas.List.Edits.{sets}
use Rattle.text_lines.specs.Reading.{line_limit}
use Rattle.text_rows.specs.Longest.{longest_totals}
use Rattle.base_buffers.specs.Printed.{Printed}
use Rattle.text_program.specs.Chunks.{Position, at_line_start, feed, feed_text, end_text}
use Rattle.text_program.specs.Collect.{Phase, starting, running, over, collect}
use Rattle.text_program.specs.Buffer.{is_unended}
use Rattle.text_collect.specs.Session.{Receiver, model_collector, phase_of, longest_line}
use Rattle.text_print.specs.declared.Turn.{Turn}

-- the length of a chunk, and of an output that has room for its text
abbrev pub chunk : ℕ
chunk = 16384

abbrev pub output_capacity : ℕ
output_capacity = 15 * chunk + 512

-- the text at the end is at most this long: the row of a last line without a newline, and the totals
abbrev pub longest_finish : ℕ
longest_finish = longest_line + longest_totals

-- a wrong first line ended the run
abbrev pub is_over : Phase Receiver → Bool
is_over starting = false
is_over (running c) = false
is_over over = true

-- the position of a run after a text, from the start of a line on
abbrev pub position_after : Phase Receiver → List ℕ → Position (Phase Receiver)
position_after s text = feed (collect model_collector) line_limit (at_line_start s) text

-- what is printed for a text, and, if it is the last, at the end of the input
abbrev pub printed_from : Phase Receiver → List ℕ → Bool → List ℕ
printed_from s text last =
    feed_text (collect model_collector) line_limit (at_line_start s) text
    ++ cond last (end_text (collect model_collector) (position_after s text)) []

-- the text of a chunk was taken from phase s on: the front of the output has what it gives, and the front of the buffer
-- has the part of a line that has not ended; all else is unchanged
pub record SteppedOver (s : Phase Receiver) (text buffer : List ℕ) (last : Bool) (out buffer' out' : List ℕ) (r : Turn) : Type 0 where
  pub state : phase_of r.session ≡ (position_after s text).state
  pub kept : r.kept ≡ length (position_after s text).line
  pub few : r.kept ≤ line_limit
  pub unended : is_unended (position_after s text).line ≡ true
  pub line : buffer' ≡ sets buffer 0 (position_after s text).line
  pub output : Printed out 0 (printed_from s text last) output_capacity out' r.written
  pub ended : r.ended ≡ (last || is_over (position_after s text).state)

-- the same for the first `end` characters of the buffer, or all of them
abbrev pub Stepped : (s : Phase Receiver) (buffer : List ℕ) (end : ℕ) (last : Bool) (out buffer' out' : List ℕ) (r : Turn) → Type 0
Stepped s buffer end last out buffer' out' r = SteppedOver s (take (min end chunk) buffer) buffer last out buffer' out' r
