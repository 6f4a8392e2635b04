-- What a log closes: each telegram that is no longer open at the next accepted reception, once, with its number of
-- copies (document 02, A8).
use Rattle.std.specs.Prelude.{ℕ, ◌*◌, ◌<◌, ◌≡◌, true, List, [], ◌∷◌, ◌++◌, map, length, get_or, take, Option, Some, None}
use Rattle.collector_model.specs.View.{Reception, Entry, View, fresh}
use Rattle.collector_model.specs.Burst.{after_all}
use Rattle.history_rows.specs.Closings.{closings_from, EachOnce}
use Rattle.collector_closings.specs.Cells.{entry_cells}
use Rattle.text_lines.specs.Reading.{Reading, reception, bad, setting_of, line_reading}
use Rattle.text_program.specs.Lines.{lines_of, output_of}
use Rattle.text_program.specs.Chunks.{joined}
use Rattle.text_program.specs.Collect.{starting}
use Rattle.text_collect.specs.Printed.{reception_at, past_after_lines}
use Rattle.text_collect.specs.Session.{running_at}
use Rattle.text_collect.specs.Heard.{line_closings}
use Rattle.c_collector.specs.State.{Arrays, state_at}
use Rattle.history_archived.specs.Runs.{LinesCall, TakesAs, GoesOn, IsRun, used_in}

-- ---- by the model

-- the receptions in lines, in order
abbrev pub handed_by : Reading → List Reception
handed_by (reception time bytes) = reception_at time bytes ∷ []
handed_by bad = []

-- the receptions in several lines
unfoldable pub handed_over : List (List ℕ) → List Reception
handed_over [] = []
handed_over (l ∷ ls) = handed_by (line_reading l) ++ handed_over ls

-- what closes in the lines after a first line `level N`; any other first line ends the run
abbrev pub closed_with : Option ℕ → List (List ℕ) → List Entry
closed_with (Some n) ls = closings_from fresh (handed_over ls)
closed_with None ls = []

-- the same, also if there is no first line
abbrev pub closed_for : List (List ℕ) → List Entry
closed_for [] = []
closed_for (l ∷ ls) = closed_with (setting_of l) ls

-- what closes in a log
unfoldable pub closed_of : List ℕ → List Entry
closed_of input = closed_for (lines_of input)

-- Lines close once: what closes in lines, and then what is open after them, are the receptions answered KEPT, in order,
-- each once and with its copies.
abbrev pub LinesCloseOnce : Type 0
LinesCloseOnce =
    (ls : List (List ℕ))
    → EachOnce (closings_from fresh (handed_over ls) ++ (after_all fresh (handed_over ls)).entries) (past_after_lines [] ls)

-- ---- as bytes

-- Log closed: what the lines of a log give is what the log closes, 32 bytes for each telegram.
abbrev pub LogClosed : Type 0
LogClosed = (input : List ℕ) → output_of (line_closings true) starting input ≡ entry_cells (closed_of input)

-- Lines closed: the same for further lines, from any state on.
abbrev pub LinesClosed : Type 0
LinesClosed =
    (setting : ℕ) (v : View) (input : List ℕ)
    → output_of (line_closings true) (running_at setting v) input
    ≡ entry_cells (closings_from v (handed_over (lines_of input)))

-- ---- by calls

-- what a call closes
abbrev pub closed_by_call : LinesCall → List ℕ
closed_by_call c = take (32 * get_or c.done' 4 0) c.closed'

-- a call of `lines_as` that asks for closings
pub record AsksClosings (setting format : ℕ) (c : LinesCall) : Type 0 where
  pub lines : TakesAs setting format c
  pub asked : 0 < length c.closed

-- Calls close (THE CLAIM): however a log is cut into such calls, with restarts between them, the calls close what the
-- model closes in all that they used. The collector starts fresh.
abbrev pub CallsClose : Type 0
CallsClose =
    (setting format : ℕ) (a : Arrays) (cs : List LinesCall) → state_at a ≡ fresh
    → IsRun GoesOn (AsksClosings setting format) a cs
    → joined (map closed_by_call cs) ≡ entry_cells (closings_from fresh (handed_over (lines_of (used_in cs))))
