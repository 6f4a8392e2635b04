-- What `collect` prints for an input, by the reference model (document 01, "Cases" and "One history, and the clerk who
-- writes it down"). The setting is that of the run (document 02, A7).
use Rattle.std.specs.Prelude.{ℕ, List, [], ◌∷◌, ◌++◌, take, Option, Some, None}
use Rattle.radio_telegram.specs.declared.frame.Frame.{Frame}
use Rattle.collector_model.specs.declared.Totals.{Totals}
use Rattle.collector_model.specs.Answer as answer
use Rattle.collector_model.specs.View.{Reception}
use Rattle.collector_model.specs.Reference.{totals_of, answer_to, sent_with, log_of}
use Rattle.text_lines.specs.Reading.{Reading, reception, bad, setting_of, line_reading}
use Rattle.text_rows.specs.declared.Row.{Row}
use Rattle.text_rows.specs.Text.{row_text, bad_text, totals_text}
use Rattle.text_program.specs.Lines.{lines_of}
use Rattle.text_program.specs.Chunks.{joined}

-- ---- the contents of a row and of the line of totals

-- KEPT, COPY, LOOSE, or a refusal by its number
abbrev pub printed_row : answer.Shown → Row
printed_row answer.Kept = Row.Kept
printed_row answer.Copy = Row.Copy
printed_row answer.Loose = Row.Loose
printed_row (answer.Refused n) = Row.Refused n

-- the bytes to send, without the zero fill
abbrev pub sent_bytes : Frame → List ℕ
sent_bytes f = take f.len f.bytes

-- the line of totals
abbrev pub totals_line : Totals → List ℕ
totals_line n = totals_text n.received n.kept n.copies n.loose n.damaged n.late

-- ---- the rows of an input

-- a reception of these bytes at a time
abbrev pub reception_at : (time : ℕ) (bytes : List ℕ) → Reception
reception_at time bytes = record { bytes = bytes; time = time }

-- the row of a line, after these receptions, newest first: BAD, or the answer of the reference model, with what is sent
-- at the setting
abbrev pub row_after : (setting : ℕ) → List Reception → Reading → List ℕ
row_after setting past (reception time bytes) =
    let r = reception_at time bytes in
    let a = answer_to (log_of past) r in
    row_text time (printed_row a) (sent_bytes (sent_with setting a r))
row_after setting past bad = bad_text

-- the receptions after a line; a BAD line hands none over
abbrev pub past_after_line : List Reception → Reading → List Reception
past_after_line past (reception time bytes) = reception_at time bytes ∷ past
past_after_line past bad = past

-- the rows of lines, one for each
unfoldable pub row_texts_after : (setting : ℕ) → List Reception → List (List ℕ) → List (List ℕ)
row_texts_after setting past [] = []
row_texts_after setting past (l ∷ ls) =
    row_after setting past (line_reading l) ∷ row_texts_after setting (past_after_line past (line_reading l)) ls

-- the receptions after several lines
unfoldable pub past_after_lines : List Reception → List (List ℕ) → List Reception
past_after_lines past [] = past
past_after_lines past (l ∷ ls) = past_after_lines (past_after_line past (line_reading l)) ls

-- "`level N`, then lines of time and hex": a row for each line, and the totals; "a first line .. other than level 0, 1
-- or 2 prints BAD alone"
abbrev pub printed_with : Option ℕ → List (List ℕ) → List ℕ
printed_with (Some n) ls = joined (row_texts_after n [] ls)
    ++ totals_line (totals_of (log_of (past_after_lines [] ls)))
printed_with None ls = bad_text

-- the same, also if there is no first line
abbrev pub printed_for : List (List ℕ) → List ℕ
printed_for [] = bad_text
printed_for (l ∷ ls) = printed_with (setting_of l) ls

-- what is printed for an input
unfoldable pub printed_of : List ℕ → List ℕ
printed_of input = printed_for (lines_of input)
