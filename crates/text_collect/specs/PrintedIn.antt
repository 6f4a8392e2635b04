-- What a run prints in a format for an input, by the reference model (docs/FORMATS.md, "Text of mooringeye"), and the
-- claims on it. proofs/PrintedIn.antt proves them.
use Rattle.std.specs.Prelude.{ℕ, ◌≡◌, List, [], ◌∷◌, ◌++◌, Option, Some, None}
use Rattle.collector_model.specs.View.{Reception}
use Rattle.collector_model.specs.Reference.{totals_of, answer_to, sent_with, log_of}
use Rattle.text_lines.specs.Reading.{line_limit, Reading, reception, bad, setting_of, line_reading}
use Rattle.text_rows.specs.declared.formats.Format.{Format}
use Rattle.text_rows.specs.Text.{decimal_text}
use Rattle.text_rows.specs.Formats.{row_text_in, bad_in, heading_in}
use Rattle.text_program.specs.Lines.{lines_of, output_of}
use Rattle.text_program.specs.Chunks.{joined}
use Rattle.text_program.specs.Collect.{Phase, starting}
use Rattle.text_program.specs.Claims.{pieces_text}
use Rattle.text_collect.specs.Printed.{printed_row, sent_bytes, reception_at, past_after_line, past_after_lines, printed_of}
use Rattle.text_collect.specs.Session.{Receiver}
use Rattle.text_collect.specs.Formats.{source_of, totals_text_in, collect_in}

module _ (f : Format) where
  -- the row of a line, after these receptions, newest first
  abbrev pub row_after_in : (setting : ℕ) → List Reception → Reading → List ℕ
  row_after_in setting past (reception time bytes) =
      let r = reception_at time bytes in
      let a = answer_to (log_of past) r in
      row_text_in f (decimal_text time) (printed_row a) bytes (sent_bytes (sent_with setting a r)) (source_of bytes)
  row_after_in setting past bad = bad_in f

  -- the rows of lines, one for each
  unfoldable pub rows_after_in : (setting : ℕ) → List Reception → List (List ℕ) → List (List ℕ)
  rows_after_in setting past [] = []
  rows_after_in setting past (l ∷ ls) =
      row_after_in setting past (line_reading l) ∷ rows_after_in setting (past_after_line past (line_reading l)) ls

  -- after a right first line: the heading, a row for each line, and the totals if the format has them
  abbrev pub printed_with_in : Option ℕ → List (List ℕ) → List ℕ
  printed_with_in (Some n) ls =
      heading_in f ++ (joined (rows_after_in n [] ls) ++ totals_text_in f (totals_of (log_of (past_after_lines [] ls))))
  printed_with_in None ls = bad_in f

  -- the same, also if there is no first line
  abbrev pub printed_for_in : List (List ℕ) → List ℕ
  printed_for_in [] = bad_in f
  printed_for_in (l ∷ ls) = printed_with_in (setting_of l) ls

  -- what is printed for an input
  unfoldable pub printed_in : List ℕ → List ℕ
  printed_in input = printed_for_in (lines_of input)

-- Formats print (THE CLAIM): for every format and every input, cut into pieces anywhere, the contracts give for the
-- pieces and the end what the reference model says
abbrev pub FormatsPrint : Type 0
FormatsPrint =
    (f : Format) (xs : List (List ℕ)) → pieces_text (collect_in f) line_limit starting xs ≡ printed_in f (joined xs)

-- Formats in pieces: a run from any state writes the same, however the input is cut
abbrev pub FormatsInPieces : Type 0
FormatsInPieces =
    (f : Format) (s : Phase Receiver) (xs : List (List ℕ))
    → pieces_text (collect_in f) line_limit s xs ≡ output_of (collect_in f) s (joined xs)

-- Text as printed: in the format text, it is what `collect` prints
abbrev pub TextAsPrinted : Type 0
TextAsPrinted = (input : List ℕ) → printed_in Format.Text input ≡ printed_of input
