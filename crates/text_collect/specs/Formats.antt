-- A run that prints its rows in a format (docs/FORMATS.md, "Text of mooringeye"), over the same lines as `collect`.
use Rattle.std.specs.Prelude.{ℕ, cond, List, [], Option, Some, None}
use Rattle.radio_erp1.specs.Status.{split_of}
use Rattle.radio_erp1.specs.Subtelegram.{max_length, is_valid}
use Rattle.radio_telegram.specs.Fields.{read_of}
use Rattle.collector_model.specs.declared.Totals.{Totals}
use Rattle.text_lines.specs.Hex.{max_bytes}
use Rattle.text_lines.specs.Reading.{Reading, reception, bad, setting_of, line_reading}
use Rattle.text_rows.specs.declared.formats.Format.{Format}
use Rattle.text_rows.specs.declared.formats.Source.{Source}
use Rattle.text_rows.specs.Text.{decimal_text}
use Rattle.text_rows.specs.Longest.{longest_number}
use Rattle.text_rows.specs.Formats.{row_text_in, bad_in, heading_in, longest_row_in}
use Rattle.text_program.specs.Lines.{Program}
use Rattle.text_program.specs.Collect.{Phase, starting, running, over, next_phase}
use Rattle.text_collect.specs.Printed.{totals_line}
use Rattle.text_collect.specs.Session.{Receiver, model_collector}

-- where a telegram came from, as reading answers it (document 01, "Subtelegram"); nothing is known of a damaged one
unfoldable pub source_of : List ℕ → Option Source
source_of bytes =
    let t = (read_of bytes).telegram in
    cond (is_valid bytes) (Some (record { txid = t.txid; rorg = t.rorg; level = (split_of t.status).level })) None

module _ (f : Format) where
  -- the first line: a level gives the heading; any other is BAD and ends the run
  abbrev pub first_line_in : Option ℕ → List ℕ
  first_line_in (Some n) = heading_in f
  first_line_in None = bad_in f

  -- a later line
  abbrev pub line_in : Receiver → Reading → List ℕ
  line_in c (reception time bytes) =
      row_text_in f (decimal_text time) (model_collector.answer c time bytes) bytes (model_collector.sent c time bytes)
      (source_of bytes)
  line_in c bad = bad_in f

  -- what a line prints, by the phase of the run
  abbrev pub text_in : Phase Receiver → List ℕ → List ℕ
  text_in starting l = first_line_in (setting_of l)
  text_in (running c) l = line_in c (line_reading l)
  text_in over l = []

-- the totals are only at the end of the format text
abbrev pub totals_text_in : Format → Totals → List ℕ
totals_text_in Format.Text n = totals_line n
totals_text_in Format.Csv n = []
totals_text_in Format.Json n = []

-- what is printed at the end
abbrev pub end_in : Format → Phase Receiver → List ℕ
end_in f starting = bad_in f
end_in f (running c) = totals_text_in f c.view.totals
end_in f over = []

-- the run: a program over the same lines as `collect`, so the claims on texts in pieces hold for it
abbrev pub collect_in : Format → Program (Phase Receiver)
collect_in f = record { next = next_phase model_collector; text = text_in f; end = end_in f }

-- the text of a line is at most this long: a row of 64 bytes received and 21 to send
abbrev pub longest_line_in : ℕ
longest_line_in = longest_row_in longest_number max_bytes max_length
