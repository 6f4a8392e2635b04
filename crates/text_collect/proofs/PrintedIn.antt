-- What a run prints in a format is the reference model's: a line takes the model's view to its view after one more
-- reception.
use Rattle.std.specs.Prelude.{Option, Some, None}
use Prim.Native.Nat.{ℕ}
use mathlib.Core.Path.{◌≡◌, refl, sym, ap, ap₂, ◌∙◌}
use mathlib.Core.List.{List, [], ◌∷◌, ◌++◌, append_assoc, append-nil}
use lib.Dec.{lit<}
use Rattle.radio_telegram.specs.declared.frame.Frame.{Frame}
use Rattle.collector_model.specs.View.{Reception, View}
use Rattle.collector_model.specs.Step.{StepOutcome, sent_for}
use Rattle.collector_model.specs.Reference.{totals_of, model_view, answer_to, log_of}
use Rattle.collector_model.proofs.Invariant.{Good, good_fresh}
use Rattle.collector_model.proofs.Simulation.{same_sent, same_step, good_after}
use Rattle.collector_model.proofs.Theorem.{fresh-model}
use Rattle.text_lines.specs.Reading.{line_limit, Reading, reception, bad, setting_of, line_reading}
use Rattle.text_rows.specs.declared.formats.Format.{Format}
use Rattle.text_rows.specs.Text.{decimal_text}
use Rattle.text_rows.specs.Formats.{row_text_in, bad_in, heading_in}
use Rattle.text_program.specs.Lines.{lines_of, state_after, text_of, output_of}
use Rattle.text_program.specs.Chunks.{joined}
use Rattle.text_program.specs.Collect.{Phase, starting, running, over, after_first, after_line}
use Rattle.text_program.proofs.Pieces.{in_pieces}
use Rattle.text_collect.specs.Printed.{printed_row, sent_bytes, reception_at, past_after_line, past_after_lines}
use Rattle.text_collect.specs.Printed.{totals_line, row_after, row_texts_after, printed_with, printed_for, printed_of}
use Rattle.text_collect.specs.Session.{Receiver, model_collector}
use Rattle.text_collect.specs.Formats.{source_of, first_line_in, line_in, end_in, totals_text_in, collect_in}
use Rattle.text_collect.specs.PrintedIn.{row_after_in, rows_after_in, printed_with_in, printed_for_in, printed_in}
use Rattle.text_collect.specs.PrintedIn.{FormatsPrint, FormatsInPieces, TextAsPrinted}
use Rattle.text_collect.proofs.Formatting.{format_bounded}
use Rattle.text_collect.proofs.Printed.{said-small}

pub formats_in_pieces : FormatsInPieces
formats_in_pieces f s xs = in_pieces (collect_in f) line_limit (lit< tt) (format_bounded f) s xs

module _ (f : Format) where
  -- what is written for lines and at the end
  abbrev written_from : Phase Receiver → List (List ℕ) → List ℕ
  written_from s ls = text_of (collect_in f) s ls ++ end_in f (state_after (collect_in f) s ls)

  module _ (setting : ℕ) where
    -- the run where the reference model was handed these receptions
    abbrev at : List Reception → Receiver
    at past = record { setting = setting; view = model_view (log_of past) }

    -- a line was taken: its row, and the run after it
    record Took (past : List Reception) (a : Reading) : Type 0 where
      row : line_in f (at past) a ≡ row_after_in f setting past a
      next : after_line model_collector (at past) a ≡ at (past_after_line past a)
      good : Good (model_view (log_of (past_after_line past a)))

    took : (past : List Reception) (l : List ℕ) → Good (model_view (log_of past)) → (a : Reading) → line_reading l ≡ a
        → Took past a
    took past l g bad e = record { row = refl; next = refl; good = g }
    took past l g (reception t bs) e =
        let r = reception_at t bs in
        let a = answer_to (log_of past) r in
        let step = same_step (log_of past) r g in
        let sends : StepOutcome → List ℕ = λ o. sent_bytes (sent_for setting o.answer r) in
        record {
          row =
              ap (λ (o : StepOutcome). row_text_in f (decimal_text t) (printed_row o.answer) bs (sends o)
              (source_of bs))
              step
              ∙ ap (λ (x : Frame). row_text_in f (decimal_text t) (printed_row a) bs (sent_bytes x) (source_of bs))
              (same_sent setting a r);
          next = ap (λ (o : StepOutcome). record { setting = setting; view = o.next }) step;
          good = good_after (log_of past) r g (said-small l e);
        }

    no_lines : (past : List Reception) → written_from (running (at past)) []
        ≡ totals_text_in f (totals_of (log_of past))
    unfolding text_of state_after model_view
    no_lines past = refl

    -- all of them: their rows, and the totals
    rows : (ls : List (List ℕ)) (past : List Reception) → Good (model_view (log_of past))
        → written_from (running (at past)) ls
        ≡ joined (rows_after_in f setting past ls) ++ totals_text_in f (totals_of (log_of (past_after_lines past ls)))
    unfolding text_of state_after joined rows_after_in past_after_lines
    rows [] past g = no_lines past
    rows (l ∷ ls) past g =
        let a = line_reading l in
        let w = took past l g a refl in
        let more = past_after_line past a in
        let row = row_after_in f setting past a in
        let text = text_of (collect_in f) (running (at more)) ls in
        ap₂ (λ (x : List ℕ) (c : Receiver). (x ++ text_of (collect_in f) (running c) ls)
        ++ end_in f (state_after (collect_in f) (running c) ls))
        w.row w.next
        ∙ append_assoc row text (end_in f (state_after (collect_in f) (running (at more)) ls))
        ∙ ap (λ (x : List ℕ). row ++ x) (rows ls more w.good)
        ∙ sym (append_assoc row (joined (rows_after_in f setting more ls))
        (totals_text_in f (totals_of (log_of (past_after_lines more ls)))))

  over_silent : (ls : List (List ℕ)) → written_from over ls ≡ []
  unfolding text_of state_after
  over_silent [] = refl
  over_silent (l ∷ ls) = over_silent ls

  first_line : (s : (Option ℕ)) (ls : List (List ℕ))
      → (first_line_in f s ++ text_of (collect_in f) (after_first model_collector s) ls)
      ++ end_in f (state_after (collect_in f) (after_first model_collector s) ls)
      ≡ printed_with_in f s ls
  first_line (Some n) ls =
      append_assoc (heading_in f) (text_of (collect_in f) (after_first model_collector (Some n)) ls)
      (end_in f (state_after (collect_in f) (after_first model_collector (Some n)) ls))
      ∙ ap (λ (v : View). heading_in f ++ written_from (running (record { setting = n; view = v })) ls) fresh-model
      ∙ ap (λ (x : List ℕ). heading_in f ++ x) (rows n ls [] (rw fresh-model at good_fresh))
  first_line None ls =
      append_assoc (bad_in f) (text_of (collect_in f) over ls) (end_in f (state_after (collect_in f) over ls))
      ∙ ap (λ (x : List ℕ). bad_in f ++ x) (over_silent ls)
      ∙ append-nil (bad_in f)

  whole_input : (ls : List (List ℕ)) → written_from starting ls ≡ printed_for_in f ls
  unfolding text_of state_after
  whole_input [] = refl
  whole_input (l ∷ ls) = first_line (setting_of l) ls

pub formats_print : FormatsPrint
unfolding output_of printed_in
formats_print f xs = formats_in_pieces f starting xs ∙ whole_input f (lines_of (joined xs))

-- ---- as text

text-row : (setting : ℕ) (past : List Reception) (a : Reading)
    → row_after_in Format.Text setting past a ≡ row_after setting past a
unfolding row_text_in bad_in
text-row setting past (reception time bytes) = refl
text-row setting past bad = refl

text-rows : (setting : ℕ) (past : List Reception) (ls : List (List ℕ))
    → rows_after_in Format.Text setting past ls ≡ row_texts_after setting past ls
unfolding rows_after_in row_texts_after
text-rows setting past [] = refl
text-rows setting past (l ∷ ls) =
    ap₂ ◌∷◌ (text-row setting past (line_reading l)) (text-rows setting (past_after_line past (line_reading l)) ls)

text_with : (s : (Option ℕ)) (ls : List (List ℕ)) → printed_with_in Format.Text s ls ≡ printed_with s ls
unfolding heading_in bad_in
text_with (Some n) ls =
    ap (λ (rows : List (List ℕ)). joined rows ++ totals_line (totals_of (log_of (past_after_lines [] ls))))
    (text-rows n [] ls)
text_with None ls = refl

text_for : (ls : List (List ℕ)) → printed_for_in Format.Text ls ≡ printed_for ls
unfolding bad_in
text_for [] = refl
text_for (l ∷ ls) = text_with (setting_of l) ls

pub text_as_printed : TextAsPrinted
unfolding printed_in printed_of
text_as_printed input = text_for (lines_of input)
