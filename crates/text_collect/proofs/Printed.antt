-- What `collect` prints is the reference model's: a line takes the model's view to its view after one more reception (`same_step`), and the time
-- of a line is a number of 64 bits, so that no view is left that the model's theorem does not speak of.
use Rattle.std.specs.Prelude.{Option, Some, None}
use Prim.Native.Nat.{ℕ, ◌^◌, ◌<◌}
use mathlib.Core.Path.{◌≡◌, refl, sym, ap, ap₂, ◌∙◌}
use mathlib.Core.Bool.{true, not, ◌&&◌}
use mathlib.Core.List.{List, [], ◌∷◌, ◌++◌, append_assoc}
use lib.Dec.{ltb}
use borrow.Author.Tests.{ltb-true}
use lib.ListN.{length}
use Rattle.base_lists.specs.Lists.{all}
use Rattle.base_lists.proofs.Choice.{both}
use Rattle.radio_telegram.specs.declared.frame.Frame.{Frame}
use Rattle.collector_model.specs.View.{Reception, View}
use Rattle.collector_model.specs.Step.{StepOutcome, sent_for}
use Rattle.collector_model.specs.Reference.{totals_of, model_view, answer_to, log_of}
use Rattle.collector_model.proofs.Invariant.{Good, good_fresh}
use Rattle.collector_model.proofs.Simulation.{same_sent, same_step, good_after}
use Rattle.collector_model.proofs.Theorem.{fresh-model}
use Rattle.text_lines.specs.Decimal.{is_digit, decimal_of, has_leading_zero, is_number, is_time}
use Rattle.text_lines.specs.Reading.{Reading, reception, bad, setting_of, line_reading}
use Rattle.text_lines.proofs.Whole.{said}
use Rattle.text_rows.specs.Text.{row_text, bad_text}
use Rattle.text_program.specs.Lines.{lines_of, state_after, text_of, output_of}
use Rattle.text_program.specs.Chunks.{joined}
use Rattle.text_program.specs.Collect.{Phase, starting, running, over, after_first, first_text, after_line, line_text, phase_end, collect, collected}
use Rattle.text_program.proofs.Limit.{collected_in_pieces}
use Rattle.text_collect.specs.Printed.{printed_row, sent_bytes, totals_line, reception_at, row_after, past_after_line, row_texts_after, past_after_lines}
use Rattle.text_collect.specs.Printed.{printed_with, printed_for, printed_of}
use Rattle.text_collect.specs.Session.{Receiver, model_collector}
use Rattle.text_collect.specs.Claims.{CollectPrints}

-- ---- the time of a reception

time-small : (s : List ℕ) → is_time s ≡ true → decimal_of s < 2 ^ 64
unfolding is_time is_number
time-small s e =
    let t = both (ltb 0 (length s) && not (has_leading_zero s)) (is_number s) e in
    ltb-true (decimal_of s) (2 ^ 64) (both (all is_digit s) (ltb (decimal_of s) (2 ^ 64)) t.1).1

pub said-small : (l : List ℕ) {t : ℕ} {bs : List ℕ} → line_reading l ≡ reception t bs → t < 2 ^ 64
said-small l e = let w = said l e in rw w.says_time at (time-small w.digits w.is_timely)

-- ---- the lines after the first

-- what is written for lines and at the end
abbrev written_from : Phase Receiver → List (List ℕ) → List ℕ
written_from s ls =
    text_of (collect model_collector) s ls ++ phase_end model_collector (state_after (collect model_collector) s ls)

module _ (setting : ℕ) where
  -- the run where the reference model was handed these receptions
  abbrev at : List Reception → Receiver
  at past = record { setting = setting; view = model_view (log_of past) }

  -- a line was taken: its row, and the run after it
  record Took (past : List Reception) (a : Reading) : Type 0 where
    row : line_text model_collector (at past) a ≡ row_after setting past a
    next : after_line model_collector (at past) a ≡ at (past_after_line past a)
    good : Good (model_view (log_of (past_after_line past a)))

  took : (past : List Reception) (l : List ℕ) → Good (model_view (log_of past))
      → (a : Reading) → line_reading l ≡ a → Took past a
  took past l g bad e = record { row = refl; next = refl; good = g }
  took past l g (reception t bs) e =
      let r = reception_at t bs in
      let a = answer_to (log_of past) r in
      let step = same_step (log_of past) r g in
      record {
        row =
            ap (λ (o : StepOutcome). row_text t (printed_row o.answer) (sent_bytes (sent_for setting o.answer r)))
            step
            ∙ ap (λ (f : Frame). row_text t (printed_row a) (sent_bytes f)) (same_sent setting a r);
        next = ap (λ (o : StepOutcome). record { setting = setting; view = o.next }) step;
        good = good_after (log_of past) r g (said-small l e);
      }

  no_lines : (past : List Reception) → written_from (running (at past)) [] ≡ totals_line (totals_of (log_of past))
  unfolding text_of state_after model_view
  no_lines past = refl

  -- all of them: their rows, and the totals
  rows : (ls : List (List ℕ)) (past : List Reception) → Good (model_view (log_of past))
      → written_from (running (at past)) ls
      ≡ joined (row_texts_after setting past ls) ++ totals_line (totals_of (log_of (past_after_lines past ls)))
  unfolding text_of state_after joined row_texts_after past_after_lines
  rows [] past g = no_lines past
  rows (l ∷ ls) past g =
      let a = line_reading l in
      let w = took past l g a refl in
      let more = past_after_line past a in
      let row = row_after setting past a in
      ap₂ (λ (x : List ℕ) (c : Receiver). (x ++ text_of (collect model_collector) (running c) ls)
      ++ phase_end model_collector (state_after (collect model_collector) (running c) ls))
      w.row w.next
      ∙ append_assoc row (text_of (collect model_collector) (running (at more)) ls)
      (phase_end model_collector (state_after (collect model_collector) (running (at more)) ls))
      ∙ ap (λ (x : List ℕ). row ++ x) (rows ls more w.good)
      ∙ sym (append_assoc row (joined (row_texts_after setting more ls))
      (totals_line (totals_of (log_of (past_after_lines more ls)))))

-- ---- the first line

over_silent : (ls : List (List ℕ)) → written_from over ls ≡ []
unfolding text_of state_after
over_silent [] = refl
over_silent (l ∷ ls) = over_silent ls

first_line : (s : (Option ℕ)) (ls : List (List ℕ))
    → (first_text model_collector s ++ text_of (collect model_collector) (after_first model_collector s) ls)
    ++ phase_end model_collector (state_after (collect model_collector) (after_first model_collector s) ls)
    ≡ printed_with s ls
first_line (Some n) ls =
    ap (λ (v : View). written_from (running (record { setting = n; view = v })) ls) fresh-model
    ∙ rows n ls [] (rw fresh-model at good_fresh)
first_line None ls =
    append_assoc bad_text (text_of (collect model_collector) over ls)
    (phase_end model_collector (state_after (collect model_collector) over ls))
    ∙ ap (λ (x : List ℕ). bad_text ++ x) (over_silent ls)

whole_input : (ls : List (List ℕ)) → written_from starting ls ≡ printed_for ls
unfolding text_of state_after
whole_input [] = refl
whole_input (l ∷ ls) = first_line (setting_of l) ls

collected-printed : (input : List ℕ) → collected model_collector input ≡ printed_of input
unfolding collected output_of printed_of
collected-printed input = whole_input (lines_of input)

pub collect_prints : CollectPrints
collect_prints xs = collected_in_pieces model_collector xs ∙ collected-printed (joined xs)
