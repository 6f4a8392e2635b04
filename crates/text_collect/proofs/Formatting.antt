-- A run whose rows are printed in a format can tell a line by its front, and what it writes for a line.
use mathlib.Core.Path.{◌≡◌, refl}
use mathlib.Core.List.{List}
use Prim.Native.Nat.{ℕ}
use lib.ListN.{take}
use Rattle.collector_model.specs.Step.{StepOutcome, sent_for}
use Rattle.text_lines.specs.Reading.{line_limit, line_reading, reception, bad}
use Rattle.text_lines.proofs.Long.{fronts_tell}
use Rattle.text_rows.specs.declared.formats.Format.{Format}
use Rattle.text_rows.specs.Text.{decimal_text}
use Rattle.text_rows.specs.Formats.{row_text_in, bad_in}
use Rattle.text_program.specs.Chunks.{Bounded}
use Rattle.text_program.specs.Collect.{Phase, starting, running, over}
use Rattle.text_program.proofs.Limit.{bounded}
use Rattle.text_collect.specs.Printed.{printed_row, sent_bytes, reception_at}
use Rattle.text_collect.specs.Session.{Receiver, model_collector, taken_at}
use Rattle.text_collect.specs.Formats.{source_of, text_in, collect_in}

module _ (f : Format) where
  text_front : (s : Phase Receiver) (l : List ℕ) → text_in f s (take line_limit l) ≡ text_in f s l
  text_front starting l = rw (fronts_tell l).setting
  text_front (running c) l = rw (fronts_tell l).reading
  text_front over l = refl

  pub format_bounded : Bounded (collect_in f) line_limit
  format_bounded = record { next = λ s l. (bounded model_collector).next s l; text = text_front }

  module _ (c : Receiver) (l : List ℕ) where
    pub bad-text : line_reading l ≡ bad → text_in f (running c) l ≡ bad_in f
    bad-text e = rw e

    pub said-text : {t : ℕ} {bs time sent : List ℕ} (o : StepOutcome)
        → line_reading l ≡ reception t bs → o ≡ taken_at c.view t bs
        → time ≡ decimal_text t → sent ≡ sent_bytes (sent_for c.setting o.answer (reception_at t bs))
        → text_in f (running c) l ≡ row_text_in f time (printed_row o.answer) bs sent (source_of bs)
    said-text o e k d s = rw (e, s, d, k)
