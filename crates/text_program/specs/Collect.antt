-- The program `collect` (document 01, "Cases"), over any collector.
use Rattle.std.specs.Prelude.{ℕ, List, [], Option, Some, None}
use Rattle.text_lines.specs.Reading.{Reading, reception, bad, setting_of, line_reading}
use Rattle.text_rows.specs.declared.Row.{Row}
use Rattle.text_rows.specs.Text.{row_text, bad_text}
use Rattle.text_program.specs.Lines.{Program, output_of}

-- What the program needs of a collector: a collector with a level, the state after a reception, the answer, what is
-- sent, and the line of totals.
pub record AnyCollector (C : Type 0) : Type 0 where
  pub fresh : ℕ → C
  pub next : C → (time : ℕ) (bytes : List ℕ) → C
  pub answer : C → (time : ℕ) (bytes : List ℕ) → Row
  pub sent : C → (time : ℕ) (bytes : List ℕ) → List ℕ
  pub totals : C → List ℕ

-- the phase of a run: before its first line, after a right one, or ended by a wrong one
pub data Phase (C : Type 0) : Type 0 where
  starting : Phase C
  running : C → Phase C
  over : Phase C

module _ {C : Type 0} (m : AnyCollector C) where
  -- the first line: a level sets the collector; any other is BAD and ends the run
  abbrev pub after_first : Option ℕ → Phase C
  after_first (Some n) = running (m.fresh n)
  after_first None = over

  -- what the first line prints
  abbrev pub first_text : Option ℕ → List ℕ
  first_text (Some n) = []
  first_text None = bad_text

  -- a later line: a reception is handed over, and its row is printed; a BAD line is not handed over
  abbrev pub after_line : C → Reading → C
  after_line c (reception t bs) = m.next c t bs
  after_line c bad = c

  -- what a later line prints
  abbrev pub line_text : C → Reading → List ℕ
  line_text c (reception t bs) = row_text t (m.answer c t bs) (m.sent c t bs)
  line_text c bad = bad_text

  -- the phase after a line
  abbrev pub next_phase : Phase C → List ℕ → Phase C
  next_phase starting l = after_first (setting_of l)
  next_phase (running c) l = running (after_line c (line_reading l))
  next_phase over l = over

  -- what a line prints
  abbrev pub phase_text : Phase C → List ℕ → List ℕ
  phase_text starting l = first_text (setting_of l)
  phase_text (running c) l = line_text c (line_reading l)
  phase_text over l = []

  -- the end: BAD if there was no line, the totals after a run, nothing after a run that was ended
  abbrev pub phase_end : Phase C → List ℕ
  phase_end starting = bad_text
  phase_end (running c) = m.totals c
  phase_end over = []

  -- `collect` as a program over lines
  abbrev pub collect : Program (Phase C)
  collect = record { next = next_phase; text = phase_text; end = phase_end }

  -- what `collect` writes for an input
  unfoldable pub collected : List ℕ → List ℕ
  collected input = output_of collect starting input
