-- Every element of the collector's arrays after the lines of a run.
use Rattle.std.specs.Prelude.{List, [], ℕ}
use Rattle.collector_state.specs.Collector.{Columns, columns_after}
use Rattle.text_lines.specs.Reading.{Reading, reception, bad, line_reading}
use Rattle.text_program.specs.Lines.{Program}
use Rattle.text_program.specs.Collect.{Phase, starting, running, over, next_phase}
use Rattle.text_program.specs.Buffer.{Fed}
use Rattle.text_collect.specs.Printed.{reception_at}
use Rattle.text_collect.specs.Session.{Receiver, model_collector}

-- a reception leaves what a step leaves; a BAD line leaves everything unchanged
abbrev pub columns_by_line : Receiver → Reading → Columns → Columns
columns_by_line c (reception time bytes) a = columns_after c.view (reception_at time bytes) a
columns_by_line c bad a = a

-- the columns after a line, by the phase of the run
abbrev pub columns_in : Phase Receiver → List ℕ → Columns → Columns
columns_in starting l a = a
columns_in (running c) l a = columns_by_line c (line_reading l) a
columns_in over l a = a

-- a run, and the columns of its collector
pub record PhaseColumns : Type 0 where
  pub phase : Phase Receiver
  pub columns : Columns

abbrev pub held : Phase Receiver → Columns → PhaseColumns
held s a = record { phase = s; columns = a }

-- a program over the same lines as `collect`, which writes nothing
abbrev pub line_columns : Program PhaseColumns
line_columns = record {
  next = λ h l. held (next_phase model_collector h.phase l) (columns_in h.phase l h.columns);
  text = λ h l. [];
  end = λ h. [];
}

-- the lines of a text change the columns a to a'
abbrev pub ElementsAfter : Phase Receiver → Columns → List ℕ → Phase Receiver → Columns → Type 0
ElementsAfter s a text s' a' = Fed line_columns (held s a) text [] (held s' a') [] 0
