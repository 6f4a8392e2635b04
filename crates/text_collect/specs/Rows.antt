-- The rows of a run for an archive: KEPT and LOOSE, each with its time and a record of 23 bytes, as `archive_fill`
-- takes them.
use Rattle.std.specs.Prelude.{Bool, cond, ◌&&◌, ◌||◌, List, [], ◌∷◌, ℕ, leb, length}
use Rattle.base_lists.specs.Lists.{padded}
use Rattle.radio_erp1.specs.Subtelegram.{max_length}
use Rattle.collector_model.specs.Answer.{Shown, is_kept, is_loose}
use Rattle.text_lines.specs.Reading.{Reading, reception, bad, line_reading}
use Rattle.text_program.specs.Lines.{Program}
use Rattle.text_program.specs.Collect.{Phase, starting, running, over, next_phase}
use Rattle.text_collect.specs.Session.{Receiver, model_collector, taken_at}

-- KEPT and LOOSE are stored. They are valid, so they are never longer than a subtelegram; the length is tested all the
-- same.
abbrev pub is_stored : Shown → List ℕ → Bool
is_stored a bytes = (is_kept a || is_loose a) && leb (length bytes) max_length

-- the time of a row, if it is stored; and its record: 1 for LOOSE, else 0; the length; and 21 bytes, zero filled
abbrev pub stored_time : Shown → ℕ → List ℕ → List ℕ
stored_time a time bytes = cond (is_stored a bytes) (time ∷ []) []

abbrev pub stored_record : Shown → List ℕ → List ℕ
stored_record a bytes = cond (is_stored a bytes) (cond (is_loose a) 1 0 ∷ length bytes ∷ padded max_length bytes) []

-- the time of a line's row; and its record
abbrev pub time_of_line : Receiver → Reading → List ℕ
time_of_line c (reception time bytes) = stored_time (taken_at c.view time bytes).answer time bytes
time_of_line c bad = []

abbrev pub record_of_line : Receiver → Reading → List ℕ
record_of_line c (reception time bytes) = stored_record (taken_at c.view time bytes).answer bytes
record_of_line c bad = []

-- the time of a line's row, by the phase of the run
abbrev pub times_in : Phase Receiver → List ℕ → List ℕ
times_in starting l = []
times_in (running c) l = time_of_line c (line_reading l)
times_in over l = []

-- the record of a line's row, by the phase of the run
abbrev pub records_in : Phase Receiver → List ℕ → List ℕ
records_in starting l = []
records_in (running c) l = record_of_line c (line_reading l)
records_in over l = []

-- the times of the rows of a run, and their records: programs over the same lines as `collect`, so the claims on texts
-- in pieces hold for them
abbrev pub row_times : Program (Phase Receiver)
row_times = record { next = next_phase model_collector; text = times_in; end = λ s. [] }

abbrev pub row_records : Program (Phase Receiver)
row_records = record { next = next_phase model_collector; text = records_in; end = λ s. [] }

-- one number for each line, to count them
abbrev pub line_ticks : Program (Phase Receiver)
line_ticks = record { next = next_phase model_collector; text = λ s l. 0 ∷ []; end = λ s. [] }
