-- What is claimed of a log that is kept: proofs/Claims.antt has the theorems.
use Rattle.std.specs.Prelude.{ℕ, ◌*◌, ◌^◌, ◌≤◌, ◌<◌, ◌≡◌, true, false, List, ◌++◌, length, take, drop, replicate}
use Rattle.base_lists.specs.Lists.{padded}
use Rattle.block_layout.specs.Cell.{cell_length}
use Rattle.block_layout.specs.Block.{cells_per_block, block_length}
use Rattle.collector_closings.specs.Cells.{entry_cells}
use Rattle.archive_model.specs.Buffer.{max_blocks, archive_of, rows_in}
use Rattle.archive_model.specs.Append.{verdict}
use Rattle.text_program.specs.Lines.{lines_of}
use Rattle.journal_model.specs.Claims.{kept_state}
use Rattle.journal_state.specs.State.{state_bytes}
use Rattle.journal_state.specs.Lawful.{accepts_state}
use Rattle.journal_recovery.specs.Claims.{IsFileOf}
use Rattle.history_archived.specs.Archived.{archived_of}
use Rattle.history_archived.specs.Closed.{closed_of}
use Rattle.history_log.specs.Keep.{taken_of, note_of, is_no_name, keep_of}

-- From nothing, if the name is right and there is room for rows and closings: m blocks of zeros end as the archive of
-- the reference model's KEPT and LOOSE receptions, with zeros after it; `heard` begins with the telegrams that the model
-- closes, 32 bytes each; and the state is that of the model's collector and rows.
abbrev pub FreshKept : Type 0
FreshKept =
    (log heard name bytes : List ℕ) (m : ℕ) → m ≤ max_blocks → length (archived_of log) ≤ cells_per_block * m
    → cell_length * length (closed_of log) ≤ length heard → is_no_name name ≡ false
    → keep_of log (replicate (block_length * m) 0) heard name bytes
    ≡ record {
      number = 0;
      position = 0;
      rows = length (archived_of log);
      closings = length (closed_of log);
      lines = length (lines_of (taken_of log));
      archive = padded (block_length * m) (archive_of (archived_of log));
      heard = entry_cells (closed_of log) ++ drop (cell_length * length (closed_of log)) heard;
      state = state_bytes (note_of log (replicate (block_length * m) 0) name) 2;
    }

-- Read back: if the number is 0, what is left is an archive of the rows that were there and the reference model's, in
-- order; and the closings that are counted are the model's, in order.
pub record ReadsBack (log archive heard name bytes : List ℕ) : Type 0 where
  pub right : (verdict (keep_of log archive heard name bytes).archive).number ≡ 0
  pub rows : rows_in (keep_of log archive heard name bytes).archive ≡ rows_in archive ++ archived_of log
  pub closed : take (cell_length * (keep_of log archive heard name bytes).closings)
      (keep_of log archive heard name bytes).heard
      ≡ entry_cells (closed_of log)

abbrev pub KeptReadBack : Type 0
KeptReadBack =
    (log archive heard name bytes : List ℕ) → (keep_of log archive heard name bytes).number ≡ 0
    → ReadsBack log archive heard name bytes

-- State kept: if the number is 0, the state is accepted, and is the file of a state of the model of the disk: of the
-- rows that were there, and of all lines that were taken. So `StartRecovers` speaks of it.
pub record StateKept (log archive heard name bytes : List ℕ) : Type 0 where
  pub accepted : accepts_state (keep_of log archive heard name bytes).state ≡ true
  pub file : let lines = lines_of (taken_of log) in
      IsFileOf (kept_state max_blocks (rows_in archive) lines (length lines)) (keep_of log archive heard name bytes).state

abbrev pub KeptStateStarts : Type 0
KeptStateStarts =
    (log archive heard name bytes : List ℕ) → length log < 2 ^ 64 → (keep_of log archive heard name bytes).number ≡ 0
    → StateKept log archive heard name bytes
