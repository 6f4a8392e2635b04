-- What is proved of a batch: its result is that of the model of the disk.
use Rattle.std.specs.Prelude.{ℕ, ◌+◌, ◌*◌, ◌%◌, ◌≤◌, ◌≡◌, List, [], length}
use Rattle.block_layout.specs.Block.{cells_per_block}
use Rattle.archive_model.specs.Row.{Row}
use Rattle.archive_model.specs.Buffer.{max_blocks}
use Rattle.archive_fill.specs.Fill.{row_length, rows_given}
use Rattle.journal_model.specs.Disk.{Disk, counted, whole_blocks, leftovers, going, next_lines, new_rows, committed}
use Rattle.journal_model.specs.Crash.{Room}
use Rattle.journal_model.specs.Claims.{IsPlant, Stands}
use Rattle.journal_state.specs.State.{Kept}
use Rattle.journal_recovery.specs.Claims.{IsSaid, IsFileOf}
use Rattle.journal_batch.specs.Batch.{Commit, commit_of}

-- the next lines of a log, on a disk that is as the model says
module _ (before : List Row) (log : List (List ℕ)) (d : Disk) (count : ℕ) where
  -- the lines of the batch
  abbrev pub batch : List (List ℕ)
  batch = next_lines log d.state count

  -- the disk after them
  abbrev pub after : Disk
  after = committed d batch (whole_blocks d.archive)

  -- the rows that the collector gives for these lines. They are all in one block, and the archive has room for it. And
  -- the leftovers, of which none must be put aside.
  pub record Comes (times records moments left : List ℕ) : Type 0 where
    pub plant : IsPlant max_blocks before
    pub stands : Stands max_blocks before log d
    pub size : whole_blocks d.archive ≤ max_blocks
    pub room : Room d batch (whole_blocks d.archive)
    pub rows : rows_given times records ≡ new_rows d.state batch
    pub sized : length records ≡ row_length * length times
    pub one : counted d.state % cells_per_block + length times ≤ cells_per_block
    pub left_rows : rows_given moments left ≡ leftovers d
    pub left_sized : length left ≡ row_length * length moments
    pub ours : going (new_rows d.state batch) (leftovers d) ≡ []

  -- done: the copy, the archive and the state are those of the model's disk after the lines. Nothing was put aside. The
  -- disk is as the model says, so the next batch can follow.
  pub record Committed (r : Commit) : Type 0 where
    pub number : r.number ≡ 0
    pub last : r.last ≡ after.state.last
    pub archive : r.archive ≡ after.archive
    pub state : IsFileOf after.state r.state
    pub aside : after.aside ≡ d.aside
    pub stands : Stands max_blocks before log after

-- Batch commits: if the next state has the lines and the collector after the batch, `commit` answers 0 and leaves what
-- the model's `committed` says.
abbrev pub BatchCommits : Type 0
BatchCommits =
    (before : List Row) (log : List (List ℕ)) (d : Disk) (count : ℕ) (times records moments left : List ℕ)
    → Comes before log d count times records moments left
    → (next : List ℕ → Kept)
    → let s = (after before log d count).state in
    IsSaid s (next s.last)
    → (state : List ℕ)
    → Committed before log d count
    (commit_of (counted d.state) times records moments left next d.state.last d.archive state)
