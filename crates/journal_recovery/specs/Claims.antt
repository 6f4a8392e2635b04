-- What is proved of a whole start: after a crash it is not refused, and it leaves the rows of the model.
use Rattle.std.specs.Prelude.{ℕ, ◌*◌, ◌≤◌, ◌<◌, ◌≡◌, true, List, ◌++◌, length, drop}
use Rattle.base_lists.specs.Lists.{all}
use Rattle.block_layout.specs.Block.{block_length}
use Rattle.archive_model.specs.Row.{Row, is_blank}
use Rattle.archive_model.specs.Buffer.{max_blocks}
use Rattle.archive_model.specs.Claims.{is_fit}
use Rattle.journal_model.specs.Disk.{State, Disk, whole_blocks}
use Rattle.journal_model.specs.Crash.{leaving_all}
use Rattle.journal_model.specs.Claims.{padded_files, rows_after, Crashed}
use Rattle.journal_state.specs.State.{Kept, began, name_length, max_name, state_bytes}
use Rattle.journal_state.specs.Lawful.{is_placed, is_printed}
use Rattle.journal_state.specs.Claims.{IsKept, state_of}
use Rattle.journal_recovery.specs.Start.{Start, with_whole, start_result}

-- a state of the model in a state file, with any name, position in a log and file for rows. It is proved, and not
-- assumed, that the rows, the copy of the last block and the image agree.
pub record IsSaid (s : State) (k : Kept) : Type 0 where
  pub sized : IsKept k
  pub says : state_of k ≡ s
  pub named : 0 < name_length k
  pub short : name_length k ≤ max_name
  pub clean : is_blank (drop (name_length k) k.name) ≡ true
  pub first : began k ≡ 0
  pub placed : is_placed k ≡ true
  pub printed : is_printed k ≡ true

-- the bytes of such a state file
pub record IsFileOf (s : State) (bytes : List ℕ) : Type 0 where
  pub kept : Kept
  pub said : IsSaid s kept
  pub is : bytes ≡ state_bytes kept 2

-- done: the archive has the rows that the model has after n lines, then the leftovers, whose number is returned. The
-- bytes after the last whole block are unchanged.
pub record Recovered (before : List Row) (log : List (List ℕ)) (n : ℕ) (file : List ℕ) (r : Start) : Type 0 where
  pub rest : List Row
  pub fit : all is_fit rest ≡ true
  pub number : r.number ≡ 0
  pub archive : r.archive
      ≡ with_whole (padded_files max_blocks (block_length * whole_blocks file) (rows_after before log n ++ rest)) file
  pub left : r.left ≡ length rest

-- Start recovers: after a crash, also one during a start, `start` answers 0 and leaves the rows that the model has for
-- the state on disk.
abbrev pub StartRecovers : Type 0
StartRecovers =
    (before : List Row) (log : List (List ℕ)) (d left : Disk) (again : List (List ℕ))
    → Crashed max_blocks before log d left again
    → let file = (leaving_all left again).archive in
    whole_blocks file ≤ max_blocks
    → (bytes : List ℕ) → IsFileOf left.state bytes
    → (old : ℕ) → Recovered before log left.state.lines file (start_result bytes file old)
