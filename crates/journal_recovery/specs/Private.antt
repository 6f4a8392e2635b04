-- What the contracts of private functions say. No public contract cites these.
use Rattle.std.specs.Prelude.{ℕ, ◌+◌, ◌-◌, ◌*◌, ◌≤◌, ◌<◌, ◌≡◌, Bool, true, false, not, ◌&&◌, ◌||◌, List, ◌++◌, leb, eqb, ltb, length, get_or, take}
use Rattle.base_lists.specs.Lists.{padded}
use Rattle.base_buffers.specs.Buffer.{part}
use Rattle.block_layout.specs.Block.{cells_per_block, block_length}
use Rattle.collector_model.specs.Image.{accepts}
use Rattle.archive_model.specs.Row.{Row}
use Rattle.archive_model.specs.Buffer.{blocks_for, max_blocks, max_rows, rows_in}
use Rattle.archive_model.specs.Append.{verdict, block_at}
use Rattle.journal_model.specs.Disk.{State, counted, last_used, run_from, whole_blocks, blocks_on, mended, blocks_from, is_lost, is_other}
use Rattle.journal_calls.specs.declared.Judgement.{Judgement}
use Rattle.journal_calls.specs.declared.Judgement.TheVariants.{Same, Torn}
use Rattle.journal_calls.specs.Block.{judgement_number}
use Rattle.journal_calls.specs.Claims.{mended_by}
use Rattle.journal_state.specs.Lawful.{image_rows}
use Rattle.journal_recovery.specs.Start.{Start, with_whole, settled_of}

-- a state counts n rows of one file, and has this copy of the block with the last of them
pub record Says (n : ℕ) (copy : List ℕ) (s : State) : Type 0 where
  pub count : counted s ≡ n
  pub limited : s.limit ≡ max_blocks
  pub last : s.last ≡ copy

-- an image that is accepted, with its numbers: a file has room for the rows that they count
pub record IsCounted (numbers image : List ℕ) : Type 0 where
  pub accepted : accepts image ≡ true
  pub few : get_or numbers 2 0 + image_rows image ≤ max_rows

-- a start of every such state gives what the model's start gives
abbrev pub Settles : ℕ → List ℕ → List ℕ → ℕ → Start → Type 0
Settles n copy file left r = (s : State) → Says n copy s → r ≡ settled_of s file left

-- block `at` is missing, or the blocks before it are not an archive of full blocks
abbrev pub lost_at : ℕ → List ℕ → Bool
lost_at at file =
    let front = part 0 (block_length * at) file in
    not (leb (block_length * (at + 1)) (length file) && (eqb (verdict front).number 0
    && eqb (length (rows_in front)) (cells_per_block * at)))

-- the judgement is Other exactly if the model refuses the disk; else it gives the block that the model continues with
pub record FoundAs (s : State) (file : List ℕ) (j : Judgement) : Type 0 where
  pub foreign : eqb (judgement_number j) 3 ≡ ltb 0 (counted s) && (is_lost s file || is_other s file)
  pub mends : eqb (judgement_number j) 3 ≡ false → 0 < counted s
      → mended_by j s.last (block_at (last_used s) file) ≡ mended s file

-- the judgement for every such state, and that the file has the counted blocks
pub record Finds (n : ℕ) (copy file : List ℕ) (j : Judgement) : Type 0 where
  pub found : (s : State) → Says n copy s → FoundAs s file j
  pub none : n ≡ 0 → j ≡ Same
  pub room : eqb (judgement_number j) 3 ≡ false → blocks_for n ≤ whole_blocks file

-- a torn block, which is written again, is in the file
abbrev pub IsThere : Judgement → ℕ → List ℕ → Type 0
IsThere j at file = j ≡ Torn → at < whole_blocks file

-- ---- what is read from the last counted block on

-- the rows that are read from block `at` on
abbrev pub run_rows : ℕ → List ℕ → List Row
run_rows at file = run_from max_blocks at (blocks_on at file)

-- the blocks before it and the rows that are read stay; zeros after them, up to the last whole block
unfoldable pub swept_at : ℕ → List ℕ → List ℕ
swept_at at file =
    with_whole (padded (block_length * whole_blocks file)
    (take (block_length * at) file ++ blocks_from max_blocks at (run_rows at file))) file

-- the number of leftovers, and the file after the sweep
pub record Sweeps (n : ℕ) (file : List ℕ) (r : ℕ) (after : List ℕ) : Type 0 where
  pub rows : r ≡ length (run_rows (blocks_for n - 1) file) - (n - cells_per_block * (blocks_for n - 1))
  pub bytes : after ≡ swept_at (blocks_for n - 1) file
