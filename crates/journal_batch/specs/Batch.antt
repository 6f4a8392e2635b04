-- A batch of rows of one block, and the state that counts them (docs/CRASH.md, "A commit").
use Rattle.std.specs.Prelude.{ℕ, ◌/◌, ◌%◌, Bool, cond, not, ◌&&◌, List, leb, ltb, eqb, length, replicate}
use Rattle.base_refusal.specs.Number.{number_of}
use Rattle.base_refusal.specs.declared.Refusal.TheVariants.{ShortOutput, NotAccepted, Mismatch}
use Rattle.block_layout.specs.Block.{cells_per_block, block_length}
use Rattle.archive_model.specs.Append.{Appended}
use Rattle.archive_fill.specs.Fill.{put_rows_given}
use Rattle.archive_fill.specs.Claims.{with_block}
use Rattle.journal_model.specs.Disk.{whole_blocks}
use Rattle.journal_calls.specs.Rows.{compare_call}
use Rattle.journal_state.specs.State.{Kept, state_bytes}
use Rattle.journal_state.specs.Lawful.{is_lawful_state}

-- ---- the block

-- the number, and the block with the rows
pub record Filled : Type 0 where
  pub number : ℕ
  pub block : List ℕ

-- rows n, n + 1, .. are put into their block
unfoldable pub batch_put_of : (block : List ℕ) (n : ℕ) (times records : List ℕ) → Filled
batch_put_of block n times records =
    let a : Appended = put_rows_given block n times records in record { number = a.number; block = a.buffer }

-- the block with the rows: a blank block if the last one is full, else the last one with the rows after its own. If
-- there are no rows, nothing changes.
unfoldable pub filled_of : (last : List ℕ) (n : ℕ) (times records : List ℕ) → Filled
filled_of last n times records =
    cond (eqb (length times) 0) (record { number = 0; block = last })
    (batch_put_of (cond (eqb (n % cells_per_block) 0) (replicate block_length 0) last) n times records)

-- ---- the batch

-- the number, the copy of the block with the last row, and every byte of both files, after the call
pub record Commit : Type 0 where
  pub number : ℕ
  pub last : List ℕ
  pub archive : List ℕ
  pub state : List ℕ

-- some of the new rows are not among the leftovers
abbrev pub is_new : (times records moments left : List ℕ) → Bool
is_new times records moments left = ltb (compare_call times records moments left 0 0).agreed (length times)

-- 16 for a wrong size; 12 if leftovers must be put aside first; the number of `put_rows`; 6 if the archive does not
-- have that block; 11 if the next state is not lawful
unfoldable pub commit_of : (n : ℕ) (times records moments left : List ℕ) (next : List ℕ → Kept)
    (last file state : List ℕ) → Commit
commit_of n times records moments left next last file state =
    let refused : ℕ → Commit = λ number. record { number = number; last = last; archive = file; state = state } in
    let compared = compare_call times records moments left 0 0 in
    let filled = filled_of last n times records in
    let new = is_new times records moments left in
    let at = n / cells_per_block in
    cond (not (eqb compared.number 0)) (refused compared.number)
    (cond (not (eqb compared.going 0)) (refused (number_of Mismatch))
    (cond (not (eqb filled.number 0)) (refused filled.number)
    (cond (new && leb (whole_blocks file) at) (refused (number_of ShortOutput))
    (cond (not (is_lawful_state (next filled.block))) (refused (number_of NotAccepted))
    (record {
      number = 0;
      last = filled.block;
      archive = cond new (with_block at filled.block file) file;
      state = state_bytes (next filled.block) 2;
    })))))
