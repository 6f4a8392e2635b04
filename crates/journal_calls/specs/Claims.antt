-- What is proved of the journal's decisions: they are those of the model of the disk.
use Rattle.std.specs.Prelude.{ℕ, ◌+◌, ◌-◌, ◌*◌, ◌≤◌, ◌≡◌, true, false, List, ◌++◌, eqb, length}
use Rattle.base_lists.specs.Lists.{all}
use Rattle.block_layout.specs.Block.{cells_per_block, block_length}
use Rattle.archive_model.specs.Buffer.{blocks_for, max_blocks}
use Rattle.archive_model.specs.Append.{block_at}
use Rattle.journal_model.specs.Disk.{State, counted, last_used, is_other, mended, run_from}
use Rattle.journal_calls.specs.declared.Judgement.{Judgement}
use Rattle.journal_calls.specs.declared.Judgement.TheVariants.{Same, Longer, Torn, Other}
use Rattle.journal_calls.specs.Block.{judgement_of, judgement_number}
use Rattle.journal_calls.specs.Run.{Run, start_run, run_blocks, is_run, run_at, run_numbers}

-- the block after a judgement: a torn block is replaced by the copy
abbrev pub mended_by : Judgement → List ℕ → List ℕ → List ℕ
mended_by Same last block = block
mended_by Longer last block = block
mended_by Torn last block = last
mended_by Other last block = block

-- the judgement on the block with the last row that a state counts
abbrev pub judged : State → List ℕ → Judgement
judged s file = judgement_of s.last (counted s - cells_per_block * last_used s) (block_at (last_used s) file)

-- Judged: the block is of another archive exactly if the model refuses it; else the judgement gives the block that the
-- model continues with.
abbrev pub Judged : Type 0
Judged =
    (s : State) (file : List ℕ)
    → (eqb (judgement_number (judged s file)) 3 ≡ is_other s file)
    × (is_other s file ≡ false → mended_by (judged s file) s.last (block_at (last_used s) file) ≡ mended s file)

-- Run counts: after all blocks, a run has counted the rows that the model finds from block k on, and the blocks of
-- these rows.
abbrev pub RunCounts : Type 0
RunCounts =
    (limit k : ℕ) (blocks : List (List ℕ))
    → ((run_blocks (start_run limit k) blocks).rows ≡ length (run_from limit k blocks))
    × ((run_blocks (start_run limit k) blocks).blocks ≡ blocks_for (length (run_from limit k blocks)))

-- Run joins: blocks in two pieces give what they give in one.
abbrev pub RunJoins : Type 0
RunJoins = (r : Run) (xs ys : List (List ℕ)) → run_blocks r (xs ++ ys) ≡ run_blocks (run_blocks r xs) ys

-- Run back: five numbers hold any run.
abbrev pub RunBack : Type 0
RunBack = (r : Run) → run_at (run_numbers r) ≡ r

-- Run accepted: the numbers after more blocks are accepted too.
abbrev pub RunAccepted : Type 0
RunAccepted =
    (r : Run) (blocks : List (List ℕ)) → is_run r ≡ true → r.blocks + length blocks ≤ max_blocks
    → is_run (run_blocks r blocks) ≡ true

-- Run given: numbers that are accepted are those that some blocks give, from some block on.
pub record GivenByBlocks (limit : ℕ) (r : Run) : Type 0 where
  pub k : ℕ
  pub blocks : List (List ℕ)
  pub long : all (λ b. eqb (length b) block_length) blocks ≡ true
  pub give : run_blocks (start_run limit k) blocks ≡ r

abbrev pub RunGiven : Type 0
RunGiven = (r : Run) → is_run r ≡ true → GivenByBlocks r.limit r
