-- `journal_calls::scan::run_blocks` meets its contract. The invariant: the blocks that are left bring the run so far to the
-- end of the whole.
use mathlib.Core.Path.{◌≡◌}
use mathlib.Core.List.{List}
use Prim.Native.Nat.{ℕ, ◌+◌, ◌/◌, ◌≤◌}
use lib.ListN.{length}
use Rattle.block_layout.specs.Block.{block_length}
use Rattle.archive_model.specs.Buffer.{blocks_in}
use Rattle.journal_calls.specs.declared.Run as declared
use Rattle.journal_calls.specs.Run.{run_of, run_blocks}
use Rattle.journal_calls.proofs.Runs.{RunFacts}
use Rattle.journal_calls.proofs.scan.run_blocks.Given as goal

pub record Scanning (piece : List ℕ) (at₀ : declared.Run) (size : ℕ) (left : List ℕ) (at : declared.Run) : Type 0 where
  pub sized : size ≡ block_length
  pub facts : RunFacts (run_of at)
  pub passed : at.blocks + length left / block_length ≤ at₀.blocks + length piece / block_length
  pub rest : run_blocks (run_of at) (blocks_in left) ≡ run_blocks (run_of at₀) (blocks_in piece)

abbrev pub invariant-loop-block : goal.invariant-loop-block
invariant-loop-block l = Scanning l.piece l.initial.at l.block-iterator.size l.block-iterator.rest.now l.at
