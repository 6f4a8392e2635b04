-- `archive_file::scan_blocks` meets its contract. The invariant: the blocks that are left bring the scan so far to the end of the whole.
use mathlib.Core.Path.{◌≡◌}
use mathlib.Core.List.{List}
use Prim.Native.Nat.{ℕ, ◌+◌, ◌*◌, ◌/◌, ◌≤◌}
use lib.ListN.{length}
use Rattle.block_layout.specs.Block.{cells_per_block, block_length}
use Rattle.archive_model.specs.Buffer as buffer
use Rattle.archive_file.specs.declared.Scan.{Scan}
use Rattle.archive_file.specs.Archive.{scan_of}
use Rattle.archive_file.proofs.scan_blocks.Given as goal

pub record Scanning (piece : List ℕ) (at₀ : Scan) (size : ℕ) (left : List ℕ) (at : Scan) : Type 0 where
  pub sized : size ≡ block_length
  pub passed : at.blocks + length left / block_length ≡ at₀.blocks + length piece / block_length
  pub few : at.rows ≤ cells_per_block * at.blocks
  pub rest : buffer.scan_blocks (scan_of at) (buffer.blocks_in left)
      ≡ buffer.scan_blocks (scan_of at₀) (buffer.blocks_in piece)

abbrev pub invariant-loop-block : goal.invariant-loop-block
invariant-loop-block l = Scanning l.piece l.initial.at l.block-iterator.size l.block-iterator.rest.now l.at
