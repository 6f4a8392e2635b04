-- `archive_report::tally::add_blocks` meets its contract. The invariant: the blocks that are left bring the tally so far to that of the whole.
use mathlib.Core.Path.{◌≡◌}
use mathlib.Core.List.{List}
use Prim.Native.Nat.{ℕ, ◌+◌, ◌-◌, ◌/◌, ◌≤◌}
use lib.ListN.{length}
use Rattle.block_layout.specs.Block.{block_length}
use Rattle.archive_model.specs.Buffer.{blocks_in}
use Rattle.archive_file.proofs.Scans.{blocks_from}
use Rattle.archive_report_model.specs.Pieces.{add_blocks}
use Rattle.archive_report.specs.declared.tally.Tally as code
use Rattle.archive_report.specs.Lines.{lines_length}
use Rattle.archive_report.specs.Private.{tally_of, Grows, Sane}
use Rattle.archive_report.proofs.tally.add_blocks.Given as goal

pub record Adding (lines₀ piece : List ℕ) (at₀ : code.Tally) (lines : List ℕ) (at : code.Tally) (i : ℕ) : Type 0 where
  pub bounded : i ≤ length piece / block_length
  pub long : length lines ≡ lines_length
  pub passed : at.scan.blocks ≡ at₀.scan.blocks + i
  pub sane : Sane (tally_of at lines)
  pub grows : Grows at₀ at lines₀ lines
  pub rest : add_blocks (tally_of at lines) (blocks_from piece i (length piece / block_length - i))
      ≡ add_blocks (tally_of at₀ lines₀) (blocks_in piece)

abbrev pub invariant-loop-block : goal.invariant-loop-block
invariant-loop-block l = Adding l.fn.lines l.fn.piece l.fn.t l.lines l.at l.block-index
