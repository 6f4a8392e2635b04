-- `archive_file::are_written` meets its contract. The invariant: what is left decides the whole.
use mathlib.Core.Path.{◌≡◌}
use mathlib.Core.List.{List}
use Prim.Native.Nat.{ℕ, ◌-◌}
use Rattle.base_lists.specs.Lists.{all}
use Rattle.archive_file.specs.Private.{is_written, cells_from}
use Rattle.archive_file.proofs.Cells.{Left}
use Rattle.archive_file.proofs.are_written.Given as goal

pub record Testing (block : List ℕ) (used size : ℕ) (left : List ℕ) : Type 0 where
  pub i : ℕ
  pub cells : Left block used size left i
  pub rest : all is_written (cells_from block i (used - i)) ≡ all is_written (cells_from block 0 used)

abbrev pub invariant-loop-cell : goal.invariant-loop-cell
invariant-loop-cell l = Testing l.block l.used l.cell-iterator.size l.cell-iterator.rest.now
