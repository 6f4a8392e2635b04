-- `archive_repack::push_cells` meets its contract. The invariant: what waits with the cells that are left is what waited with all.
use mathlib.Core.Path.{◌≡◌}
use mathlib.Core.List.{List, ◌++◌}
use Prim.Native.Nat.{ℕ, ◌+◌, ◌-◌, ◌*◌, ◌≤◌}
use lib.ListN.{length, take}
use Rattle.block_layout.specs.Cell.{cell_length}
use Rattle.archive_file.proofs.Cells.{Left}
use Rattle.archive_repack_model.specs.Packer.{pending_length}
use Rattle.archive_repack.specs.Private.{kept_from}
use Rattle.archive_repack.proofs.push_cells.Given as goal

pub record Pushing (pending₀ : List ℕ) (used : ℕ) (source : List ℕ)
    (rows : ℕ) (identities pending : List ℕ) (at size : ℕ) (left : List ℕ) : Type 0 where
  pub i : ℕ
  pub cells : Left source rows size left i
  pub few : at ≤ used + i
  pub long : length pending ≡ pending_length
  pub rest : take (cell_length * at) pending ++ kept_from identities source i (rows - i)
      ≡ take (cell_length * used) pending₀ ++ kept_from identities source 0 rows

abbrev pub invariant-loop-cell : goal.invariant-loop-cell
invariant-loop-cell l =
    Pushing l.initial.pending l.used l.source l.rows l.identities l.pending l.at l.cell-iterator.size
    l.cell-iterator.rest.now
