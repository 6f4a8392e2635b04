-- What the contracts of private functions say. No public contract cites these.
use Rattle.std.specs.Prelude.{ℕ, ◌+◌, ◌-◌, ◌*◌, ◌/◌, ◌%◌, ◌≤◌, ◌<◌, ◌≡◌, Bool, true, cond, take, drop, length, set}
use mathlib.Core.List.{List, [], ◌++◌, map, flatten}
use Rattle.base_lists.specs.Lists.{all, padded}
use Rattle.block_layout.specs.Cell.{cell_length}
use Rattle.block_layout.specs.Block.{cells_per_block, block_length}
use Rattle.archive_model.specs.Row.{row_in, is_row}
use Rattle.archive_file.specs.Private.{cells_from}
use Rattle.archive_repack_model.specs.Repack as model
use Rattle.archive_repack_model.specs.Packer.{Packing, packing, full_length, full_blocks, pushed_blocks, pushed, waiting_block}
use Rattle.archive_repack.specs.declared.Repacked.{Repacked}

-- each of the first n cells of a block holds a valid row
abbrev pub are_rows : List ℕ → ℕ → Bool
are_rows block n = all (λ c. is_row (row_in c)) (cells_from block 0 n)

-- a cell if its row stays, else nothing
unfoldable pub kept_cell : List ℕ → List ℕ → List ℕ
kept_cell identities cell = cond (model.is_listed identities (row_in cell)) [] cell

-- the cells that stay, of n cells from cell a on
unfoldable pub kept_from : List ℕ → List ℕ → ℕ → ℕ → List ℕ
kept_from identities block a n = flatten (map (kept_cell identities) (cells_from block a n))

-- r cells wait: `cells` were put after those of `before`
pub record Waits (before cells after : List ℕ) (most r : ℕ) : Type 0 where
  pub few : r ≤ most
  pub are : take (cell_length * r) after ≡ before ++ cells

-- of `total` cells, the first 15 go into a block if there are that many, and the others move to the front
pub record Flushed (k total : ℕ) (before after full full2 : List ℕ) (r : ℕ) : Type 0 where
  pub rest : r ≡ total % cells_per_block
  pub are : take (cell_length * r) after ≡ drop (full_length * (total / cells_per_block)) (take (cell_length * total) before)
  pub put : full2 ≡ model.fronted (full_blocks k (take (cell_length * total) before)) full

-- if the block is dropped, the list has room for its position
abbrev pub HasRoom : List ℕ → ℕ → List ℕ → Type 0
HasRoom block gone positions = model.is_dropped block ≡ true → gone < length positions

-- if its block is dropped, position k is put into the list after `gone` others
pub record DropListed (is_dropped : Bool) (gone k : ℕ) (before after : List ℕ) (r : ℕ) : Type 0 where
  pub list : after ≡ cond is_dropped (set before gone k) before
  pub count : r ≡ cond is_dropped (gone + 1) gone

-- what a walk over the blocks of a piece leaves: `cells` were put after those that waited, and the blocks that they
-- filled are in the output
pub record Walked (p : Packing) (cells : List ℕ) (r : Repacked) (pending out out2 : List ℕ) : Type 0 where
  pub waits : r.used < cells_per_block
  pub packed : packing r.next r.used pending ≡ pushed p cells
  pub put : out2 ≡ model.fronted (pushed_blocks p cells) out
  pub long : block_length * p.next + length (pushed_blocks p cells) ≡ block_length * r.next

-- a buffer after the last block was put, with zeros after it up to `end`
abbrev pub packed_buffer : Packing → ℕ → List ℕ → List ℕ
packed_buffer p end out =
    take (block_length * p.next) out ++ padded (end - block_length * p.next) (waiting_block p) ++ drop end out
