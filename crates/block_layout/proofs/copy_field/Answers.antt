-- `block_layout::copy_field` meets its contract: the part that is lent is the cell's field, however long the cell is.
use Rattle.std.proofs.Common.{◌≡◌, ◌∙◌, ℕ, ◌-◌, min, List, length, take, drop, ap}
use native.Mathlib.Nat.{min_comm}
use Rattle.base_buffers.specs.Buffer.{resized}
use Rattle.base_buffers.proofs.Segments.{part_clamped}
use Rattle.block_layout.specs.Cell.{cell_field}
use Rattle.block_layout.proofs.copy_field.Goals as goal

field : (start end : ℕ) (cell : List ℕ) → start ≡ min (length cell) 9
    → end ≡ min (length cell) 30 → take (end - start) (drop start cell) ≡ cell_field cell
field start end cell s e = rw (s, e, min_comm (length cell) 9, min_comm (length cell) 30) (part_clamped 9 21 cell)

pub returns : goal.returns
returns c =
    c.put_bytes.ensures
    ∙ ap (resized (length c.args.out.now)) (field _ _ c.args.cell.now c.min-start.ensures c.min-end.ensures)
