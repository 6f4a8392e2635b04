-- `block_layout::cell_last` meets its contract: the part that is lent is the last two bytes, however long the cell is.
use Rattle.std.proofs.Common.{◌≡◌, ◌∙◌, ℕ, ◌-◌, min, List, length, take, drop, ap, arith, length-take}
use native.Mathlib.Nat.{min_comm}
use lib.Seq.{take_all}
use Rattle.base_buffers.specs.Buffer.{part}
use Rattle.base_buffers.proofs.Segments.{part_clamped}
use Rattle.block_layout.specs.BigEndian.{unbe}
use Rattle.block_layout.proofs.BigEndian.{field_lt}
use Rattle.block_layout.proofs.cell_last.Goals as goal

both : (start end : ℕ) (cell : List ℕ) → start ≡ min (length cell) 30
    → end ≡ min (length cell) 32 → take 8 (take (end - start) (drop start cell)) ≡ part 30 2 cell
both start end cell s e =
    rw (s, e, min_comm (length cell) 30, min_comm (length cell) 32)
    (ap (take 8) (part_clamped 30 2 cell) ∙ take_all 8 (part 30 2 cell) (rw length-take (omega arith)))

pub overflow_cast-result : goal.overflow_cast-result
overflow_cast-result c =
    let small = field_lt 30 2 c.args.cell.now (λ i. omega (arith, c.type_inv.cell i)) in
    let same = both _ _ c.args.cell.now c.min-start.ensures c.min-end.ensures in
    record { fits = rw (c.read_number-last.ensures, same) small }

pub returns : goal.returns
returns c =
    c.read_number-last.ensures ∙ ap unbe (both _ _ c.args.cell.now c.min-start.ensures c.min-end.ensures)
