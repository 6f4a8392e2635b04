-- `c_archive::row_at` meets its contract: beside a refusal nothing is written, and else a step for the byte that is stored and for the part that is lent.
use mathlib.Core.Path.{◌≡◌, sym, ap, ◌∙◌}
use mathlib.Core.List.{List}
use Prim.Native.Nat.{ℕ, ◌-◌}
use native.Mathlib.Omega.{arith}
use lib.ListN.{length, take}
use Rattle.base_refusal.proofs.Numbers.{refused-number}
use Rattle.base_buffers.proofs.Segments.{Writing, packed, begin, begun_length, within, store, lend, done}
use Rattle.base_buffers.specs.Buffer.{part, resized}
use Rattle.block_layout.specs.Cell.{cell_capacity}
use Rattle.archive_model.specs.Append.{row_at_of}
use Rattle.archive_file.specs.Archive.{ShownRow}
use Rattle.archive_fill.specs.Fill.{row_length}
use Rattle.c_archive.proofs.Calls.{row_other, row-not, row_done, row_are}
use Rattle.c_archive.proofs.row_at.Goals as goal

pub returns-then-row-ne-ROW_LENGTH : goal.returns-then-row-ne-ROW_LENGTH
returns-then-row-ne-ROW_LENGTH c =
    let a = c.args in
    row_other a.buffer.now a.i a.row.now a.time.now c.if-row-ne-ROW_LENGTH.true

pub returns-in-Err : goal.returns-in-Err
returns-in-Err c =
    let a = c.args in
    row-not a.buffer.now a.i a.row.now a.time.now c.if-row-ne-ROW_LENGTH.false c.number.result
    (c.number.ensures ∙ ap (λ (s : ShownRow). s.number) c.in-Err.ensures)
    (λ z. refused-number c.in-Err.why (sym c.number.ensures ∙ z))

-- the row after its first byte, after its second, and with the part that is lent
module _ (row : List ℕ) (h : length row ≡ row_length) (flag len : ℕ) where
  abbrev flagged : Writing 1
  flagged = packed (store (begin row) flag (omega (arith, h)))

  abbrev headed : Writing 2
  headed = packed (store flagged.begun len (omega (arith, h)))

  module _ (ys s : List ℕ) (is : ys ≡ s) (l : length ys ≡ length (part 2 (23 - 2) headed.xs)) where
    abbrev filled : Writing 23
    filled = packed (lend headed.begun ys s 23 is l (omega arith) (omega (arith, h)))

pub returns-in-Ok : goal.returns-in-Ok
returns-in-Ok c =
    let a = c.args in
    let r = c.in-Ok.found in
    let h = c.if-row-ne-ROW_LENGTH.false in
    let none : (row_at_of a.buffer.now a.i).number ≡ 0 = sym (ap (λ (s : ShownRow). s.number) c.in-Ok.ensures) in
    rw (done (filled a.row.now h c.flag_byte.result r.len _ (resized cell_capacity (take r.len r.bytes))
    c.put_filled.ensures c.put_filled.auto.out).begun h)
    (row_are a.buffer.now a.i _ 0 r.len r.time
    r.bytes r.loose c.flag_byte.ensures none c.in-Ok.ensures
    ∙ row_done a.buffer.now a.i a.row.now a.time.now h none)

pub bounds-row-0 : goal.bounds-row-0
bounds-row-0 c = omega (arith, c.if-row-ne-ROW_LENGTH.false)

pub bounds-row-1 : goal.bounds-row-1
bounds-row-1 c =
    let h = c.if-row-ne-ROW_LENGTH.false in
    omega (arith, h, begun_length (flagged c.args.row.now h c.flag_byte.result 0).begun)

pub slice_bounds-put_filled-end : goal.slice_bounds-put_filled-end
slice_bounds-put_filled-end c =
    let h = c.if-row-ne-ROW_LENGTH.false in
    within (headed c.args.row.now h c.flag_byte.result c.in-Ok.found.len).begun 23 (omega (arith, h))

pub shape_of-row : goal.shape_of-row
shape_of-row c =
    let r = c.in-Ok.found in
    begun_length (filled c.args.row.now c.if-row-ne-ROW_LENGTH.false c.flag_byte.result r.len _
    (resized cell_capacity (take r.len r.bytes)) c.put_filled.ensures c.put_filled.auto.out).begun
