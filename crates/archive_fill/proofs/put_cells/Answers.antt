-- The goals that a search does not find.
use mathlib.Core.Path.{◌≡◌, refl, sym, ap, ◌∙◌}
use mathlib.Core.List.{List, [], flatten}
use Prim.Native.Nat.{ℕ, ◌*◌, ◌<◌}
use native.Mathlib.Omega.{arith}
use lib.ListN.{length, get_or, length-map}
use Rattle.base_lists.proofs.Tests.{all_get_d, get_d_map}
use Rattle.base_buffers.specs.Buffer.{part}
use Rattle.base_buffers.proofs.Segments.{begin, begun_length, within, lent, part_length, part-ends, turn, turned, done}
use Rattle.block_layout.specs.Cell.{cell_length}
use Rattle.archive_model.specs.Row.{row_cell, is_row}
use Rattle.archive_model.specs.Append.{no_row}
use Rattle.archive_fill.specs.Fill.{row_length, row_given, rows_given}
use Rattle.archive_fill.proofs.Records.{rows-count, row_get}
use Rattle.archive_fill.proofs.put_cells.Invariants.{cells}
use Rattle.archive_fill.proofs.put_cells.Goals as goal

cells_count : (times rows : List ℕ) → length (cells times rows) ≡ length times
unfolding cells
cells_count times rows = length-map (rows_given times rows) row_cell ∙ rows-count times rows

cell_get : (times rows : List ℕ) (i : ℕ) → i < length times
    → get_or (cells times rows) i [] ≡ row_cell (row_given (get_or times i 0) (part (row_length * i) row_length rows))
unfolding cells
cell_get times rows i h =
    get_d_map row_cell (rows_given times rows) i no_row [] (omega (arith, rows-count times rows))
    ∙ ap row_cell (row_get times rows i h)

pub loop-i-init : goal.loop-i-init
unfolding flatten
loop-i-init c = record { bounded = omega arith; begun = begin _ }

pub put_record-requires : goal.put_record-requires
put_record-requires c =
    let i = c.loop-i.i in
    let times = c.args.times.now in
    let rows = c.args.rows.now in
    let from = row_length * i in
    let valid = all_get_d is_row (rows_given times rows) i no_row c.requires.2 (omega (arith, rows-count times rows)) in
    let row = ap is_row (sym (row_get times rows i (omega arith))) ∙ valid in (
      lent c.loop-i.invariant.begun cell_length _ refl (omega (arith, c.requires.0)),
      ap length (part-ends from row_length rows) ∙ part_length from row_length rows (omega (arith, c.requires.1)),
      ap (λ (l : List ℕ). is_row (row_given (get_or times i 0) l)) (part-ends from row_length rows) ∙ row,
    )

pub loop-i-preserved : goal.loop-i-preserved
loop-i-preserved c =
    let i = c.loop-i.i in
    let times = c.args.times.now in
    let rows = c.args.rows.now in
    let is =
    c.put_record.ensures
    ∙ ap (λ (l : List ℕ). row_cell (row_given (get_or times i 0) l)) (part-ends (row_length * i) row_length rows)
    ∙ sym (cell_get times rows i (omega arith)) in
    record {
      bounded = omega arith;
      begun =
          turn _ _ cell_length i _ _ c.loop-i.invariant.begun (omega (arith, cells_count times rows)) is
          c.put_record.auto.cell (omega (arith, c.requires.0));
    }

pub returns : goal.returns
unfolding cells
returns c =
    let times = c.args.times.now in
    done (turned _ _ cell_length (length times) c.loop-i.i _ c.loop-i.invariant.begun
    (omega arith) (cells_count times c.args.rows.now))
    c.requires.0

pub overflow_mul-i : goal.overflow_mul-i
overflow_mul-i c = omega arith

pub overflow_mul-i-in-loop-i : goal.overflow_mul-i-in-loop-i
overflow_mul-i-in-loop-i c = omega arith

pub overflow_add-i : goal.overflow_add-i
overflow_add-i c = omega arith

pub slice_bounds-put_record-count : goal.slice_bounds-put_record-count
slice_bounds-put_record-count c = omega arith

pub slice_bounds-put_record-start : goal.slice_bounds-put_record-start
slice_bounds-put_record-start c = omega arith

pub slice_bounds-put_record-end : goal.slice_bounds-put_record-end
slice_bounds-put_record-end c = within c.loop-i.invariant.begun _ (omega (arith, c.requires.0))

pub offset_bounds-times-i : goal.offset_bounds-times-i
offset_bounds-times-i c = omega arith

pub bounds-times-i : goal.bounds-times-i
bounds-times-i c = omega arith

pub overflow_mul-i-in-loop-i-2 : goal.overflow_mul-i-in-loop-i-2
overflow_mul-i-in-loop-i-2 c = omega arith

pub overflow_mul-i-in-loop-i-3 : goal.overflow_mul-i-in-loop-i-3
overflow_mul-i-in-loop-i-3 c = omega arith

pub overflow_add-i-in-loop-i : goal.overflow_add-i-in-loop-i
overflow_add-i-in-loop-i c = omega arith

pub slice_bounds-put_record-count-in-loop-i : goal.slice_bounds-put_record-count-in-loop-i
slice_bounds-put_record-count-in-loop-i c = omega arith

pub slice_bounds-put_record-start-in-loop-i : goal.slice_bounds-put_record-start-in-loop-i
slice_bounds-put_record-start-in-loop-i c = omega arith

pub slice_bounds-put_record-end-in-loop-i : goal.slice_bounds-put_record-end-in-loop-i
slice_bounds-put_record-end-in-loop-i c = omega arith

pub overflow_step-i : goal.overflow_step-i
overflow_step-i c = omega arith

pub loop-i-smaller : goal.loop-i-smaller
loop-i-smaller c = omega arith

pub shape_of-out : goal.shape_of-out
shape_of-out c = begun_length c.loop-i.invariant.begun
