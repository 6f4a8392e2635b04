-- The goals that a search does not find.
use mathlib.Core.Path.{◌≡◌, refl, sym, ap, ◌∙◌}
use mathlib.Core.List.{List, flatten}
use Prim.Native.Nat.{ℕ, ◌+◌, ◌-◌, ◌*◌, ◌≤◌}
use native.Mathlib.Omega.{arith}
use lib.ListN.{length, get_or, length-map}
use Rattle.radio_erp1.specs.Subtelegram.{max_length}
use Rattle.base_buffers.specs.Buffer.{part}
use Rattle.block_layout.specs.Cell.{cell_length, cell_of}
use Rattle.base_buffers.proofs.Segments.{Writing, packed, begin, begun_length, within, lent, turn, turned, wipe, done}
use Rattle.base_buffers.proofs.Buffer.{resized-length}
use Rattle.block_layout.proofs.Cell.{put-fits}
use Rattle.collector_model.specs.Image.{entry_cell}
use Rattle.collector_checkpoint.specs.Private.{cells_length, entries_from}
use Rattle.collector_state.specs.Collector.{Columns, columns_held}
use Rattle.collector_state.proofs.Arrays.{bytes-shown}
use Rattle.collector_checkpoint.proofs.Writing.{entries-length, cell_read}
use Rattle.collector_checkpoint.proofs.put_cells.Invariants.{cells}
use Rattle.collector_checkpoint.proofs.put_cells.Goals as goal
use Rattle.collector_checkpoint.proofs.put_cells.Goals.{In-loop-i, After-clear}

cells-length : (a : Columns) (first used : ℕ) → length (cells a first used) ≡ used
unfolding cells
cells-length a first used = length-map (entries_from a first used) entry_cell ∙ entries-length a first used

pub loop-i-init : goal.loop-i-init
unfolding flatten
loop-i-init c = record { bounded = omega arith; begun = begin _ }

short : (c : In-loop-i)
    → get_or c.args.state.lens.now (c.args.first + c.loop-i.i) 0 ≤ max_length
short c = c.requires.2.short c.loop-i.i (omega arith)

pub loop-i-preserved : goal.loop-i-preserved
unfolding cells
loop-i-preserved c =
    let at = goal.at.loop-i-preserved c in
    let a = c.args in
    let e = a.first + c.loop-i.i in
    let time = get_or a.state.times.now e 0 in
    let len = get_or a.state.lens.now e 0 in
    let count = get_or a.state.copies.now e 0 in
    let shown = part (max_length * e) (max_length * e + len - max_length * e) a.state.bytes.now in
    let is = bytes-shown a.state.bytes.now e len
    (short at.In-loop-i) (omega arith) in
    let l : length shown ≤ max_length = rw (is, resized-length)
    (short at.In-loop-i) in
    let w =
    c.put_cell.ensures ∙ put-fits time shown count _ l (lent c.loop-i.invariant.begun cell_length _ refl (omega arith))
    ∙ ap (λ (b : List ℕ). cell_of time b count) is
    ∙ sym (cell_read (columns_held a.state)
    a.first a.used c.loop-i.i (omega arith)) in
    record {
      bounded = omega arith;
      begun =
          turn _ _ cell_length c.loop-i.i _ _ c.loop-i.invariant.begun
          (rw cells-length (omega arith)) w c.put_cell.auto.out (omega arith);
    }

-- what is written, after the clearing
abbrev all : After-clear → Writing cells_length
all c =
    packed
    (wipe (turned _ _ cell_length _ c.loop-i.i _ c.loop-i.invariant.begun (omega arith) (cells-length _ _ _))
    _ cells_length
    c.clear.ensures c.clear.auto.out (omega arith) (omega arith))

pub returns : goal.returns
unfolding cells
returns c = done (all (goal.at.returns c).After-clear).begun (omega arith)

pub overflow_cast-len : goal.overflow_cast-len
overflow_cast-len c = omega (arith, short (goal.at.overflow_cast-len c).In-loop-i)

pub overflow_add-at : goal.overflow_add-at
overflow_add-at c = omega (arith, short (goal.at.overflow_add-at c).In-loop-i)

pub slice_bounds-put_cell-count-in-loop-i : goal.slice_bounds-put_cell-count-in-loop-i
slice_bounds-put_cell-count-in-loop-i c =
    omega (arith, short (goal.at.slice_bounds-put_cell-count-in-loop-i c).In-loop-i)

pub slice_bounds-put_cell-start-in-loop-i : goal.slice_bounds-put_cell-start-in-loop-i
slice_bounds-put_cell-start-in-loop-i c =
    omega (arith, short (goal.at.slice_bounds-put_cell-start-in-loop-i c).In-loop-i)

pub slice_bounds-put_cell-end-in-loop-i : goal.slice_bounds-put_cell-end-in-loop-i
slice_bounds-put_cell-end-in-loop-i c =
    omega (arith, short (goal.at.slice_bounds-put_cell-end-in-loop-i c).In-loop-i)

pub slice_bounds-put_cell-end : goal.slice_bounds-put_cell-end
slice_bounds-put_cell-end c = within c.loop-i.invariant.begun _ (omega arith)

pub slice_bounds-clear-end : goal.slice_bounds-clear-end
slice_bounds-clear-end c = within c.loop-i.invariant.begun cells_length (omega arith)

pub shape_of-out : goal.shape_of-out
shape_of-out c = begun_length (all (goal.at.shape_of-out c).After-clear).begun
