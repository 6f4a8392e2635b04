-- `archive_repack::push_cells` meets its contract.
use mathlib.Core.Path.{sym, ap, ◌∙◌}
use mathlib.Core.List.{List, ◌++◌, append_assoc, append-nil}
use Prim.Native.Nat.{ℕ, ◌+◌, ◌-◌, ◌*◌}
use native.Mathlib.Omega.{arith}
use lib.ListN.{take}
use Rattle.block_layout.specs.Cell.{cell_length}
use Rattle.block_layout.specs.Block.{block_cell}
use Rattle.archive_model.specs.Row.{row_in, is_row}
use Rattle.archive_file.proofs.Cells.{left_first, left_none, left_some, left_cell, left_next}
use Rattle.archive_repack.specs.Private.{kept_cell, kept_from}
use Rattle.archive_repack.proofs.Cells.{row_at, kept_first, kept-turn, kept_end}
use Rattle.archive_repack.proofs.push_cells.Goals as goal

pub loop-cell-init : goal.loop-cell-init
loop-cell-init c =
    let a = c.args in
    record {
      i = 0;
      cells = left_first a.source.now _ a.rows _ (cc) c.requires.3 c.requires.2 (cc);
      few = omega arith;
      long = c.requires.0;
      rest = ap (λ (l : List ℕ). take (cell_length * a.used) a.pending.now ++ l)
          (kept_first a.identities.now a.source.now a.rows);
    }

pub push_cell-at-requires : goal.push_cell-at-requires
push_cell-at-requires c =
    let a = c.args in
    let s = c.in-Some.ensures.steps in
    let t = c.loop-cell.invariant in
    let low = left_some a.source.now _ a.rows _ t.i t.cells c.in-Some.cell.now _ s.1.0 s.1.1 in (
      t.long,
      omega (arith, t.few, low, c.requires.1, c.requires.3),
      s.1.1 ∙ t.cells.sized,
      ap (λ (l : List ℕ). is_row (row_in l))
          (left_cell a.source.now _ a.rows _ t.i t.cells c.in-Some.cell.now _ s.1.0 s.1.1)
          ∙ row_at a.identities.now a.source.now a.rows t.i c.requires.4 low,
    )

pub loop-cell-preserved : goal.loop-cell-preserved
loop-cell-preserved c =
    let a = c.args in
    let s = c.in-Some.ensures.steps in
    let t = c.loop-cell.invariant in
    let ids = a.identities.now in
    let source = a.source.now in
    let cell = c.in-Some.cell.now in
    let low = left_some source _ a.rows _ t.i t.cells cell _ s.1.0 s.1.1 in
    let is = left_cell source _ a.rows _ t.i t.cells cell _ s.1.0 s.1.1 in
    let rest = kept_from ids source (t.i + 1) (a.rows - (t.i + 1)) in
    let front = take (cell_length * c.loop-cell.at) c.loop-cell.pending in
    let w = c.push_cell-at.ensures in
    record {
      i = t.i + 1;
      cells = left_next source _ a.rows _ t.i t.cells cell _ s.1.0 s.1.1 _ s.0;
      few = omega (arith, w.few, t.few);
      long = c.push_cell-at.auto.pending ∙ t.long;
      rest = ap (λ (l : List ℕ). l ++ rest) (w.are ∙ ap (λ (l : List ℕ). front ++ kept_cell ids l) is)
          ∙ append_assoc front (kept_cell ids (block_cell t.i source)) rest
          ∙ ap (λ (l : List ℕ). front ++ l) (sym (kept-turn ids source a.rows t.i low))
          ∙ t.rest;
    }

pub returns : goal.returns
returns c =
    let a = c.args in
    let t = c.loop-cell.invariant in
    let end = left_none a.source.now _ a.rows _ t.i t.cells c.in-None.ensures.steps.1.0 in
    let front = take (cell_length * c.loop-cell.at) c.loop-cell.pending in
    record {
      few = omega (arith, t.few, t.cells.bounded);
      are = sym (append-nil front) ∙ ap (λ (l : List ℕ). front ++ l)
          (sym (kept_end a.identities.now a.source.now a.rows t.i end))
          ∙ t.rest;
    }

pub shape_of-pending : goal.shape_of-pending
shape_of-pending c = omega (arith, c.loop-cell.invariant.long, c.requires.0)
