-- `archive_file::are_written` meets its contract.
use mathlib.Core.Path.{◌≡◌, sym, ap, ◌∙◌}
use mathlib.Core.Bool.{Bool, true, false, ◌&&◌}
use mathlib.Core.List.{List, ◌++◌}
use Prim.Native.Nat.{ℕ, ◌+◌, ◌-◌}
use lib.ListN.{length}
use Rattle.base_lists.specs.Lists.{all}
use Rattle.archive_file.specs.Private.{is_written, cells_from}
use Rattle.archive_file.proofs.Cells.{left_first, left_none, left_some, left_cell, left_next}
use Rattle.archive_file.proofs.Tested.{cells_first, cells_next, cells_none}
use Rattle.archive_file.proofs.are_written.Invariants.{Testing}
use Rattle.archive_file.proofs.are_written.Goals as goal

pub loop-cell-init : goal.loop-cell-init
loop-cell-init c =
    record {
      i = 0;
      cells =
          left_first c.args.block.now _ c.args.used _ (cc) c.requires.1 c.requires.0 (cc);
      rest = cells_first _ _;
    }

pub is_written-requires : goal.is_written-requires
is_written-requires c = c.in-Some.ensures.steps.1.1 ∙ c.loop-cell.invariant.cells.sized

-- a cell and what is left after it decide
decide : (block all' cell rest : List ℕ) (used size : ℕ) (t : Testing block used size all') (e : all' ≡ cell ++ rest)
    (l : length cell ≡ size) (b : Bool) → is_written cell ≡ b
    → all is_written (cells_from block 0 used) ≡ b && all is_written (cells_from block (t.i + 1) (used - (t.i + 1)))
decide block all' cell rest used size t e l b told =
    sym t.rest ∙ cells_next block used t.i (left_some block all' used size t.i t.cells cell rest e l)
    ∙ ap (λ (b : Bool). b && all is_written (cells_from block (t.i + 1) (used - (t.i + 1))))
    (ap is_written (sym (left_cell block all' used size t.i t.cells cell rest e l)) ∙ told)

pub loop-cell-preserved : goal.loop-cell-preserved
loop-cell-preserved c =
    let s = c.in-Some.ensures.steps in
    let t = c.loop-cell.invariant in
    record {
      i = t.i + 1;
      cells = left_next c.args.block.now _ c.args.used _ t.i t.cells c.in-Some.cell.now _ s.1.0 s.1.1 _ s.0;
      rest =
          sym (decide c.args.block.now _ c.in-Some.cell.now _ c.args.used _ t s.1.0 s.1.1 true
          (sym c.is_written.ensures ∙ c.if-not-is_written.false));
    }

pub returns-then-not-is_written : goal.returns-then-not-is_written
returns-then-not-is_written c =
    let s = c.in-Some.ensures.steps in
    sym (decide c.args.block.now _ c.in-Some.cell.now _ c.args.used _ c.loop-cell.invariant s.1.0 s.1.1 false
    (sym c.is_written.ensures ∙ c.if-not-is_written.true))

pub returns : goal.returns
returns c =
    let t = c.loop-cell.invariant in
    sym (cells_none c.args.block.now c.args.used t.i
    (left_none c.args.block.now _ c.args.used _ t.i t.cells c.in-None.ensures.steps.1.0))
    ∙ t.rest
