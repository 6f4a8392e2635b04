-- `archive_repack::push_cell` meets its contract: the cell is left out, or copied behind those that wait.
use mathlib.Core.Path.{◌≡◌, sym, ap, ◌∙◌}
use mathlib.Core.Bool.{Bool, true, false, cond}
use mathlib.Core.List.{List, [], ◌++◌, append-nil}
use Prim.Native.Nat.{ℕ, ◌+◌, ◌-◌, ◌*◌}
use native.Mathlib.Omega.{arith}
use lib.Dec.{eqb}
use lib.ListN.{take}
use Rattle.base_lists.specs.Lists.{any}
use Rattle.block_layout.specs.Cell.{cell_length}
use Rattle.base_buffers.proofs.Segments.{Writing, packed, begin, begun_length, skip, named, lend, so_far}
use Rattle.archive_repack.specs.Private.{kept_cell}
use Rattle.archive_repack.proofs.Cells.{cell_listed}
use Rattle.archive_repack.proofs.push_cell.Lts as lts
use Rattle.archive_repack.proofs.push_cell.Reads as reads
use Rattle.archive_repack.proofs.push_cell.Tie as tie
use Rattle.archive_repack.proofs.push_cell.Goals as goal

-- states on the way
abbrev After-is_listed : Type 0
After-is_listed = lts.After-is_listed tie.the-claims reads.Pre reads.Post tie.handed_clauses

abbrev After-copy : Type 0
After-copy = lts.After-copy_from_slice tie.the-claims reads.Pre reads.Post tie.handed_clauses

told : (c : After-is_listed) (b : Bool) → c.is_listed.result ≡ b
    → kept_cell c.args.identities.now c.args.cell.now
    ≡ cond b [] c.args.cell.now
told c b e =
    let a = c.args in
    cell_listed a.identities.now a.cell.now b
    (ap (λ (x : ℕ). any (eqb x) a.identities.now) (sym c.identity_of.ensures)
    ∙ sym c.is_listed.ensures ∙ e)

pub returns-then-is_listed : goal.returns-then-is_listed
returns-then-is_listed c =
    let a = c.args in
    let front = take (cell_length * a.at) a.pending.now in
    record {
      few = omega arith;
      are = sym (append-nil front) ∙ ap (λ (l : List ℕ). front ++ l)
          (sym (told c.before.before true c.if-is_listed.true));
    }

abbrev begun : (c : After-copy) → Writing (cell_length * c.args.at + cell_length)
begun c =
    let a = c.args in
    let none : cell_length * a.at - 0 ≡ cell_length * a.at = omega arith in
    let start =
    named (skip (begin a.pending.now) (cell_length * a.at) (omega arith) (omega arith))
    (take (cell_length * a.at) a.pending.now)
    (ap (λ (n : ℕ). take n a.pending.now) none) in
    packed
    (lend start _ a.cell.now (cell_length * a.at + cell_length)
    c.copy_from_slice.ensures.after
    c.copy_from_slice.auto.self (omega arith) (omega arith))

pub returns : goal.returns
returns c =
    let c_back3 = c.before.before.before in
    let a = c.args in
    let more : cell_length * (a.at + 1) ≡ cell_length * a.at + cell_length = omega arith in
    record {
      few = omega arith;
      are = ap (λ (n : ℕ). take n (begun c.before.before.before).xs) more ∙ so_far (begun c.before.before.before).begun
          ∙ ap (λ (l : List ℕ). take (cell_length * a.at) a.pending.now ++ l)
          (sym (told c_back3.before.before.before false c.if-is_listed.false));
    }

pub slice_bounds-copy_from_slice-end : goal.slice_bounds-copy_from_slice-end
slice_bounds-copy_from_slice-end c = omega arith

pub shape_of-pending : goal.shape_of-pending
shape_of-pending c = begun_length (begun c.before.before.before).begun
