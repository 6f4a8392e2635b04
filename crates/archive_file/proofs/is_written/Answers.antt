-- `archive_file::is_written` meets its contract: each return is one case of the test of a cell.
use mathlib.Core.Path.{◌≡◌, sym, ap, ◌∙◌}
use mathlib.Core.Bool.{Bool, true, false, not, ◌&&◌}
use Prim.Native.Nat.{ℕ, ◌+◌, ◌-◌, ◌≤◌}
use native.Mathlib.Omega.{arith}
use lib.Dec.{eqb}
use Rattle.base_buffers.specs.Buffer.{part}
use Rattle.block_layout.specs.Cell.{cell_used, cell_capacity, cell_last}
use Rattle.archive_model.specs.Row.{is_blank}
use Rattle.archive_file.proofs.Tested.{written-long, written_rest, written_last, written_row}
use Rattle.archive_file.proofs.is_written.Lts as lts
use Rattle.archive_file.proofs.is_written.Reads as reads
use Rattle.archive_file.proofs.is_written.Tie as tie
use Rattle.archive_file.proofs.is_written.Goals as goal

-- states on the way
abbrev Else-len-gt-CELL_CAPACITY : Type 0
Else-len-gt-CELL_CAPACITY = lts.Else1 tie.the-claims reads.Pre reads.Post

abbrev After-is_blank : Type 0
After-is_blank = lts.After-is_blank tie.the-claims reads.Pre reads.Post

abbrev After-cell_last-last : Type 0
After-cell_last-last = lts.After-cell_last tie.the-claims reads.Pre reads.Post

pub returns-then-len-gt-CELL_CAPACITY : goal.returns-then-len-gt-CELL_CAPACITY
returns-then-len-gt-CELL_CAPACITY c = written-long c.args.cell.now (omega (arith, c.cell_used-len.ensures))

-- the length fits
short : (c : Else-len-gt-CELL_CAPACITY) → cell_used c.args.cell.now ≤ cell_capacity
short c = omega (arith, c.cell_used-len.ensures)

-- what was told of the bytes behind it, and of the last two
blank_told : (c : After-is_blank) (b : Bool) → c.is_blank.result ≡ b
    → is_blank (part (9 + cell_used c.args.cell.now)
    (30 - (9 + cell_used c.args.cell.now))
    c.args.cell.now) ≡ b
blank_told c b e =
    let cell = c.args.cell.now in
    ap (λ (n : ℕ). is_blank (part (9 + n) (30 - (9 + n)) cell)) (sym c.cell_used-len.ensures)
    ∙ sym c.is_blank.ensures ∙ e

last_told : (c : After-cell_last-last) (b : Bool)
    → not (eqb c.cell_last-last.result 0) && not (eqb c.cell_last-last.result 256) ≡ b
    → not (eqb (cell_last c.args.cell.now) 0)
    && not (eqb (cell_last c.args.cell.now) 256) ≡ b
last_told c b e = ap (λ (n : ℕ). not (eqb n 0) && not (eqb n 256)) (sym c.cell_last-last.ensures) ∙ e

pub returns-then-not-is_blank : goal.returns-then-not-is_blank
returns-then-not-is_blank c =
    let c_back3 = c.before.before.before in
    written_rest c.args.cell.now c.requires (short c_back3.before)
    (blank_told c.before.before false c.if-not-is_blank.true)

pub returns-then-last : goal.returns-then-last
returns-then-last c =
    let c_back3 = c.before.before.before in
    written_last c.args.cell.now c.requires (short c_back3.before.before.before)
    (last_told c.before.before true c.if-last.true)

pub returns : goal.returns
returns c =
    let c_back3 = c.before.before.before in
    let c_back6 = c_back3.before.before.before in
    c.is_row.ensures
    ∙ written_row c.args.cell.now c.requires (short c_back6.before)
    (λ i. omega (arith, c.shared_slice_known-1.given i))
    (blank_told c_back3.before.before true c.if-not-is_blank.false)
    (last_told c.before.before.before false c.if-last.false)
