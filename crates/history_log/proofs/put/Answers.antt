-- `history_log::put` meets its contract: nothing is to be put, or the block of the next row is lent to `put_rows`.
use mathlib.Core.Path.{sym, ap}
use Prim.Native.Nat.{◌/◌, ◌^◌, ◌<◌}
use native.Mathlib.Omega.{arith}
use lib.ListN.{length}
use borrow.Author.Rules.{rules}
use Rattle.block_layout.specs.Block.{cells_per_block, block_length}
use Rattle.archive_model.specs.Append.{Appended}
use Rattle.history_log.proofs.Growing.{none_put, put_there}
use Rattle.history_log.proofs.put.Lts as lts
use Rattle.history_log.proofs.put.Reads as reads
use Rattle.history_log.proofs.put.Tie as tie
use Rattle.history_log.proofs.put.Goals as goal

-- states on the way
abbrev Else-times-eq0 : Type 0
Else-times-eq0 = lts.Else2 tie.the-claims reads.Pre reads.Post

abbrev Start : Type 0
Start = lts.Start tie.the-claims reads.Pre reads.Post

pub returns-then-not-write : goal.returns-then-not-write
returns-then-not-write c = rw c.if-not-write.true

pub returns-then-times-eq0 : goal.returns-then-times-eq0
returns-then-times-eq0 c =
    let a = c.args in
    rw c.if-not-write.false (sym
    (none_put a.archive.now a.n a.times.now a.rows.now c.if-times-eq0.true))

inside : (c : Else-times-eq0) → (let a = c.args in a.n / cells_per_block < length
    a.archive.now / block_length)
inside c =
    c.requires.1 c.if-not-write.false (omega (arith, c.if-times-eq0.false))

small : (s : Start) → length s.args.archive.now < 2 ^ 64
small s = search rules

pub returns : goal.returns
returns c =
    let a = c.args in
    rw c.if-not-write.false
    (put_there a.archive.now a.n a.times.now a.rows.now c.put_rows.new.block c.requires.0
    c.if-times-eq0.false
    (ap (λ (x : Appended). x.buffer) c.put_rows.ensures))

pub overflow_mul-at : goal.overflow_mul-at
overflow_mul-at c =
    let c_back3 = c.before.before.before in
    omega (arith, inside c.before, small c_back3.before.before.before)

pub overflow_add-end : goal.overflow_add-end
overflow_add-end c =
    let c_back3 = c.before.before.before in
    omega (arith, inside c.before, small c_back3.before.before.before)

pub slice_bounds-put_rows-end : goal.slice_bounds-put_rows-end
slice_bounds-put_rows-end c = omega (arith, inside c.before)
