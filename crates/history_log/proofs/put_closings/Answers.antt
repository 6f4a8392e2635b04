-- `history_log::put_closings` meets its contract: nothing is to be put, or the bytes are copied behind the
-- other closings.
use Prim.Native.Nat.{◌+◌, ◌*◌, ◌^◌, ◌≤◌, ◌<◌}
use native.Mathlib.Omega.{arith}
use lib.ListN.{length}
use borrow.Author.Rules.{rules}
use Rattle.block_layout.specs.Cell.{cell_length}
use Rattle.history_log.proofs.Growing.{closings_there}
use Rattle.history_log.proofs.put_closings.Lts as lts
use Rattle.history_log.proofs.put_closings.Reads as reads
use Rattle.history_log.proofs.put_closings.Tie as tie
use Rattle.history_log.proofs.put_closings.Goals as goal

-- states on the way
abbrev Else-not-write : Type 0
Else-not-write = lts.Else1 tie.the-claims reads.Pre reads.Post

abbrev Start : Type 0
Start = lts.Start tie.the-claims reads.Pre reads.Post

fits : (e : Else-not-write) → (let a = e.args in
    cell_length * a.m + length a.cells.now ≤ length a.heard.now)
fits e = e.requires e.if-not-write.false

small : (s : Start) → length s.args.heard.now < 2 ^ 64
small s = search rules

pub returns-then-not-write : goal.returns-then-not-write
returns-then-not-write c = rw c.if-not-write.true

pub returns : goal.returns
returns c =
    let c_back3 = c.before.before.before in
    let a = c.args in
    rw c.if-not-write.false
    (closings_there a.heard.now a.m a.cells.now _ (fits c_back3.before.before) c.copy.ensures.1)

pub overflow_mul-at : goal.overflow_mul-at
overflow_mul-at c =
    let c_back3 = c.before.before.before in
    omega (arith, fits c.before, small c_back3.before)

pub slice_bounds-copy-count : goal.slice_bounds-copy-count
slice_bounds-copy-count c = omega (arith, fits c.before)

pub slice_bounds-copy-start : goal.slice_bounds-copy-start
slice_bounds-copy-start c = omega (arith, fits c.before)

pub slice_bounds-copy-end : goal.slice_bounds-copy-end
slice_bounds-copy-end c = omega (arith, fits c.before)

pub copy-requires : goal.copy-requires
copy-requires c = omega (arith, fits c.before.before)
