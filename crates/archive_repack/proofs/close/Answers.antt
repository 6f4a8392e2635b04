-- `archive_repack::close` meets its contract: zeros alone, or the last block and zeros.
use mathlib.Core.Path.{◌≡◌, ap, ◌∙◌}
use Prim.Native.Nat.{ℕ, ◌+◌, ◌-◌, ◌*◌}
use native.Mathlib.Omega.{arith}
use lib.ListN.{take, replicate}
use Rattle.block_layout.specs.Cell.{cell_length}
use Rattle.block_layout.specs.Block.{block_length}
use Rattle.base_buffers.proofs.Segments.{Writing, packed, begun_length, within, lend, lend_sized}
use Rattle.archive_repack_model.specs.Packer.{cells_block}
use Rattle.archive_repack.proofs.Closing.{before, closed_none, closed_last}
use Rattle.archive_repack.proofs.close.Lts as lts
use Rattle.archive_repack.proofs.close.Reads as reads
use Rattle.archive_repack.proofs.close.Tie as tie
use Rattle.archive_repack.proofs.close.Goals as goal

-- states on the way
abbrev After-clear : Type 0
After-clear = lts.After-clear tie.the-claims reads.Pre reads.Post

abbrev After-put_block : Type 0
After-put_block = lts.After-put_block tie.the-claims reads.Pre reads.Post

abbrev After-clear-2 : Type 0
After-clear-2 = lts.After-clear2 tie.the-claims reads.Pre reads.Post

abbrev cleared : (c : After-clear) → Writing c.args.end
cleared c =
    let a = c.args in
    packed (lend_sized (before a.out.now (block_length * a.next) (omega arith)) _
    (λ n. replicate n 0) a.end c.clear.ensures
    c.clear.auto.out (omega arith) (omega arith))

pub returns-then-used-eq0 : goal.returns-then-used-eq0
returns-then-used-eq0 c =
    let a = c.args in
    closed_none a.next a.used a.pending.now c.requires.0 c.requires.1
    a.end a.out.now _ (omega arith) (cleared c.before.before.before).begun

abbrev put : (c : After-put_block)
    → Writing (block_length * c.args.next + block_length)
put c =
    let a = c.args in
    let z : cell_length * a.used - 0 ≡ cell_length * a.used = omega arith in
    packed
    (lend (before a.out.now (block_length * a.next) (omega arith)) _
    (cells_block a.next (take (cell_length * a.used) a.pending.now))
    (block_length * a.next + block_length)
    (c.put_block.ensures ∙ ap (λ (n : ℕ). cells_block a.next (take n a.pending.now)) z)
    c.put_block.auto.out (omega arith) (omega arith))

abbrev cleared2 : (c : After-clear-2) → Writing c.args.end
cleared2 c =
    let c_back3 = c.before.before.before in
    packed (lend_sized (put c_back3.before).begun _ (λ n. replicate n 0)
    c.args.end c.clear-2.ensures c.clear-2.auto.out
    (omega arith) (omega arith))

pub returns : goal.returns
returns c =
    let a = c.args in
    closed_last a.next a.used a.pending.now c.requires.0 c.requires.1
    a.end a.out.now _ (λ z. omega arith) (cleared2 c.before.before.before).begun

pub overflow_mul-at : goal.overflow_mul-at
overflow_mul-at c = omega arith

pub slice_bounds-clear-count : goal.slice_bounds-clear-count
slice_bounds-clear-count c = omega arith

pub slice_bounds-clear-start : goal.slice_bounds-clear-start
slice_bounds-clear-start c = omega arith

pub slice_bounds-clear-end : goal.slice_bounds-clear-end
slice_bounds-clear-end c = omega arith

pub shape_of-out-then-used-eq0 : goal.shape_of-out-then-used-eq0
shape_of-out-then-used-eq0 c = begun_length (cleared c.before.before.before).begun

pub overflow_add-at : goal.overflow_add-at
overflow_add-at c = omega arith

pub slice_bounds-put_block-count : goal.slice_bounds-put_block-count
slice_bounds-put_block-count c = omega arith

pub slice_bounds-put_block-start : goal.slice_bounds-put_block-start
slice_bounds-put_block-start c = omega arith

pub slice_bounds-put_block-end : goal.slice_bounds-put_block-end
slice_bounds-put_block-end c = omega arith

pub overflow_mul-used : goal.overflow_mul-used
overflow_mul-used c = omega arith

pub slice_bounds-put_block-count-2 : goal.slice_bounds-put_block-count-2
slice_bounds-put_block-count-2 c = omega arith

pub slice_bounds-put_block-start-2 : goal.slice_bounds-put_block-start-2
slice_bounds-put_block-start-2 c = omega arith

pub slice_bounds-put_block-end-2 : goal.slice_bounds-put_block-end-2
slice_bounds-put_block-end-2 c = omega arith

pub put_block-requires : goal.put_block-requires
put_block-requires c = (omega arith, omega arith)

pub overflow_add-at-2 : goal.overflow_add-at-2
overflow_add-at-2 c = omega arith

pub slice_bounds-clear-count-2 : goal.slice_bounds-clear-count-2
slice_bounds-clear-count-2 c = omega arith

pub slice_bounds-clear-start-2 : goal.slice_bounds-clear-start-2
slice_bounds-clear-start-2 c = omega arith

pub slice_bounds-clear-end-2 : goal.slice_bounds-clear-end-2
slice_bounds-clear-end-2 c = within (put c.before.before.before).begun _ (omega arith)

pub shape_of-out : goal.shape_of-out
shape_of-out c = begun_length (cleared2 c.before.before.before).begun
