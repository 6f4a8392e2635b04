-- `archive_repack::put_block` meets its contract: a step for each part that is lent and each byte that is stored.
use mathlib.Core.Path.{◌∙◌}
use mathlib.Core.List.{List}
use Prim.Native.Nat.{ℕ, ◌+◌, ◌/◌}
use native.Mathlib.Omega.{arith}
use lib.ListN.{length, replicate}
use Rattle.block_layout.specs.BigEndian.{be}
use Rattle.block_layout.specs.Cell.{cell_length}
use Rattle.block_layout.specs.Block.{header_length, body_length}
use Rattle.base_buffers.proofs.Segments.{Writing, packed, begin, begun_length, within, store, lend, lend_sized, wipe}
use Rattle.block_layout.proofs.Block.{seal_front}
use Rattle.archive_repack_model.specs.Packer.{cells_block}
use Rattle.archive_repack.proofs.put_block.Lts as lts
use Rattle.archive_repack.proofs.put_block.Reads as reads
use Rattle.archive_repack.proofs.put_block.Tie as tie
use Rattle.archive_repack.proofs.put_block.Goals as goal

-- states on the way
abbrev After-put_number : Type 0
After-put_number = lts.After-put_number tie.the-claims reads.Pre reads.Post tie.handed_clauses

abbrev After-clear : Type 0
After-clear = lts.After-clear tie.the-claims reads.Pre reads.Post tie.handed_clauses

abbrev After-copy : Type 0
After-copy = lts.After-copy_from_slice tie.the-claims reads.Pre reads.Post tie.handed_clauses

abbrev After-clear-2 : Type 0
After-clear-2 = lts.After-clear2 tie.the-claims reads.Pre reads.Post tie.handed_clauses

abbrev numbered : After-put_number → Writing 5
numbered c =
    let a = c.args in
    packed
    (store
    (lend_sized (begin a.out.now) _ (λ w. be w a.k) 4 c.put_number.ensures
    c.put_number.auto.out (omega arith) (omega arith))
    (length a.cells.now / cell_length)
    (omega arith))

abbrev headed : After-clear → Writing header_length
headed c =
    let c_back3 = c.before.before.before in
    packed (lend_sized (numbered c_back3.before).begun _
    (λ w. replicate w 0) header_length c.clear.ensures
    c.clear.auto.out (omega arith) (omega arith))

abbrev cells_of : After-copy → List ℕ
cells_of c = c.args.cells.now

abbrev filled : (c : After-copy) → Writing (header_length + length (cells_of c))
filled c =
    let c_back3 = c.before.before.before in
    let h = (headed c_back3.before).begun in
    let n = length (cells_of c) in
    packed
    (lend h _ (cells_of c) (header_length + n)
    c.copy_from_slice.ensures.after
    c.copy_from_slice.auto.self (omega arith) (omega arith))

abbrev whole : After-clear-2 → Writing body_length
whole c =
    let c_back3 = c.before.before.before in
    packed (wipe (filled c_back3.before).begun _ body_length
    c.clear-2.ensures c.clear-2.auto.out (omega arith)
    (omega arith))

pub returns : goal.returns
unfolding cells_block
returns c =
    let c_back3 = c.before.before.before in
    let c_back6 = c_back3.before.before.before in
    c.seal.ensures ∙ seal_front _ (whole c_back6.before).begun
    c.requires.0

pub slice_bounds-clear-end : goal.slice_bounds-clear-end
slice_bounds-clear-end c = within (numbered c.before.before.before).begun header_length (omega arith)

pub slice_bounds-copy_from_slice-end : goal.slice_bounds-copy_from_slice-end
slice_bounds-copy_from_slice-end c = within (headed c.before.before.before).begun _ (omega arith)

pub slice_bounds-clear-end-2 : goal.slice_bounds-clear-end-2
slice_bounds-clear-end-2 c = within (filled c.before.before.before).begun body_length (omega arith)

pub shape_of-out : goal.shape_of-out
shape_of-out c =
    let c_back3 = c.before.before.before in
    let c_back6 = c_back3.before.before.before in
    c.seal.auto.block ∙ begun_length (whole c_back6.before).begun
