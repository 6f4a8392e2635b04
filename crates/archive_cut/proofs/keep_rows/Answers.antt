-- `archive_cut::keep_rows` meets its contract: the count is stored, the part behind the rows cleared, and what is between stays.
use mathlib.Core.Path.{◌∙◌}
use Prim.Native.Nat.{ℕ, ◌+◌, ◌*◌}
use native.Mathlib.Omega.{arith}
use Rattle.block_layout.specs.Cell.{cell_length}
use Rattle.block_layout.specs.Block.{header_length, body_length}
use Rattle.base_buffers.proofs.Segments.{Writing, packed, begin, begun_length, within, store, skip, wipe}
use Rattle.block_layout.proofs.Block.{seal_front}
use Rattle.archive_cut.specs.Private.{kept_rows}
use Rattle.archive_cut.proofs.keep_rows.Lts as lts
use Rattle.archive_cut.proofs.keep_rows.Reads as reads
use Rattle.archive_cut.proofs.keep_rows.Tie as tie
use Rattle.archive_cut.proofs.keep_rows.Goals as goal

-- states on the way
abbrev Start : Type 0
Start = lts.Start tie.the-claims reads.Pre reads.Post

abbrev After-clear : Type 0
After-clear = lts.After-clear tie.the-claims reads.Pre reads.Post

-- where the rows end
abbrev end : Start → ℕ
end s = header_length + cell_length * s.args.rows

-- the count stored, and the rows as they were
abbrev counted : (s : Start) → Writing (end s)
counted s =
    packed
    (skip (store (skip (begin s.args.block.now) 4 (omega arith) (omega (arith, s.requires.0)))
    s.args.rows (omega (arith, s.requires.0)))
    (end s)
    (omega arith) (omega (arith, s.requires.0, s.requires.1)))

abbrev cleared : After-clear → Writing body_length
cleared c =
    packed
    (wipe (counted c.before.before.before).begun _ body_length c.clear.ensures c.clear.auto.out
    (omega (arith, c.requires.1)) (omega (arith, c.requires.0)))

pub returns : goal.returns
unfolding kept_rows
returns c =
    let c_back3 = c.before.before.before in
    let c_back6 = c_back3.before.before.before in
    c.seal.ensures ∙ seal_front _ (cleared c_back6.before).begun c.requires.0

pub slice_bounds-clear-end : goal.slice_bounds-clear-end
slice_bounds-clear-end c = within (counted c.before).begun body_length (omega (arith, c.requires.0))

pub shape_of-block : goal.shape_of-block
shape_of-block c =
    let c_back3 = c.before.before.before in
    let c_back6 = c_back3.before.before.before in
    c.seal.auto.block ∙ begun_length (cleared c_back6.before).begun
