-- `archive_cut::take_back` meets its contract: block `rows / 15` is cut, the blocks after it are cleared, the blocks before it stay.
use mathlib.Core.Path.{refl, ◌∙◌}
use Prim.Native.Nat.{ℕ, ◌+◌, ◌*◌, ◌/◌, ◌≤◌}
use native.Mathlib.Omega.{arith}
use lib.ListN.{length}
use Rattle.block_layout.specs.Block.{cells_per_block, block_length}
use Rattle.base_buffers.proofs.Segments.{part-ends, Writing, packed, begin, begun_length, within, lend, skip, wipe, done}
use Rattle.archive_model.proofs.Cursor.{rows_few}
use Rattle.archive_cut.proofs.Cutting.{cut_enough, cut_written}
use Rattle.archive_cut.proofs.take_back.Lts as lts
use Rattle.archive_cut.proofs.take_back.Reads as reads
use Rattle.archive_cut.proofs.take_back.Tie as tie
use Rattle.archive_cut.proofs.take_back.Goals as goal

-- states on the way
abbrev Start : Type 0
Start = lts.Start tie.the-claims reads.Pre reads.Post

abbrev After-shorten : Type 0
After-shorten = lts.After-shorten tie.the-claims reads.Pre reads.Post

abbrev After-clear : Type 0
After-clear = lts.After-clear tie.the-claims reads.Pre reads.Post

-- the position of the block
abbrev at : Start → ℕ
at s = block_length * (s.args.rows / cells_per_block)

inside : (s : Start) → at s + block_length ≤ length s.args.buffer.now
inside s = omega (arith, s.requires.1, rows_few s.args.buffer.now s.requires.0)

pub shorten-requires : goal.shorten-requires
shorten-requires c =
    let b = c.args.buffer.now in
    rw (part-ends (at c.before.before) block_length b) (cut_enough c.args.rows b c.requires.0 c.requires.1)

abbrev cut : (c : After-shorten) → Writing (at c.before.before.before + block_length)
cut c =
    packed
    (lend (skip (begin c.args.buffer.now) (at c.before.before.before) (omega arith)
    (omega (arith, inside c.before.before.before))) _ _
    (at c.before.before.before + block_length) c.shorten.ensures
    c.shorten.auto.block (omega arith) (inside c.before.before.before))

abbrev whole : (c : After-clear) → Writing (length c.args.buffer.now)
whole c =
    let c_back3 = c.before.before.before in
    let c_back6 = c_back3.before.before.before in
    packed (wipe (cut c_back3.before).begun _ (length c.args.buffer.now)
    c.clear.ensures c.clear.auto.out (inside c_back6.before) (omega arith))

pub returns : goal.returns
returns c =
    let c_back3 = c.before.before.before in
    let c_back6 = c_back3.before.before.before in
    let c_back9 = c_back6.before.before.before in
    done (whole c.before.before.before).begun refl
    ∙ cut_written c.args.rows c.args.buffer.now c.requires.0 c.requires.1 (at c_back9.before) refl
    (cut c_back6.before).begun.long

pub overflow_mul-at : goal.overflow_mul-at
overflow_mul-at c = omega (arith, inside c.before.before)

pub overflow_add-next : goal.overflow_add-next
overflow_add-next c = omega (arith, inside c.before.before)

pub slice_bounds-shorten-end : goal.slice_bounds-shorten-end
slice_bounds-shorten-end c = inside c.before.before

pub slice_bounds-clear-count : goal.slice_bounds-clear-count
slice_bounds-clear-count c =
    let c_back3 = c.before.before.before in
    inside c_back3.before.before.before

pub slice_bounds-clear-start : goal.slice_bounds-clear-start
slice_bounds-clear-start c =
    let c_back3 = c.before.before.before in
    inside c_back3.before.before.before

pub slice_bounds-clear-end : goal.slice_bounds-clear-end
slice_bounds-clear-end c = within (cut c.before.before.before).begun _ (omega arith)

pub shape_of-buffer : goal.shape_of-buffer
shape_of-buffer c = begun_length (whole c.before.before.before).begun
