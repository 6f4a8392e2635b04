-- `block_layout::put_cell` meets its contract: a step for each part that is lent and each byte that is stored.
use mathlib.Core.Path.{◌≡◌, sym, ◌∙◌}
use mathlib.Core.List.{List, [], ◌∷◌, ◌++◌}
use Prim.Native.Nat.{ℕ, ◌≤◌}
use native.Mathlib.Omega.{arith}
use lib.ListN.{length}
use Rattle.base_buffers.specs.Buffer.{resized}
use Rattle.block_layout.specs.BigEndian.{be}
use Rattle.block_layout.specs.Cell.{cell_capacity, cell_of}
use Rattle.base_buffers.proofs.Segments.{Writing, packed, begin, begun_length, within, store, lend_sized, done}
use Rattle.base_buffers.proofs.Buffer.{resized-padded}
use Rattle.block_layout.proofs.Cell.{put-fits, put-long, put_other}
use Rattle.block_layout.proofs.put_cell.Lts as lts
use Rattle.block_layout.proofs.put_cell.Reads as reads
use Rattle.block_layout.proofs.put_cell.Tie as tie
use Rattle.block_layout.proofs.put_cell.Goals as goal

-- states on the way
abbrev After-put_number : Type 0
After-put_number = lts.After-put_number tie.the-claims reads.Pre reads.Post

abbrev After-put_bytes : Type 0
After-put_bytes = lts.After-put_bytes tie.the-claims reads.Pre reads.Post

abbrev After-put_number-2 : Type 0
After-put_number-2 = lts.After-put_number2 tie.the-claims reads.Pre reads.Post

pub returns-then-bytes-gt-CELL_CAPACITY : goal.returns-then-bytes-gt-CELL_CAPACITY
returns-then-bytes-gt-CELL_CAPACITY c =
    let a = c.args in
    sym (put-long a.time a.bytes.now a.last a.out.now c.if-bytes-gt-CELL_CAPACITY.true)

pub returns-then-out-ne-CELL_LENGTH : goal.returns-then-out-ne-CELL_LENGTH
returns-then-out-ne-CELL_LENGTH c =
    let a = c.args in
    sym (put_other a.time a.bytes.now a.last a.out.now c.if-bytes-gt-CELL_CAPACITY.false c.if-out-ne-CELL_LENGTH.true)

abbrev step1 : After-put_number → Writing 9
step1 c =
    let a = c.args in
    packed
    (store
    (lend_sized (begin a.out.now) _ (λ w. be w a.time) 8
    c.put_number.ensures c.put_number.auto.out (omega arith) (omega arith))
    (length a.bytes.now)
    (omega arith))

abbrev step2 : After-put_bytes → Writing 30
step2 c =
    let c_back3 = c.before.before.before in
    packed
    (lend_sized (step1 c_back3.before).begun _ (λ w. resized w c.args.bytes.now) 30
    c.put_bytes.ensures c.put_bytes.auto.out (omega arith) (omega arith))

abbrev step3 : After-put_number-2 → Writing 32
step3 c =
    let c_back3 = c.before.before.before in
    let a = c.args in
    packed (lend_sized (step2 c_back3.before.before).begun _ (λ w. be w c.from.result) 32
    c.put_number-2.ensures c.put_number-2.auto.out (omega arith) (omega arith))

cell_is : (time : ℕ) (bytes : List ℕ) (wide last : ℕ) → wide ≡ last → length bytes ≤ cell_capacity
    → be 8 time ++ (length bytes ∷ []) ++ resized 21 bytes ++ be 2 wide ≡ cell_of time bytes last
unfolding cell_of
cell_is time bytes wide last e h = rw (e, resized-padded 21 bytes h)

pub returns : goal.returns
returns c =
    let a = c.args in
    let fits = c.if-bytes-gt-CELL_CAPACITY.false in
    done (step3 c.before.before.before).begun (omega arith) ∙ cell_is a.time a.bytes.now _ a.last c.from.ensures fits
    ∙ sym (put-fits a.time a.bytes.now a.last a.out.now fits c.if-out-ne-CELL_LENGTH.false)

pub slice_bounds-put_bytes-end : goal.slice_bounds-put_bytes-end
slice_bounds-put_bytes-end c = within (step1 c.before.before.before).begun 30 (omega arith)

pub slice_bounds-put_number-end-2 : goal.slice_bounds-put_number-end-2
slice_bounds-put_number-end-2 c = within (step2 c.before.before.before).begun 32 (omega arith)

pub shape_of-out : goal.shape_of-out
shape_of-out c = begun_length (step3 c.before.before.before).begun
