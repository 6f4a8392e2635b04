-- `archive_file::put_head` meets its contract: a step for each part that is lent and each byte that is stored.
use native.Mathlib.Omega.{arith}
use lib.ListN.{replicate}
use Rattle.block_layout.specs.BigEndian.{be}
use Rattle.base_buffers.proofs.Segments.{Writing, packed, begin, begun_length, within, store, lend_sized, done}
use Rattle.archive_file.proofs.put_head.Lts as lts
use Rattle.archive_file.proofs.put_head.Reads as reads
use Rattle.archive_file.proofs.put_head.Tie as tie
use Rattle.archive_file.proofs.put_head.Goals as goal

-- states on the way
abbrev After-put_number : Type 0
After-put_number = lts.After-put_number tie.the-claims reads.Pre reads.Post

abbrev After-clear : Type 0
After-clear = lts.After-clear tie.the-claims reads.Pre reads.Post

abbrev step1 : After-put_number → Writing 5
step1 c =
    let a = c.args in
    packed
    (store
    (lend_sized (begin a.out.now) _ (λ w. be w a.k) 4 c.put_number.ensures
    c.put_number.auto.out (omega arith) (omega arith))
    a.count
    (omega arith))

abbrev step2 : After-clear → Writing 24
step2 c =
    let c_back3 = c.before.before.before in
    packed (lend_sized (step1 c_back3.before).begun _ (λ w. replicate w 0) 24
    c.clear.ensures c.clear.auto.out (omega arith) (omega arith))

pub slice_bounds-clear-end : goal.slice_bounds-clear-end
slice_bounds-clear-end c = within (step1 c.before.before).begun 24 (omega arith)

pub shape_of-out : goal.shape_of-out
shape_of-out c = begun_length (step2 c.before.before.before).begun

pub returns : goal.returns
returns c = done (step2 c.before.before.before).begun (omega arith)
