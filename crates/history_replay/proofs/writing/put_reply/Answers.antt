-- `history_replay::writing::put_reply` meets its contract: a step for each byte that is stored and each part that is lent.
use native.Mathlib.Omega.{arith}
use Rattle.base_buffers.specs.Buffer.{resized}
use Rattle.block_layout.specs.BigEndian.{be}
use Rattle.base_buffers.proofs.Segments.{Writing, packed, begin, begun_length, within, store, lend_sized, done}
use Rattle.history_replay.proofs.writing.put_reply.Lts as lts
use Rattle.history_replay.proofs.writing.put_reply.Reads as reads
use Rattle.history_replay.proofs.writing.put_reply.Tie as tie
use Rattle.history_replay.proofs.writing.put_reply.Goals as goal

-- states on the way
abbrev After-slice_known-1 : Type 0
After-slice_known-1 = lts.After-slice_known tie.the-claims reads.Pre reads.Post

abbrev After-put_number : Type 0
After-put_number = lts.After-put_number tie.the-claims reads.Pre reads.Post

abbrev After-put_bytes : Type 0
After-put_bytes = lts.After-put_bytes tie.the-claims reads.Pre reads.Post

-- what is written, after each step
abbrev step0 : After-slice_known-1 → Writing 2
step0 c =
    let a = c.args in
    packed (store (store (begin a.out.now) a.form (omega arith)) a.number (omega arith))

abbrev step1 : After-put_number → Writing 10
step1 c =
    packed (lend_sized (step0 c.before.before.before).begun _ (λ w. be w c.args.sent.len) 10
    c.put_number.ensures c.put_number.auto.out
    (omega arith) (omega arith))

abbrev step2 : After-put_bytes → Writing 31
step2 c =
    let c_back3 = c.before.before.before in
    packed
    (lend_sized (step1 c_back3.before.before).begun _
    (λ w. resized w c.args.sent.bytes) 31 c.put_bytes.ensures
    c.put_bytes.auto.out
    (omega arith) (omega arith))

pub returns : goal.returns
returns c = done (step2 c.before.before.before).begun (omega arith)

pub slice_bounds-put_number-end : goal.slice_bounds-put_number-end
slice_bounds-put_number-end c = within (step0 c.before).begun 10 (omega arith)

pub slice_bounds-put_bytes-end : goal.slice_bounds-put_bytes-end
slice_bounds-put_bytes-end c = within (step1 c.before.before.before).begun 31 (omega arith)

pub shape_of-out : goal.shape_of-out
shape_of-out c = begun_length (step2 c.before.before.before).begun
