-- `history_replay::writing::put_head` meets its contract: a step for each byte that is stored and each part that is lent.
use native.Mathlib.Omega.{arith}
use Rattle.block_layout.specs.BigEndian.{be}
use Rattle.base_buffers.proofs.Segments.{Writing, packed, begin, begun_length, within, store, lend_sized, done}
use Rattle.history_replay_model.specs.Record.{head_of}
use Rattle.history_replay.proofs.writing.put_head.Lts as lts
use Rattle.history_replay.proofs.writing.put_head.Reads as reads
use Rattle.history_replay.proofs.writing.put_head.Tie as tie
use Rattle.history_replay.proofs.writing.put_head.Goals as goal

-- states on the way
abbrev After-slice_known-1 : Type 0
After-slice_known-1 = lts.After-slice_known tie.the-claims reads.Pre reads.Post

abbrev After-put_number : Type 0
After-put_number = lts.After-put_number tie.the-claims reads.Pre reads.Post

abbrev After-put_number-2 : Type 0
After-put_number-2 = lts.After-put_number2 tie.the-claims reads.Pre reads.Post

abbrev After-put_number-3 : Type 0
After-put_number-3 = lts.After-put_number3 tie.the-claims reads.Pre reads.Post

abbrev After-put_number-4 : Type 0
After-put_number-4 = lts.After-put_number4 tie.the-claims reads.Pre reads.Post

abbrev After-put_number-5 : Type 0
After-put_number-5 = lts.After-put_number5 tie.the-claims reads.Pre reads.Post

abbrev After-put_number-6 : Type 0
After-put_number-6 = lts.After-put_number6 tie.the-claims reads.Pre reads.Post

-- what is written, after each step
abbrev step0 : After-slice_known-1 → Writing 2
step0 c =
    let a = c.args in
    packed (store (store (begin a.out.now) a.operation (omega arith)) a.number (omega arith))

abbrev step1 : After-put_number → Writing 10
step1 c =
    packed (lend_sized (step0 c.before.before).begun _ (λ w. be w c.args.t.received) 10
    c.put_number.ensures c.put_number.auto.out (omega arith) (omega arith))

abbrev step2 : After-put_number-2 → Writing 18
step2 c =
    let c_back3 = c.before.before.before in
    packed (lend_sized (step1 c_back3.before).begun _ (λ w. be w c.args.t.kept) 18
    c.put_number-2.ensures c.put_number-2.auto.out (omega arith) (omega arith))

abbrev step3 : After-put_number-3 → Writing 26
step3 c =
    let c_back3 = c.before.before.before in
    packed (lend_sized (step2 c_back3.before).begun _ (λ w. be w c.args.t.copies) 26
    c.put_number-3.ensures c.put_number-3.auto.out (omega arith) (omega arith))

abbrev step4 : After-put_number-4 → Writing 34
step4 c =
    let c_back3 = c.before.before.before in
    packed (lend_sized (step3 c_back3.before).begun _ (λ w. be w c.args.t.loose) 34
    c.put_number-4.ensures c.put_number-4.auto.out (omega arith) (omega arith))

abbrev step5 : After-put_number-5 → Writing 42
step5 c =
    let c_back3 = c.before.before.before in
    packed (lend_sized (step4 c_back3.before).begun _ (λ w. be w c.args.t.damaged) 42
    c.put_number-5.ensures c.put_number-5.auto.out (omega arith) (omega arith))

abbrev step6 : After-put_number-6 → Writing 50
step6 c =
    let c_back3 = c.before.before.before in
    packed (lend_sized (step5 c_back3.before).begun _ (λ w. be w c.args.t.late) 50
    c.put_number-6.ensures c.put_number-6.auto.out (omega arith) (omega arith))

pub returns : goal.returns
unfolding head_of
returns c = done (step6 c.before.before.before).begun (omega arith)

pub slice_bounds-put_number-end : goal.slice_bounds-put_number-end
slice_bounds-put_number-end c = within (step0 c).begun 10 (omega arith)

pub slice_bounds-put_number-end-2 : goal.slice_bounds-put_number-end-2
slice_bounds-put_number-end-2 c = within (step1 c.before.before.before).begun 18 (omega arith)

pub slice_bounds-put_number-end-3 : goal.slice_bounds-put_number-end-3
slice_bounds-put_number-end-3 c = within (step2 c.before.before.before).begun 26 (omega arith)

pub slice_bounds-put_number-end-4 : goal.slice_bounds-put_number-end-4
slice_bounds-put_number-end-4 c = within (step3 c.before.before.before).begun 34 (omega arith)

pub slice_bounds-put_number-end-5 : goal.slice_bounds-put_number-end-5
slice_bounds-put_number-end-5 c = within (step4 c.before.before.before).begun 42 (omega arith)

pub slice_bounds-put_number-end-6 : goal.slice_bounds-put_number-end-6
slice_bounds-put_number-end-6 c = within (step5 c.before.before.before).begun 50 (omega arith)

pub shape_of-out : goal.shape_of-out
shape_of-out c = begun_length (step6 c.before.before.before).begun
