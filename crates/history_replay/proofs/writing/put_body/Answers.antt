-- `history_replay::writing::put_body` meets its contract: a step for each part that is lent.
use native.Mathlib.Omega.{arith}
use Rattle.block_layout.specs.BigEndian.{be}
use Rattle.base_buffers.proofs.Segments.{Writing, packed, begin, lend, lend_sized, done}
use Rattle.history_replay_model.specs.Record.{head_of}
use Rattle.history_replay.proofs.writing.put_body.Lts as lts
use Rattle.history_replay.proofs.writing.put_body.Reads as reads
use Rattle.history_replay.proofs.writing.put_body.Tie as tie
use Rattle.history_replay.proofs.writing.put_body.Goals as goal

-- states on the way
abbrev After-put_head : Type 0
After-put_head = lts.After-put_head tie.the-claims reads.Pre reads.Post

abbrev After-put_number : Type 0
After-put_number = lts.After-put_number tie.the-claims reads.Pre reads.Post

-- what is written, after each step
abbrev step1 : After-put_head → Writing 50
step1 c =
    let a = c.args in
    packed
    (lend (begin a.out.now) _ (head_of a.operation a.number a.totals) 50
    c.put_head.ensures c.put_head.auto.out (omega arith)
    (omega arith))

abbrev step2 : After-put_number → Writing 58
step2 c =
    let c_back3 = c.before.before.before in
    packed
    (lend_sized (step1 c_back3.before).begun _ (λ w. be w c.args.count) 58
    c.put_number.ensures c.put_number.auto.out
    (omega arith) (omega arith))

pub returns : goal.returns
returns c = done (step2 c.before.before.before).begun (omega arith)
