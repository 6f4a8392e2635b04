-- `history_replay::writing::put_answered` meets its contract: a step for each part that is lent.
use native.Mathlib.Omega.{arith}
use Rattle.base_buffers.proofs.Segments.{Writing, packed, begin, lend, done}
use Rattle.history_replay_model.specs.Operation.{receiving}
use Rattle.history_replay_model.specs.Record.{head_of}
use Rattle.history_replay.proofs.writing.put_answered.Lts as lts
use Rattle.history_replay.proofs.writing.put_answered.Reads as reads
use Rattle.history_replay.proofs.writing.put_answered.Tie as tie
use Rattle.history_replay.proofs.writing.put_answered.Goals as goal

-- states on the way
abbrev After-put_head : Type 0
After-put_head = lts.After-put_head tie.the-claims reads.Pre reads.Post

abbrev After-put_reply : Type 0
After-put_reply = lts.After-put_reply tie.the-claims reads.Pre reads.Post

-- what is written, after each step
abbrev step1 : After-put_head → Writing 50
step1 c =
    let a = c.args in
    packed
    (lend (begin a.out.now) _ (head_of receiving a.number a.totals) 50
    c.put_head.ensures c.put_head.auto.out (omega arith) (omega arith))

abbrev step2 : After-put_reply → Writing 81
step2 c =
    let c_back3 = c.before.before.before in
    packed (lend (step1 c_back3.before).begun _ _ 81 c.put_reply.ensures c.put_reply.auto.out
    (omega arith) (omega arith))

pub returns : goal.returns
returns c = done (step2 c.before.before.before).begun (omega arith)
