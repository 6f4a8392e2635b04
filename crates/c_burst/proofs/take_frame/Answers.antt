-- `c_burst::take_frame` meets its contract: the bytes handed over are answered like the frame.
use Rattle.c_burst.proofs.Sent.{sent_few, answered}
use Rattle.c_burst.proofs.take_frame.Goals as goal

pub put_reply-requires : goal.put_reply-requires
put_reply-requires c =
    (c.requires.1, sent_few _ _ _ _ c.relay_kept-len.ensures)

pub returns-clause-answers : goal.returns-clause-answers
returns-clause-answers c =
    let k = c.admit-answer.ensures.admits in
    answered c.args.setting _ c.requires.2 c.args.frame.now c.requires.0
    c.args.time _ _ _ c.telegram_in-received.ensures _ k.outcome
    k.elements _ _ c.relay_kept-len.ensures _
    c.put_reply.ensures
