-- `history_log::park` meets its contract: nothing is to be written, or a checkpoint that is not refused.
use Rattle.c_collector.specs.State.{arrays_held, state_at}
use Rattle.history_log.proofs.Keeping.{parked_is}
use Rattle.history_log.proofs.park.Goals as goal

pub returns-then-not-write : goal.returns-then-not-write
returns-then-not-write c = rw c.if-not-write.true

pub returns : goal.returns
returns c =
    let a = c.args in
    let lent = arrays_held a.state in
    let w = c.if-not-write.false in
    rw w (parked_is (state_at lent) a.image.now (c.requires.1 w) c.requires.0 c.checkpoint.ensures)
