-- `history_replay::calls::sent_for` meets its contract: only KEPT is ever repeated.
use borrow.Author.Tests.{ne_eqb}
use Rattle.history_replay.proofs.calls.sent_for.Goals as goal

pub returns-then-answer-ne0 : goal.returns-then-answer-ne0
returns-then-answer-ne0 c = rw (ne_eqb _ 0 c.if-answer-ne0.true) c.empty.ensures

pub returns : goal.returns
returns c = rw c.if-answer-ne0.false c.repeated.ensures
