-- `radio_erp1::status::join` meets its contract, a case for each selector.
use Rattle.radio_erp1.proofs.status.join.Goals as goal

pub returns-then-s : goal.returns-then-s
returns-then-s c = rw c.if-s.true

pub returns : goal.returns
returns c = rw c.if-s.false
