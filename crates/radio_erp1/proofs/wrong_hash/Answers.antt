-- `radio_erp1::wrong_hash` meets its contract, a case for each selector.
use Rattle.radio_erp1.proofs.wrong_hash.Goals as goal

pub returns-then-parts : goal.returns-then-parts
returns-then-parts c = rw (rw c.split-parts.ensures at c.if-parts.true)

pub returns : goal.returns
returns c = rw (rw c.split-parts.ensures at c.if-parts.false)
