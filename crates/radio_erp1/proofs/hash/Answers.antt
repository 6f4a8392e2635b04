-- `radio_erp1::hash` meets its contract: of no bytes STATUS reads 0, so the sum is asked, which is 0.
use Rattle.std.proofs.Common.{◌∙◌, eqb-true}
use borrow.Author.Tests.{eqb-false}
use Rattle.radio_erp1.proofs.Checks.{hash_crc, hash_sum, hash_none}
use Rattle.radio_erp1.proofs.hash.Goals as goal

pub returns-then-status : goal.returns-then-status
returns-then-status c =
    c.crc8.ensures ∙ hash_crc _ (eqb-true _ _ (rw c.split-status.ensures at c.if-status.true))

pub returns : goal.returns
returns c =
    c.sum.ensures ∙ hash_sum _ (eqb-false _ _ (rw c.split-status.ensures at c.if-status.false))

pub returns-then-body-eq0 : goal.returns-then-body-eq0
returns-then-body-eq0 c = hash_none _ c.if-body-eq0.true
