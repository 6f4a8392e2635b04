-- `text_rows::write_answer` meets its contract: each arm writes its own word.
use native.Mathlib.Omega.{arith}
use Rattle.text_rows.specs.Text.{answer_text}
use Rattle.base_buffers.proofs.Stores.{loosened, then}
use Rattle.text_rows.proofs.Words.{kept-alone, kept_sends}
use Rattle.text_rows.proofs.write_answer.Goals as goal

pub returns-then-sent-eq0 : goal.returns-then-sent-eq0
returns-then-sent-eq0 c =
    rw (c.in-Kept.is, kept-alone _ c.if-sent-eq0.true)
    (loosened c.write.ensures (omega arith))

pub returns-else-sent-eq0 : goal.returns-else-sent-eq0
returns-else-sent-eq0 c =
    rw (c.in-Kept.is, kept_sends _ c.if-sent-eq0.false)
    (loosened (then c.write-from.ensures c.write_hex.ensures) (omega arith))

pub returns-in-Copy : goal.returns-in-Copy
unfolding answer_text
returns-in-Copy c =
    rw c.in-Copy.is (loosened c.write-in-Copy.ensures (omega arith))

pub returns-in-Loose : goal.returns-in-Loose
unfolding answer_text
returns-in-Loose c =
    rw c.in-Loose.is (loosened c.write-in-Loose.ensures (omega arith))

pub returns-in-Refused : goal.returns-in-Refused
unfolding answer_text
returns-in-Refused c =
    rw c.in-Refused.is
    (loosened (then c.write-from-in-Refused.ensures c.write_decimal.ensures) (omega arith))
