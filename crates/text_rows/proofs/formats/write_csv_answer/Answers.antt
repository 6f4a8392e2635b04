-- `text_rows::formats::write_csv_answer` meets its contract: each arm writes its own word.
use native.Mathlib.Omega.{arith}
use Rattle.text_rows.specs.Formats.{csv_answer}
use Rattle.base_buffers.proofs.Stores.{loosened}
use Rattle.text_rows.proofs.formats.write_csv_answer.Goals as goal

pub returns-in-Kept : goal.returns-in-Kept
unfolding csv_answer
returns-in-Kept c =
    rw c.in-Kept.is (loosened c.write.ensures (omega arith))

pub returns-in-Copy : goal.returns-in-Copy
unfolding csv_answer
returns-in-Copy c =
    rw c.in-Copy.is (loosened c.write-in-Copy.ensures (omega arith))

pub returns-in-Loose : goal.returns-in-Loose
unfolding csv_answer
returns-in-Loose c =
    rw c.in-Loose.is (loosened c.write-in-Loose.ensures (omega arith))

pub returns-in-Refused : goal.returns-in-Refused
unfolding csv_answer
returns-in-Refused c =
    rw c.in-Refused.is (loosened c.write_count.ensures (omega arith))
