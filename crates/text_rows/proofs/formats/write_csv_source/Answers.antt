-- `text_rows::formats::write_csv_source` meets its contract: where it is known, and where it is not.
use native.Mathlib.Omega.{arith}
use Rattle.text_rows.specs.Formats.{csv_source}
use Rattle.base_buffers.proofs.Stores.{loosened}
use Rattle.text_rows.proofs.formats.write_csv_source.Goals as goal

pub returns-in-Some : goal.returns-in-Some
unfolding csv_source
returns-in-Some c = rw c.in-Some.is (loosened c.write_source.ensures (omega arith))

pub returns-in-None : goal.returns-in-None
unfolding csv_source
returns-in-None c = rw c.in-None.is (loosened c.write.ensures (omega arith))
