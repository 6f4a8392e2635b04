-- `text_rows::formats::write_json_source` meets its contract: where it is known, and where it is not.
use mathlib.Core.Path.{refl}
use native.Mathlib.Omega.{arith}
use Rattle.text_rows.specs.Formats.{json_source}
use Rattle.base_buffers.proofs.Stores.{loosened}
use Rattle.text_rows.proofs.formats.write_json_source.Goals as goal

pub returns-in-Some : goal.returns-in-Some
unfolding json_source
returns-in-Some c = rw c.in-Some.is (loosened c.write_source.ensures (omega arith))

pub returns-in-None : goal.returns-in-None
unfolding json_source
returns-in-None c = rw c.in-None.is (record { bytes = refl; next = omega arith; short = omega arith })
