-- `text_rows::write_count` meets its contract: the name, and then the number.
use native.Mathlib.Omega.{arith}
use Rattle.base_buffers.proofs.Stores.{then}
use Rattle.text_rows.proofs.write_count.Goals as goal

pub returns : goal.returns
returns c = then c.write-from.ensures c.write_decimal.ensures

pub write-from-requires : goal.write-from-requires
write-from-requires c = omega arith

pub write_decimal-requires : goal.write_decimal-requires
write_decimal-requires c = omega arith
