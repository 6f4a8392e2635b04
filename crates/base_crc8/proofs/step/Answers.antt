-- `base_crc8::step` meets its contract: the index is below 256, and the table passes the test of its rule.
use Rattle.std.proofs.Common.{arith}
use lib.Bits.{xor_lt}
use Rattle.base_lists.proofs.Table.{table_entry}
use Rattle.base_crc8.specs.Crc8.{remainder_of, step_of}
use Rattle.base_crc8.proofs.step.Goals as goal

pub bounds-table-from : goal.bounds-table-from
bounds-table-from c = omega (
  arith,
  xor_lt 8 c.args.crc c.args.byte c.ranges.crc.fits c.ranges.byte.fits,
  c.from.ensures,
)

pub returns : goal.returns
unfolding step_of
returns c =
    let below = xor_lt 8 c.args.crc c.args.byte c.ranges.crc.fits c.ranges.byte.fits in
    rw c.from.ensures (table_entry 256 remainder_of _ c.requires _ below)
