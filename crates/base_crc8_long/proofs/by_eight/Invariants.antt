-- `base_crc8_long::by_eight` meets its contract. The invariant: going on from `crc` with the bytes that are left gives
-- the CRC of all; the measure: how many are left.
use Rattle.std.proofs.Common.{◌≡◌, length}
use Rattle.base_crc8.specs.Crc8.{crc_from, crc_of}
use Rattle.base_crc8_long.proofs.by_eight.Given as goal

abbrev pub invariant-loop-first : goal.invariant-loop-first
invariant-loop-first l = crc_from l.crc l.left ≡ crc_of l.bytes

abbrev pub decreases-loop-first : goal.decreases-loop-first
decreases-loop-first l = length l.left
