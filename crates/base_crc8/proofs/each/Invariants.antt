-- `base_crc8::each` meets its contract. The loop's invariant: going on from `crc` with the bytes that are left gives
-- the CRC of all.
use Rattle.std.proofs.Common.{◌≡◌, drop}
use Rattle.base_crc8.specs.Crc8.{crc_from, crc_of}
use Rattle.base_crc8.proofs.each.Given as goal

abbrev pub invariant-loop-b : goal.invariant-loop-b
invariant-loop-b l = crc_from l.crc (drop l.b-index l.bytes) ≡ crc_of l.bytes
