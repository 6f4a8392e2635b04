-- `base_crc8_long::rest` meets its contract. The invariant: going on from `crc` with the bytes that are left gives the CRC of all.
use Rattle.std.proofs.Common.{◌≡◌, drop}
use Rattle.base_crc8.specs.Crc8.{crc_from}
use Rattle.base_crc8_long.proofs.rest.Given as goal

abbrev pub invariant-loop-b : goal.invariant-loop-b
invariant-loop-b l = crc_from l.crc (drop l.b-index l.bytes) ≡ crc_from l.start l.bytes
