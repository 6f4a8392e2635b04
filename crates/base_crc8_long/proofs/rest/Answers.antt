-- The next byte is looked up by itself.
use Rattle.std.proofs.Common.{◌≡◌, ℕ, ◌<◌, ◌+◌, List, length, get_or, drop, drop-cons, add-one}
use lib.Bits.{bit_xor}
use Rattle.base_crc8.specs.Crc8.{step_of, crc_from}
use Rattle.base_crc8.specs.Words.{power_of}
use Rattle.base_crc8_long.proofs.rest.Goals as goal

crc_next : (bytes : List ℕ) (i crc : ℕ) → i < length bytes
    → crc_from crc (drop i bytes) ≡ crc_from (power_of 1 (bit_xor crc (get_or bytes i 0))) (drop (i + 1) bytes)
unfolding step_of power_of
crc_next bytes i crc h = rw (add-one, drop-cons bytes i 0)

pub loop-b-preserved : goal.loop-b-preserved
loop-b-preserved c =
    rw (c.power-crc.ensures, ← crc_next c.args.bytes.now c.loop-b.b-index c.loop-b.crc c.loop-b-test.true)
    c.loop-b.invariant
