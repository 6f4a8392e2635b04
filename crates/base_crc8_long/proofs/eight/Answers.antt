-- `base_crc8_long::eight` meets its contract: each byte is looked up by itself, and the remainder is linear.
use Rattle.base_crc8_long.proofs.Several.{eight_is}
use Rattle.base_crc8_long.proofs.eight.Goals as goal

pub returns : goal.returns
returns c =
    rw (
      c.power-7.ensures,
      c.power-6.ensures,
      c.power-5.ensures,
      c.power-4.ensures,
      c.power-3.ensures,
      c.power-2.ensures,
      c.power.ensures,
      c.power-r7.ensures,
    )
    (eight_is c.args.crc c.args.b.now c.told-b)
