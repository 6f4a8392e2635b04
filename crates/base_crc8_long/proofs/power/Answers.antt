-- `base_crc8_long::power` meets its contract: the entry that is read is the one that the test speaks of.
use native.Mathlib.Numerals.{add-one}
use Rattle.base_crc8_long.proofs.Tables.{tables-entry}
use Rattle.base_crc8_long.proofs.power.Goals as goal

pub returns : goal.returns
returns c =
    rw (c.from.ensures, add-one)
    (tables-entry c.args.tables.now c.requires.0 c.args.j c.args.b c.requires.1 c.ranges.b.fits)
