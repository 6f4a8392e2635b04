-- `base_crc8_long::crc8_long` meets its contract: the tables pass their test, which antt computes.
use mathlib.Core.Path.{refl}
use Rattle.base_lists.specs.Lists.{up_from}
use Rattle.base_crc8.specs.Crc8.{remainder_of}
use Rattle.base_crc8_long.specs.Tables.{is_tables}
use Rattle.base_crc8_long.proofs.crc8_long.Goals as goal

pub by_eight-requires : goal.by_eight-requires
unfolding is_tables up_from remainder_of
by_eight-requires c = refl
