-- The table's test, which antt computes.
use Rattle.std.proofs.Common.{refl}
use Rattle.base_lists.specs.Lists.{is_table_of}
use Rattle.base_crc8.specs.Crc8.{remainder_of}
use Rattle.base_crc8.proofs.each.Goals as goal

pub step-crc-requires : goal.step-crc-requires
unfolding is_table_of remainder_of
step-crc-requires c = refl
