-- `base_crc8::remainder` meets its contract.
use mathlib.Core.Path.{refl}
use Rattle.base_crc8.specs.Words.{more_of, word_remainder}
use Rattle.base_crc8.proofs.remainder.Goals as goal

pub returns : goal.returns
unfolding word_remainder more_of
returns c =
    rw (
      c.shorter-e.ensures,
      c.shorter-d.ensures,
      c.shorter.ensures,
      c.halved-c.ensures,
      c.join-b.ensures,
    ) refl
