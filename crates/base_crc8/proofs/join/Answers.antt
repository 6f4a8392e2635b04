-- `base_crc8::join` meets its contract.
use mathlib.Core.Path.{refl}
use Rattle.base_crc8.specs.Words.{join_words}
use Rattle.base_crc8.proofs.join.Goals as goal

pub returns : goal.returns
unfolding join_words
returns c = refl
