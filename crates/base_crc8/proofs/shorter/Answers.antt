-- `base_crc8::shorter` meets its contract.
use mathlib.Core.Path.{refl}
use Rattle.base_crc8.specs.Words.{shorter_of}
use Rattle.base_crc8.proofs.shorter.Goals as goal

pub returns : goal.returns
unfolding shorter_of
returns c = refl
