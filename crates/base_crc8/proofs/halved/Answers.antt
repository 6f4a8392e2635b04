-- `base_crc8::halved` meets its contract.
use mathlib.Core.Path.{refl}
use Rattle.base_crc8.specs.Words.{halved_of}
use Rattle.base_crc8.proofs.halved.Goals as goal

pub returns : goal.returns
unfolding halved_of
returns c = refl
