-- `base_crc8::folded` meets its contract.
use mathlib.Core.Path.{refl}
use Rattle.base_crc8.specs.Words.{folded_of}
use Rattle.base_crc8.proofs.folded.Goals as goal

pub returns : goal.returns
unfolding folded_of
returns c = rw (c.join.ensures, c.join-b.ensures, c.join-a.ensures) refl
