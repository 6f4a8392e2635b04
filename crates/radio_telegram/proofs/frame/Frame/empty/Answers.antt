-- `Frame::empty` meets its contract.
use mathlib.Core.Path.{refl}
use Rattle.radio_telegram.specs.Frame.{frame_of}
use Rattle.radio_telegram.proofs.frame.Frame.empty.Goals as goal

pub returns : goal.returns
unfolding frame_of
returns c = refl
