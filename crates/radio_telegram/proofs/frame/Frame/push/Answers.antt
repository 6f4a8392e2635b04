-- `radio_telegram::frame::Frame::push` meets its contract.
use Rattle.radio_telegram.proofs.Frames.{frame_push}
use Rattle.radio_telegram.proofs.frame.Frame.push.Goals as goal

pub returns : goal.returns
returns c = frame_push _ _ c.requires
