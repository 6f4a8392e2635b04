-- `radio_telegram::frame::Frame::append` meets its contract.
use native.Mathlib.Omega.{arith}
use borrow.Author.Rules.{rules}
use mathlib.Core.Path.{◌≡◌}
use lib.ListN.{length}
use Rattle.radio_telegram.proofs.Frames.{frame_append}
use Rattle.radio_telegram.proofs.frame.Frame.append.Goals as goal

pub slice_bounds-bytes-end : goal.slice_bounds-bytes-end
slice_bounds-bytes-end c =
    let h : length c.args.self.bytes ≡ 21 = search rules in
    omega arith

pub returns : goal.returns
returns c =
    frame_append _ _ _ _ c.requires c.copy-n.ensures.0 c.copy-n.ensures.1
