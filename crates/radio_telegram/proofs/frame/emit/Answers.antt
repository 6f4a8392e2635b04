-- `radio_telegram::frame::emit` meets its contract.
use native.Mathlib.Omega.{arith}
use borrow.Author.Rules.{rules}
use mathlib.Core.Path.{◌≡◌}
use lib.ListN.{length, length-take}
use Rattle.radio_telegram.proofs.Frames.{frame-len, frame-take, put-short, put_all}
use Rattle.radio_telegram.proofs.frame.emit.Goals as goal

pub returns-then-out-f : goal.returns-then-out-f
returns-then-out-f c xs e = put-short xs _ (omega (arith, frame-len _ xs e)) (omega (arith, frame-len _ xs e))

pub slice_bounds-copy-end : goal.slice_bounds-copy-end
slice_bounds-copy-end c =
    let h : length c.args.f.bytes ≡ 21 = search rules in
    simp length-take (omega arith)

pub returns : goal.returns
returns c xs e =
    let f = c.args.f in
    let h : length f.bytes ≡ 21 = search rules in
    put_all xs _ (omega (arith, frame-len _ xs e)) _ _ f.len (frame-take _ xs e)
    (simp length-take (omega arith)) (simp length-take (omega arith))
    c.copy.ensures.1

pub copy-requires : goal.copy-requires
copy-requires c = simp length-take (omega arith)
