-- `radio_telegram::frame::Frame::sealed` meets its contract.
use native.Mathlib.Omega.{arith}
use borrow.Author.Rules.{rules}
use Prim.Native.Nat.{ℕ}
use mathlib.Core.Path.{◌≡◌, ap, ◌∙◌}
use mathlib.Core.List.{[], ◌∷◌, ◌++◌}
use lib.ListN.{length, length-take}
use Rattle.radio_erp1.specs.Subtelegram.{hash_of}
use Rattle.radio_telegram.specs.Frame.{frame_of}
use Rattle.radio_telegram.proofs.Frames.{frame-take}
use Rattle.radio_telegram.proofs.frame.Frame.sealed.Goals as goal

pub slice_bounds-hash-end : goal.slice_bounds-hash-end
slice_bounds-hash-end c =
    let h : length c.args.self.bytes ≡ 21 = search rules in
    simp length-take (omega arith)

pub returns : goal.returns
returns c xs e =
    c.push.ensures.bytes xs e
    ∙ ap (λ (h : ℕ). frame_of (xs ++ (h ∷ []))) (c.hash.ensures ∙ ap hash_of (frame-take _ xs e))
