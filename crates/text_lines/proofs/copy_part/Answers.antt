-- The goals that a search does not find.
use mathlib.Core.Path.{refl, ◌∙◌}
use Prim.Native.Nat.{◌+◌, ◌<◌}
use native.Mathlib.Omega.{arith}
use borrow.Author.Rules.{rules}
use lib.ListN.{length, get_or, length-set}
use lib.Seq.{get_or-set_other}
use Rattle.text_lines.proofs.Fills.{filled_from}
use Rattle.text_lines.proofs.copy_part.Goals as goal

pub loop-k-init : goal.loop-k-init
loop-k-init c = record { few = search rules; long = refl; inside = λ j h. absurd (omega arith); outside = λ j h. refl }

pub loop-k-preserved : goal.loop-k-preserved
loop-k-preserved c =
    let a = c.args in
    let l = c.loop-k in
    let fits : a.to + l.k < length l.dst = omega arith in
    record {
      few = omega arith;
      long = simp length-set l.invariant.long;
      inside =
          filled_from (λ j. get_or a.src.now (a.from + j) 0) l.dst a.to l.k _ fits l.invariant.inside refl;
      outside =
          λ j h. get_or-set_other l.dst (a.to + l.k) j _ 0 (λ z. h (omega arith) (omega arith))
          ∙ l.invariant.outside j h;
    }

pub shape_of-dst : goal.shape_of-dst
shape_of-dst c = search rules

pub returns : goal.returns
returns c =
    let i = c.loop-k.invariant in
    record { long = i.long; inside = λ k h. i.inside k (omega arith); outside = i.outside }
