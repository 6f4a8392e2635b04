-- The goals that a search does not find.
use mathlib.Core.Path.{refl}
use Prim.Native.Nat.{◌+◌, ◌*◌, ◌%◌}
use native.Mathlib.Omega.{arith}
use borrow.Author.Rules.{rules}
use lib.ListN.{get_or, length-set}
use Rattle.text_lines.proofs.Fills.{filled_next}
use Rattle.text_lines.proofs.joined.Goals as goal

pub loop-k-init : goal.loop-k-init
loop-k-init c = record { few = search rules; long = refl; values = λ j h. absurd (omega arith) }

pub loop-k-preserved : goal.loop-k-preserved
loop-k-preserved c =
    let l = c.loop-k in
    let v = c.args.v in
    record {
      few = omega arith;
      long = simp length-set l.invariant.long;
      values =
          filled_next (λ j. get_or v (2 * j) 0 % 16 * 16 + get_or v (2 * j + 1) 0 % 16)
          l.b l.k _ (omega arith) l.invariant.values refl;
    }

pub returns : goal.returns
returns c = (c.loop-k.invariant.long, λ k h. c.loop-k.invariant.values k (omega arith))
