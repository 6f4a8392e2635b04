-- The goals that a search does not find.
use mathlib.Core.Path.{refl}
use native.Mathlib.Omega.{arith}
use borrow.Author.Rules.{rules}
use lib.ListN.{get_or, length-set}
use Rattle.text_lines.specs.Hex.{nibble_of}
use Rattle.text_lines.proofs.Fills.{filled_next}
use Rattle.text_lines.proofs.nibbles.Goals as goal

pub loop-k-init : goal.loop-k-init
loop-k-init c = record { few = search rules; long = refl; values = λ j h. absurd (omega arith) }

pub loop-k-preserved : goal.loop-k-preserved
loop-k-preserved c =
    let l = c.loop-k in
    record {
      few = omega arith;
      long = simp length-set l.invariant.long;
      values =
          filled_next (λ j. nibble_of (get_or c.args.c j 0))
          l.v l.k _ (omega arith) l.invariant.values c.nibble.ensures;
    }

pub returns : goal.returns
returns c = (c.loop-k.invariant.long, λ k h. c.loop-k.invariant.values k (omega arith))
