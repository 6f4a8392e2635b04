-- The goals that a search does not find.
use mathlib.Core.Path.{refl}
use Prim.Native.Nat.{◌+◌, ◌/◌, ◌%◌}
use native.Mathlib.Omega.{arith}
use borrow.Author.Rules.{rules}
use lib.ListN.{get_or, length-set}
use Rattle.text_rows.specs.Text.{hex_digit_of}
use Rattle.text_rows.proofs.Pasted.{high_next, low_next}
use Rattle.text_rows.proofs.digits_of.Goals as goal

pub loop-k-init : goal.loop-k-init
loop-k-init c =
    record { few = search rules; long = refl; high = λ j h. absurd (omega arith); low = λ j h. absurd (omega arith) }

pub hex_digit-requires : goal.hex_digit-requires
hex_digit-requires c =
    omega (arith, c.type_inv.s (c.args.from + c.loop-k.k))

pub loop-k-preserved : goal.loop-k-preserved
loop-k-preserved c =
    let a = c.args in
    let l = c.loop-k in
    let s = a.s.now in
    record {
      few = omega arith;
      long = simp length-set l.invariant.long;
      high =
          high_next (λ j. hex_digit_of (get_or s (a.from + j) 0 / 16)) l.d l.k _ _
          (omega arith) l.invariant.high c.hex_digit.ensures;
      low =
          low_next (λ j. hex_digit_of (get_or s (a.from + j) 0 % 16)) l.d
          l.k _ _ (omega arith) l.invariant.low c.hex_digit-in-loop-k.ensures;
    }

pub returns : goal.returns
returns c =
    let i = c.loop-k.invariant in
    record { long = i.long; high = λ k h. i.high k (omega arith); low = λ k h. i.low k (omega arith) }
