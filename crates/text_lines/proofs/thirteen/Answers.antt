-- The goals that a search does not find.
use mathlib.Core.Path.{◌≡◌, refl, sym}
use mathlib.Core.List.{List}
use Prim.Native.Nat.{ℕ, ◌<◌, ◌≤◌}
use native.Mathlib.Omega.{arith}
use borrow.Author.Rules.{rules}
use lib.Dec.{lit<}
use lib.ListN.{get_or}
use Rattle.text_lines.specs.Decimal.{decimal_of}
use Rattle.text_lines.proofs.AtOnce.{digit-range, decimal_next, power_next, power_few}
use Rattle.text_lines.proofs.thirteen.Lts as lts
use Rattle.text_lines.proofs.thirteen.Reads as reads
use Rattle.text_lines.proofs.thirteen.Goals as goal

-- states on the way
abbrev In-loop-k : Type 0
In-loop-k = lts.In-loop reads.Pre reads.Post goal.the-invariant-loop-k goal.the-decreases-loop-k

pub loop-k-init : goal.loop-k-init
unfolding decimal_of
loop-k-init c = record { few = search rules; below = lit< tt; value = refl }

module _ (c : In-loop-k) where
  abbrev text : List ℕ
  text = c.args.text.now

  abbrev k : ℕ
  k = c.loop-k.k

  range : (48 ≤ get_or text k 0) × (get_or text k 0 < 58)
  range = digit-range (get_or text k 0) (c.requires.digits k (omega arith))

  small : c.loop-k.n < 1000000000000
  small = power_few c.loop-k.n k c.loop-k.invariant.below (omega arith)

pub overflow_mul-n : goal.overflow_mul-n
overflow_mul-n c = let s = small c.before in search rules

pub bounds-text-k : goal.bounds-text-k
bounds-text-k c = omega (arith, c.requires.long)

pub overflow_sub-n : goal.overflow_sub-n
overflow_sub-n c = (range c.before.before).0

pub overflow_cast-n : goal.overflow_cast-n
overflow_cast-n c = let r = range c.before.before in search rules

pub overflow_add-n : goal.overflow_add-n
overflow_add-n c = let r = range c.before.before in let s = small c.before.before in search rules

pub loop-k-preserved : goal.loop-k-preserved
loop-k-preserved c =
    let l = c.loop-k in
    let r = range c.before.before in
    record {
      few = omega arith;
      below = power_next l.n l.k _ l.invariant.below (omega arith);
      value =
          rw l.invariant.value
          (sym (decimal_next (text c.before.before) l.k (omega (arith, c.requires.long))));
    }

pub returns : goal.returns
returns c =
    let e : c.loop-k.k ≡ 13 = omega arith in
    rw e at c.loop-k.invariant.value
