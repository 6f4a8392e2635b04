-- The goals that a search does not find.
use mathlib.Core.Path.{◌≡◌, refl}
use Prim.Native.Nat.{ℕ, ◌≤◌}
use native.Mathlib.Omega.{arith}
use borrow.Author.Rules.{rules}
use lib.ListN.{length-set}
use Rattle.text_lines.proofs.Pairs.{left_all, left_next, both_digits, decoded_all, decoded_front}
use Rattle.text_lines.proofs.decode_pairs.Goals.{Else-high-low}
use Rattle.text_lines.proofs.decode_pairs.Goals as goal

pub loop-i-init : goal.loop-i-init
loop-i-init c = record { pairs = search rules; long = refl; rest = left_all _ }

-- the values of a pair, where both are of digits
module _ (c : Else-high-low) where
  abbrev high : ℕ
  high = c.nibble-high.result

  abbrev low : ℕ
  low = c.nibble-low.result

  digits : (high ≤ 15) × (low ≤ 15)
  digits = both_digits high low c.if-high-low.false

pub overflow_mul-bytes : goal.overflow_mul-bytes
overflow_mul-bytes c = let d = digits (goal.at.overflow_mul-bytes c).Else-high-low in search rules

pub overflow_add-bytes : goal.overflow_add-bytes
overflow_add-bytes c = let d = digits (goal.at.overflow_add-bytes c).Else-high-low in search rules

pub loop-i-preserved : goal.loop-i-preserved
loop-i-preserved c =
    let inv = c.loop-i.invariant in
    record {
      pairs = inv.pairs;
      long = simp length-set inv.long;
      rest =
          left_next inv.rest (omega arith) (omega arith)
          c.nibble-high.ensures c.nibble-low.ensures
          c.if-high-low.false;
    }

pub returns : goal.returns
returns c =
    let l = c.loop-i in
    let all : c.min-limit.result ≡ l.i = omega arith in
    rw all (decoded_all l.invariant.rest (omega (arith, l.invariant.pairs)))

pub returns-then-high-low : goal.returns-then-high-low
returns-then-high-low c =
    let l = c.loop-i in
    decoded_front l.invariant.rest (omega arith) (omega arith)
    c.nibble-high.ensures c.nibble-low.ensures c.if-high-low.true
