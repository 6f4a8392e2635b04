-- `text_lines::has_thirteen` meets its contract: two vectors of eight, from 0 and from 5 on, are thirteen characters.
use mathlib.Core.Path.{◌≡◌}
use mathlib.Core.Bool.{true, not, ◌&&◌}
use mathlib.Core.List.{List}
use Prim.Native.Nat.{ℕ, ◌+◌, ◌-◌, ◌<◌}
use native.Mathlib.Omega.{arith}
use native.Mathlib.Decide.{dec_lt}
use borrow.Author.Rules.{rules}
use borrow.Author.Tests.{not-true, eqb-true, eqb-false}
use lib.Dec.{eqb}
use lib.ListN.{length, get_or, take, drop, length-drop}
use lib.Seq.{get_or-take, get_or-drop, length-take-le}
use Rattle.base_lists.proofs.Choice.{both}
use Rattle.text_lines.specs.Decimal.{is_digit}
use Rattle.text_lines.proofs.has_thirteen.Goals as goal

-- the first eight, and eight from 5 on, are the first thirteen
both_parts : (t : List ℕ) → 13 < length t
    → ((k : ℕ) → k < length (take 8 t) → is_digit (get_or (take 8 t) k 0) ≡ true)
    → ((k : ℕ) → k < length (take 8 (drop 5 t)) → is_digit (get_or (take 8 (drop 5 t)) k 0) ≡ true)
    → (k : ℕ) → k < 13 → is_digit (get_or t k 0) ≡ true
both_parts t long front back k h =
    let first : length (take 8 t) ≡ 8 = length-take-le 8 t (omega arith) in
    let last : length (take 8 (drop 5 t)) ≡ 8 = length-take-le 8 (drop 5 t) (simp length-drop (omega arith)) in
    elim (dec_lt k 8) [
      | yes l ↦ (rw (get_or-take 8 t k 0 l) at (front k (omega arith)))
      | no l ↦
          (let s : 5 + (k - 5) ≡ k = omega arith in
          rw (get_or-take 8 (drop 5 t) (k - 5) 0 (omega arith), get_or-drop 5 t (k - 5) 0, s) at
          (back (k - 5) (omega arith)))
    ]

pub returns : goal.returns
returns c = λ e.
    let t = c.args.text.now in
    let front = c.are_digits in
    let back = c.are_digits-2 in
    let w = both (front.result && back.result) (not (eqb (get_or t 0 0) 48) && eqb (get_or t 13 0) 32) e in
    let u = both front.result back.result w.0 in
    let v = both (not (eqb (get_or t 0 0) 48)) (eqb (get_or t 13 0) 32) w.1 in
    record {
      long = search rules;
      digits = both_parts t (search rules) (front.ensures u.0) (back.ensures u.1);
      some = eqb-false (get_or t 0 0) 48 (not-true (eqb (get_or t 0 0) 48) v.0);
      ends = eqb-true (get_or t 13 0) 32 v.1;
    }
