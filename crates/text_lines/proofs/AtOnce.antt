-- Laws of thirteen digits that are read at once.
use Rattle.std.specs.Prelude.{Some}
use mathlib.Core.Path.{◌≡◌, sym, ◌∙◌}
use mathlib.Core.Bool.{true}
use mathlib.Core.List.{List, [], ◌∷◌, ◌++◌}
use Prim.Native.Nat.{ℕ, suc, ◌+◌, ◌-◌, ◌*◌, ◌^◌, ◌<◌, ◌≤◌}
use native.Mathlib.Omega.{arith}
use native.Mathlib.Nat.{mul_assoc, mul_comm, mul-one, pow-succ', pow-le-pow_right, mul-le-mul_right}
use native.Mathlib.Numerals.{add-one}
use lib.Dec.{lit<, leb, ltb}
use lib.ListN.{length, get_or, take, drop, length-append}
use lib.Seq.{take-suc, get_or-take, length-take-le, split_at}
use borrow.Author.Tests.{leb-true, ltb-true, lt-ltb, ne_eqb}
use Rattle.base_lists.specs.Lists.{all}
use Rattle.base_lists.proofs.Choice.{both}
use Rattle.text_lines.specs.Ascii.{space, digit0}
use Rattle.text_lines.specs.Decimal.{is_digit, decimal_of, is_number, is_time, timed_of}
use Rattle.text_lines.specs.Private.{Thirteen}
use Rattle.text_lines.proofs.Digits.{all_places, leading_zero}
use Rattle.text_lines.proofs.Times.{timed-joined}

pub digit-range : (c : ℕ) → is_digit c ≡ true → (48 ≤ c) × (c < 58)
digit-range c e =
    let w = both (leb 48 c) (ltb c 58) e in
    (leb-true 48 c w.0, ltb-true c 58 w.1)

-- one digit more, behind the others
decimal_last : (s : List ℕ) (c : ℕ) → decimal_of (s ++ (c ∷ [])) ≡ decimal_of s * 10 + (c - digit0)
unfolding decimal_of
decimal_last [] c = omega (arith, mul-one (c - digit0))
decimal_last (d ∷ s) c =
    let a = d - digit0 in
    let p = 10 ^ length s in
    let l : length (s ++ (c ∷ [])) ≡ suc (length s) = simp length-append (omega arith) in
    let e : a * 10 ^ suc (length s) ≡ a * p * 10 =
    rw (pow-succ' 10 (length s), mul_comm 10 p) (sym (mul_assoc a p 10)) in
    rw l (omega (arith, e, decimal_last s c))

pub decimal_next : (text : List ℕ) (k : ℕ) → k < length text
    → decimal_of (take (k + 1) text) ≡ decimal_of (take k text) * 10 + (get_or text k 0 - digit0)
decimal_next text k h = rw (add-one k, take-suc text k 0 h) (decimal_last (take k text) (get_or text k 0))

-- so many digits say less than a power of ten
decimal_below : (s : List ℕ) → all is_digit s ≡ true → decimal_of s < 10 ^ length s
unfolding decimal_of
decimal_below [] e = lit< tt
decimal_below (c ∷ s) e =
    let w = both (is_digit c) (all is_digit s) e in
    let r = digit-range c w.0 in
    let p = 10 ^ length s in
    let h : c - digit0 ≤ 9 = omega arith in
    omega (arith, pow-succ' 10 (length s), mul-le-mul_right p h, decimal_below s w.1)

pub power_next : (n k d : ℕ) → n < 10 ^ k → d < 10 → n * 10 + d < 10 ^ (k + 1)
power_next n k d h l = rw add-one (omega (arith, pow-succ' 10 k))

pub power_few : (n k : ℕ) → n < 10 ^ k → k < 13 → n < 1000000000000
power_few n k h l =
    let p : 10 ^ k ≤ 10 ^ 12 = pow-le-pow_right (lit< tt) {i = k} {j = 12} (omega arith) in
    omega arith

module _ {text : List ℕ} (w : Thirteen text) where
  abbrev front : List ℕ
  front = take 13 text

  size : length front ≡ 13
  size = length-take-le 13 text (omega (arith, w.long))

  are_digits : all is_digit front ≡ true
  are_digits =
      all_places is_digit front
      (λ k h. rw (get_or-take 13 text k 0 (omega (arith, size))) (w.digits k (omega (arith, size))))

  is_time_lem : is_time front ≡ true
  unfolding is_time is_number
  is_time_lem =
      let b : decimal_of front < 2 ^ 64 = let h = rw size at (decimal_below front are_digits) in omega arith in
      let z : get_or front 0 0 ≡ digit0 → ⊥ = λ e. w.some (sym (get_or-take 13 text 0 0 (lit< tt)) ∙ e) in
      rw (
        leading_zero front,
        size,
        ne_eqb (get_or front 0 0) digit0 z,
        are_digits,
        lt-ltb (decimal_of front)
            (2 ^ 64) b,
      )

  pub timed_thirteen : timed_of text ≡ Some (decimal_of (take 13 text), 13)
  timed_thirteen =
      let j = timed-joined front (drop 14 text) is_time_lem in
      let e : text ≡ front ++ (space ∷ drop 14 text) = rw w.ends at (split_at text 13 0 w.long) in
      rw (← e, size) at j
