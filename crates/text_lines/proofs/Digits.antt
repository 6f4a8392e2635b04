-- Laws of decimal digits: reading them one after the other gives the number that they say.
use Rattle.std.specs.Prelude.{Option, Some, None, SomeIff}
use mathlib.Core.Path.{◌≡◌, refl, ap, ◌∙◌}
use mathlib.Core.Bool.{Bool, true, false, ◌&&◌, and-false}
use mathlib.Core.List.{List, [], ◌∷◌}
use Prim.Native.Nat.{ℕ, suc, ◌+◌, ◌-◌, ◌*◌, ◌^◌, ◌<◌, ◌≤◌}
use native.Mathlib.Omega.{arith}
use native.Mathlib.Nat.{mul_assoc, add-mul, zero-mul, zero-add, mul-one, pow-succ', pow-le-pow_right, mul-le-mul_left}
use lib.Dec.{eqb, ltb, lit<}
use lib.ListN.{length, get_or}
use borrow.Author.Tests.{lt-ltb, le-ltb, ltb-true, ltb-false}
use Rattle.base_lists.specs.Lists.{all}
use Rattle.base_lists.proofs.Tests.{and-true}
use Rattle.text_lines.specs.Ascii.{digit0}
use Rattle.text_lines.specs.Decimal.{is_digit, decimal_of, has_leading_zero, is_number, is_time, number_if, appended}

-- the number that n's digits and then those of s say
abbrev pub value_after : ℕ → List ℕ → ℕ
value_after n s = n * 10 ^ length s + decimal_of s

value_next : (n c : ℕ) (s : List ℕ) → value_after n (c ∷ s) ≡ value_after (n * 10 + (c - digit0)) s
unfolding decimal_of
value_next n c s =
    let p = 10 ^ length s in
    let e : n * 10 ^ suc (length s) ≡ n * 10 * p = rw (pow-succ' 10 (length s), mul_assoc n 10 p) in
    omega (arith, e, add-mul (n * 10) (c - digit0) p)

value_grows : (n : ℕ) (s : List ℕ) → n ≤ value_after n s
value_grows n s =
    let p : 10 ^ 0 ≤ 10 ^ length s = pow-le-pow_right (lit< tt) {i = 0} {j = length s} (omega arith) in
    omega (arith, mul-le-mul_left n p, mul-one n)

-- the same as an answer, where these are digits and the number has 64 bits
abbrev pub number_after : ℕ → List ℕ → Option ℕ
number_after n s = number_if (all is_digit s && ltb (value_after n s) (2 ^ 64)) (value_after n s)

pub number_whole : (s : List ℕ) → number_after 0 s ≡ number_if (is_number s) (decimal_of s)
unfolding is_number
number_whole s = rw (zero-mul (10 ^ length s), zero-add (decimal_of s))

pub number_none : (n : ℕ) → n < 2 ^ 64 → number_after n [] ≡ Some n
unfolding decimal_of
number_none n h =
    let e : n * 10 ^ 0 + 0 ≡ n = omega (arith, mul-one n) in
    rw (e, lt-ltb n (2 ^ 64) h)

-- one digit more
module _ (n c : ℕ) (s : List ℕ) where
  w : ℕ
  w = n * 10 + (c - digit0)

  pub append_value : {m : ℕ} → appended n c ≡ Some m → number_after n (c ∷ s) ≡ number_after m s
  unfolding appended w
  append_value {m} a = rw (value_next n c s) (go (is_digit c) (ltb w (2 ^ 64)) a)
    where
      go : (t u : Bool) → number_if (t && u) w ≡ Some m
          → number_if ((t && all is_digit s) && ltb (value_after w s) (2 ^ 64)) (value_after w s) ≡ number_after m s
      go true true e = let h : w ≡ m = cc in rw h
      go true false e = cc
      go false u e = cc

  pub append_bad : appended n c ≡ None → number_after n (c ∷ s) ≡ None
  unfolding appended w
  append_bad a = rw (value_next n c s) (go (is_digit c) (ltb w (2 ^ 64)) refl a)
    where
      go : (t u : Bool) → ltb w (2 ^ 64) ≡ u → number_if (t && u) w ≡ None
          → number_if ((t && all is_digit s) && ltb (value_after w s) (2 ^ 64)) (value_after w s) ≡ None
      go true true p e = cc
      go true false p e =
          rw (
            le-ltb (value_after w s) (2 ^ 64) (omega (arith, value_grows w s, ltb-false w (2 ^ 64) p)),
            and-false (all is_digit s),
          )
      go false u p e = refl

-- what the code answers
module _ (n c : ℕ) where
  pub no-digit : is_digit c ≡ false → None ≡ appended n c
  unfolding appended
  no-digit e = rw e

  pub too_large : (2 ^ 64 ≤ n * 10) → None ≡ appended n c
  unfolding appended
  too_large h = rw (le-ltb (n * 10 + (c - digit0)) (2 ^ 64) (omega arith), and-false (is_digit c))

  pub added : {m d : ℕ} (r : Option ℕ) → is_digit c ≡ true → m ≡ n * 10 → d ≡ c - digit0
      → SomeIff r (m + d < 2 ^ 64) (m + d) → r ≡ appended n c
  unfolding appended
  added None e f g h = rw (e, le-ltb (n * 10 + (c - digit0)) (2 ^ 64) (omega arith))
  added (Some x) e f g h =
      let k : n * 10 + (c - digit0) < 2 ^ 64 = rw (f, g) at h.0 in
      rw (e, lt-ltb (n * 10 + (c - digit0)) (2 ^ 64) k) (ap Some (h.1 ∙ rw (f, g)))

pub append_fits : (n c : ℕ) {m : ℕ} → appended n c ≡ Some m → m < 2 ^ 64
unfolding appended
append_fits n c {m} = go (is_digit c) (ltb (n * 10 + (c - digit0)) (2 ^ 64)) refl
  where
    go : (t u : Bool) → ltb (n * 10 + (c - digit0)) (2 ^ 64) ≡ u
        → number_if (t && u) (n * 10 + (c - digit0)) ≡ Some m → m < 2 ^ 64
    go true true p e = let h : n * 10 + (c - digit0) ≡ m = cc in
        omega (arith, ltb-true (n * 10 + (c - digit0)) (2 ^ 64) p)
    go true false p e = let z : ◌≡◌ {A = ℕ} 0 1 = cc in absurd (omega arith)
    go false u p e = let z : ◌≡◌ {A = ℕ} 0 1 = cc in absurd (omega arith)

-- what holds of each element
pub all_places : (p : ℕ → Bool) (l : List ℕ) → ((k : ℕ) → k < length l → p (get_or l k 0) ≡ true) → all p l ≡ true
all_places p [] h = refl
all_places p (x ∷ l) h = and-true (h 0 (omega arith)) (all_places p l (λ k i. h (suc k) (omega arith)))

-- ---- a time

pub leading_zero : (s : List ℕ) → has_leading_zero s ≡ ltb 1 (length s) && eqb (get_or s 0 0) digit0
leading_zero [] = refl
leading_zero (c ∷ []) = refl
leading_zero (c ∷ d ∷ s) = rw (lt-ltb 1 (suc (suc (length s))) (omega arith))

module _ (s : List ℕ) where
  pub time_none : length s ≡ 0 → is_time s ≡ false
  unfolding is_time
  time_none e = rw (le-ltb 0 (length s) (omega arith))

  pub time-zero : ltb 1 (length s) && eqb (get_or s 0 0) digit0 ≡ true → is_time s ≡ false
  unfolding is_time
  time-zero e = rw (leading_zero s ∙ e, and-false (ltb 0 (length s)))

  pub time-number : (length s ≡ 0 → ⊥) → ltb 1 (length s) && eqb (get_or s 0 0) digit0 ≡ false → is_time s ≡ is_number s
  unfolding is_time
  time-number n e = rw (leading_zero s ∙ e, lt-ltb 0 (length s) (omega arith))
