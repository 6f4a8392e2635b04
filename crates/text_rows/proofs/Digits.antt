-- Laws of the digits of a number: writing them from the last one on gives all.
use mathlib.Core.Path.{◌≡◌, ◌∙◌}
use mathlib.Core.List.{List, [], ◌∷◌, ◌++◌, append_assoc, append-nil}
use Prim.Native.Nat.{ℕ, zero, suc, ◌+◌, ◌-◌, ◌*◌, ◌/◌, ◌%◌, ◌^◌, ◌<◌, ◌≤◌}
use native.Mathlib.Omega.{arith}
use native.Mathlib.Nat.{pow-succ'}
use lib.ListN.{length, drop, set, length-set, drop_of_length-le}
use lib.Seq.{drop-cons, drop-set-lt, get_or-set_same}
use borrow.Author.Tests.{lt-ltb, le-ltb}
use Rattle.text_rows.specs.Text.{digits_of}

pub several_digits : (k n : ℕ) → 10 ≤ n → digits_of (suc k) n ≡ digits_of k (n / 10) ++ ((48 + n % 10) ∷ [])
unfolding digits_of
several_digits k n h = rw (le-ltb n 10 h)

-- the last digit of a number of several: fewer are left for its tenth
pub record Shorter (i n : ℕ) : Type 0 where
  pub several : 1 < i
  pub small : n / 10 < 10 ^ (i - 1)
  pub digits : digits_of i n ≡ digits_of (i - 1) (n / 10) ++ ((48 + n % 10) ∷ [])

pub shorter : (i n : ℕ) → 10 ≤ n → n < 10 ^ i → Shorter i n
shorter zero n h k = absurd (omega arith)
shorter (suc zero) n h k = absurd (omega arith)
shorter (suc (suc j)) n h k =
    let e : suc (suc j) - 1 ≡ suc j = omega arith in
    record {
      several = omega arith;
      small = rw e (omega (arith, pow-succ' 10 (suc j)));
      digits = rw e (several_digits (suc j) n h);
    }

pub one_digit : (i n : ℕ) → 0 < i → n < 10 → digits_of i n ≡ (48 + n) ∷ []
unfolding digits_of
one_digit zero n h k = absurd (omega arith)
one_digit (suc j) n h k = rw (lt-ltb n 10 k)

-- what is stored in front of a part
drop-set : (l : List ℕ) (j v : ℕ) → j < length l → drop j (set l j v) ≡ v ∷ drop (suc j) l
drop-set l j v h =
    rw (
      drop-cons (set l j v) j 0 (simp length-set h),
      get_or-set_same l j v 0 h,
      drop-set-lt (suc j) l j v
          (omega arith),
    )

-- the digits of n in front of those that are stored from i on
module _ (i n : ℕ) (stored : List ℕ) (within : i ≤ length stored) where
  pub spell_next : 10 ≤ n → n < 10 ^ i
      → digits_of i n ++ drop i stored ≡ digits_of (i - 1) (n / 10) ++ drop (i - 1) (set stored (i - 1) (48 + n % 10))
  spell_next h k =
      let m = shorter i n h k in
      let e : suc (i - 1) ≡ i = omega (arith, m.several) in
      rw (
        m.digits,
        append_assoc (digits_of (i - 1) (n / 10)) ((48 + n % 10) ∷ []) (drop i stored),
        drop-set stored (i - 1) (48 + n % 10) (omega (arith, m.several)),
        e,
      )

  pub spell_last : 0 < i → n < 10 → digits_of i n ++ drop i stored ≡ drop (i - 1) (set stored (i - 1) (48 + n))
  spell_last h k =
      let e : suc (i - 1) ≡ i = omega arith in
      rw (one_digit i n h k, drop-set stored (i - 1) (48 + n) (omega arith), e)

-- two digits at once: the last, and that of the tenth
module _ (i n : ℕ) (stored : List ℕ) (within : i ≤ length stored) (h : 10 ≤ n) (k : n < 10 ^ i) where
  at : i - 2 ≡ i - 1 - 1
  at = omega arith

  pub spell_pair : 100 ≤ n
      → digits_of i n ++ drop i stored
      ≡ digits_of (i - 2) (n / 100)
      ++ drop (i - 2) (set (set stored (i - 1) (48 + n % 100 % 10)) (i - 2) (48 + n % 100 / 10))
  spell_pair more =
      let last : n % 100 % 10 ≡ n % 10 = omega arith in
      let tens : n / 10 ≡ 10 * (n / 100) + n % 100 / 10 = omega arith in
      let rest : n / 100 ≡ n / 10 / 10 = omega (arith, tens) in
      let other : n % 100 / 10 ≡ n / 10 % 10 = omega (arith, tens, rest) in
      spell_next i n stored within h k
      ∙ spell_next (i - 1) (n / 10) (set stored (i - 1) (48 + n % 10))
      (simp length-set (omega arith)) (omega arith) (shorter i n h k).small
      ∙ rw (last, other, rest, at)

  pub spell_two : n < 100
      → digits_of i n ++ drop i stored ≡ drop (i - 2) (set (set stored (i - 1) (48 + n % 10)) (i - 2) (48 + n / 10))
  spell_two small =
      spell_next i n stored within h k
      ∙ spell_last (i - 1) (n / 10) (set stored (i - 1) (48 + n % 10))
      (simp length-set (omega arith)) (omega (arith, (shorter i n h k).several)) (omega arith)
      ∙ rw at

pub spell_start : (text stored : List ℕ) → length stored ≡ 20 → text ≡ text ++ drop 20 stored
spell_start text stored h = rw (drop_of_length-le stored {i = 20} (omega arith), append-nil text)
