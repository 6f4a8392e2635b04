-- What is printed reads back: a number as a time, bytes as bytes, and both as the line of a reception.
use mathlib.Core.Path.{◌≡◌, refl, sym, ap, ap₂, ◌∙◌}
use mathlib.Core.Bool.{Bool, true, false, cond, not, ◌&&◌, and-false, false≢true}
use mathlib.Core.List.{List, [], ◌∷◌, ◌++◌}
use Prim.Native.Nat.{ℕ, zero, suc, ◌+◌, ◌-◌, ◌*◌, ◌/◌, ◌%◌, ◌^◌, ◌<◌, ◌≤◌}
use native.Mathlib.Omega.{arith}
use native.Mathlib.Nat.{add-mul, mul_assoc, pow-suc, pow-succ', mul-one}
use lib.Dec.{T, eqb, leb, ltb, eqb→eq, ltb→lt}
use lib.ListN.{length, take, get_or, replicate, length-append}
use lib.Seq.{take-suc, take-length}
use borrow.Author.Tests.{lt-ltb, le-leb, leb-true, eq-eqb, ne_eqb, ltb-true, ltb-false, not-true}
use Rattle.base_lists.specs.Lists.{all}
use Rattle.base_lists.proofs.Choice.{both, and_left, and_right}
use Rattle.base_lists.proofs.Tests.{and-true, by_test, all_last, all_get_d}
use Rattle.base_lists.proofs.Table.{at}
use Rattle.text_lines.specs.Decimal.{is_digit, decimal_of, has_leading_zero, is_number, is_time}
use Rattle.text_lines.specs.Hex.{nibble_of, is_hex_digit, is_hex, hex_bytes}
use Rattle.text_lines.specs.Reading.{reception}
use Rattle.text_lines.proofs.Digits.{leading_zero}
use Rattle.text_lines.proofs.Long.{first_value, long-time}
use Rattle.text_lines.proofs.Whole.{joined}
use Rattle.text_rows.specs.Text.{digits_of, decimal_text, hex_digit_of, hex_text}
use Rattle.base_numbers.specs.Bytes.{are_bytes}
use Rattle.text_rows.specs.Claims.{NumbersBack, TimesBack, BytesBack, LinesBack}
use Rattle.text_rows.proofs.Digits.{one_digit, several_digits}
use Rattle.text_rows.proofs.Words.{hex-length}

-- ---- numbers

is_digit_lem : (d : ℕ) → d < 10 → is_digit (48 + d) ≡ true
is_digit_lem d h = rw (le-leb 48 (48 + d) (omega arith), lt-ltb (48 + d) 58 (omega arith))

decimal_snoc : (s : List ℕ) (c : ℕ) → decimal_of (s ++ (c ∷ [])) ≡ decimal_of s * 10 + (c - 48)
unfolding decimal_of
decimal_snoc [] c = omega (arith, mul-one (c - 48))
decimal_snoc (x ∷ s) c =
    let p = 10 ^ length s in
    let l : length (s ++ (c ∷ [])) ≡ suc (length s) = simp length-append (omega arith) in
    let e : (x - 48) * 10 ^ suc (length s) ≡ (x - 48) * p * 10 = rw (pow-suc 10 (length s), mul_assoc (x - 48) p 10) in
    rw l (omega (arith, e, decimal_snoc s c, add-mul ((x - 48) * p) (decimal_of s) 10))

first_snoc : (s : List ℕ) (c : ℕ) → 0 < length s → get_or (s ++ (c ∷ [])) 0 0 ≡ get_or s 0 0
first_snoc [] c h = absurd (omega arith)
first_snoc (x ∷ s) c h = refl

-- the digits of n
record Spelled (n : ℕ) (s : List ℕ) : Type 0 where
  digits : all is_digit s ≡ true
  value : decimal_of s ≡ n
  some : 0 < length s
  first : 0 < n → get_or s 0 0 ≡ 48 → ⊥
  alone : n < 10 → length s ≡ 1

spelled_one : (n : ℕ) → n < 10 → Spelled n ((48 + n) ∷ [])
unfolding decimal_of
spelled_one n h =
    record {
      digits = rw (is_digit_lem n h);
      value = omega (arith, mul-one (48 + n - 48));
      some = omega arith;
      first = λ p e. omega arith;
      alone = λ p. refl;
    }

spelled_more : (n : ℕ) (s : List ℕ) → 10 ≤ n → Spelled (n / 10) s → Spelled n (s ++ ((48 + n % 10) ∷ []))
spelled_more n s h w =
    record {
      digits = all_last is_digit s (48 + n % 10) w.digits (is_digit_lem (n % 10) (omega arith));
      value = decimal_snoc s (48 + n % 10) ∙ rw w.value (omega arith);
      some = simp length-append (omega arith);
      first = λ p e. w.first (omega arith) (sym (first_snoc s (48 + n % 10) w.some) ∙ e);
      alone = λ p. absurd (omega arith);
    }

spelled : (k n : ℕ) → n < 10 ^ suc k → Spelled n (digits_of (suc k) n)
unfolding digits_of
spelled zero n h = rw (lt-ltb n 10 (omega arith)) (spelled_one n (omega arith))
spelled (suc k) n h = go (ltb n 10) refl (λ p. spelled k (n / 10) p)
  where
    go : (t : Bool) → ltb n 10 ≡ t → (n / 10 < 10 ^ suc k → Spelled (n / 10) (digits_of (suc k) (n / 10)))
        → Spelled n (cond t ((48 + n) ∷ []) (digits_of (suc k) (n / 10) ++ ((48 + n % 10) ∷ [])))
    go true p ih = spelled_one n (ltb-true n 10 p)
    go false p ih =
        spelled_more n (digits_of (suc k) (n / 10)) (ltb-false n 10 p) (ih (omega (arith, pow-succ' 10 (suc k))))

no_leading_zero : (n : ℕ) (s : List ℕ) → Spelled n s → has_leading_zero s ≡ false
no_leading_zero n s w = go (ltb n 10) refl
  where
    go : (t : Bool) → ltb n 10 ≡ t → has_leading_zero s ≡ false
    go true p = rw (leading_zero s, w.alone (ltb-true n 10 p))
    go false p =
        rw (
          leading_zero s,
          ne_eqb (get_or s 0 0) 48 (w.first (omega (arith, ltb-false n 10 p))),
          and-false (ltb 1 (length s)),
        )

pub numbers-back : NumbersBack
unfolding is_time is_number
numbers-back n h =
    let s = decimal_text n in
    let w = spelled 19 n (omega arith) in
    record {
      time = rw (lt-ltb 0 (length s) w.some, no_leading_zero n s w, w.digits, w.value, lt-ltb n (2 ^ 64) h);
      value = w.value;
    }

-- ---- and a time that was read is printed as it was written

one_value : (d : ℕ) → decimal_of (d ∷ []) ≡ d - 48
unfolding decimal_of
one_value d = omega (arith, mul-one (d - 48))

-- digits, the first of several not 0
module _ (f : ℕ) (r : List ℕ) (digits : all is_digit (f ∷ r) ≡ true) (first : 0 < length r → f ≡ 48 → ⊥) where
  abbrev whole : List ℕ
  whole = f ∷ r

  digit_at : (j : ℕ) → j < length whole → (48 ≤ get_or whole j 0) × (get_or whole j 0 < 58)
  digit_at j h =
      let w = both (leb 48 (get_or whole j 0)) (ltb (get_or whole j 0) 58) (all_get_d is_digit whole j 0 digits h) in
      (leb-true _ _ w.0, ltb-true _ _ w.1)

  -- the front of them, up to each
  spelled_front : (j k : ℕ) → j < length whole → j ≤ k
      → digits_of (suc k) (decimal_of (take (suc j) whole)) ≡ take (suc j) whole
  spelled_front zero k h l =
      let d = digit_at 0 h in
      let same : 48 + (f - 48) ≡ f = omega (arith, d.0) in
      ap (digits_of (suc k)) (one_value f) ∙ one_digit (suc k) (f - 48) (omega arith) (omega (arith, d.1)) ∙ rw same
  spelled_front (suc j) zero h l = absurd (omega arith)
  spelled_front (suc j) (suc k) h l =
      let m = decimal_of (take (suc j) whole) in
      let c = get_or whole (suc j) 0 in
      let n = m * 10 + (c - 48) in
      let d = digit_at (suc j) h in
      let more : take (suc (suc j)) whole ≡ take (suc j) whole ++ (c ∷ []) = take-suc whole (suc j) 0 h in
      let some : 1 ≤ m =
      first_value f (take j r) 0 (omega (arith, (digit_at 0 (omega arith)).0, first (omega arith))) (omega arith) in
      let tenth : n / 10 ≡ m = omega (arith, d.0, d.1) in
      let last : 48 + n % 10 ≡ c = omega (arith, d.0, d.1) in
      ap (digits_of (suc (suc k))) (ap decimal_of more ∙ decimal_snoc (take (suc j) whole) c)
      ∙ several_digits (suc k) n (omega (arith, some))
      ∙ rw (tenth, last, spelled_front j k (omega arith) (omega arith), ← more)

pub time-back : TimesBack
unfolding is_time is_number
time-back [] e = absurd (false≢true e)
time-back (f ∷ r) e =
    let s = f ∷ r in
    let t = both (ltb 0 (length s) && not (has_leading_zero s)) (is_number s) e in
    let n = both (all is_digit s) (ltb (decimal_of s) (2 ^ 64)) t.1 in
    let zero_first : has_leading_zero s ≡ false =
    not-true _ (both (ltb 0 (length s)) (not (has_leading_zero s)) t.0).1 in
    let few : length s ≤ 20 =
    by_test (ltb 20 (length s))
    (λ h. absurd (false≢true (sym (long-time s (ltb-true _ _ h)) ∙ e))) (λ h. ltb-false _ _ h) in
    let leads : 0 < length r → f ≡ 48 → has_leading_zero s ≡ true =
    λ h z. leading_zero s ∙ and-true (lt-ltb 1 (length s) (omega arith)) (eq-eqb f 48 z) in
    let first : 0 < length r → f ≡ 48 → ⊥ = λ h z. false≢true (sym zero_first ∙ leads h z) in
    rw take-length at (spelled_front f r n.0 first (length r) 19 (omega arith) (omega arith))

-- ---- bytes

-- one test that antt computes over the 16 digits
digit-back : (d : ℕ) → d < 16 → nibble_of (hex_digit_of d) ≡ d
unfolding nibble_of hex_digit_of
digit-back d h = eqb→eq _ _ (at {A = ℕ} (λ d x. eqb (nibble_of (hex_digit_of d)) d) 0 (replicate 16 0) tt d h)

told : (b : Bool) → b ≡ true → T b
told true e = tt
told false e = absurd (false≢true e)

bytes_back : (bs : List ℕ) → T (are_bytes bs) → hex_bytes (hex_text bs) ≡ bs
unfolding hex_bytes hex_text
bytes_back [] t = refl
bytes_back (b ∷ bs) t =
    let h = ltb→lt b 256 (and_left (ltb b 256) (are_bytes bs) t) in
    let e : b / 16 * 16 + b % 16 ≡ b = omega arith in
    rw (digit-back (b / 16) (omega arith), digit-back (b % 16) (omega arith))
    (ap₂ ◌∷◌ e (bytes_back bs (and_right (ltb b 256) (are_bytes bs) t)))

digits-hex : (bs : List ℕ) → T (are_bytes bs) → all is_hex_digit (hex_text bs) ≡ true
unfolding hex_text
digits-hex [] t = refl
digits-hex (b ∷ bs) t =
    let h = ltb→lt b 256 (and_left (ltb b 256) (are_bytes bs) t) in
    rw (
      digit-back (b / 16) (omega arith),
      digit-back (b % 16) (omega arith),
      lt-ltb (b / 16) 16 (omega arith),
      lt-ltb (b % 16) 16 (omega arith),
    )
    (digits-hex bs (and_right (ltb b 256) (are_bytes bs) t))

pub bytes_read : BytesBack
unfolding is_hex
bytes_read bs t h =
    let n = length (hex_text bs) in
    record {
      hex =
          rw (
            le-leb n 128 (omega (arith, hex-length bs)),
            eq-eqb (n % 2) 0 (omega (arith, hex-length bs)),
            digits-hex bs (told (are_bytes bs) t),
          );
      value = bytes_back bs (told (are_bytes bs) t);
    }

pub lines-back : LinesBack
lines-back n bs h t k =
    let a = numbers-back n h in
    let b = bytes_read bs t k in
    joined (decimal_text n) (hex_text bs) a.time b.hex ∙ ap₂ reception a.value b.value
