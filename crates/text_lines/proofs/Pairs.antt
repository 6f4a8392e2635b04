-- Laws of hexadecimal digits: storing the bytes of their pairs one after the other gives those of all, and what the pairs at the front of a
-- text are.
use mathlib.Core.Path.{◌≡◌, refl, sym, ap, ◌∙◌}
use mathlib.Core.Bool.{Bool, true, false, cond, ◌&&◌, ◌||◌, and-false}
use mathlib.Core.List.{List, [], ◌∷◌, ◌++◌}
use Prim.Native.Nat.{ℕ, zero, suc, min, ◌+◌, ◌-◌, ◌*◌, ◌/◌, ◌%◌, ◌<◌, ◌≤◌}
use native.Mathlib.Omega.{arith}
use native.Mathlib.Nat.{zero-add}
use native.Mathlib.Numerals.{add-one}
use lib.Dec.{eqb, leb, ltb}
use lib.ListN.{length, get_or, drop, set, replicate, length-drop}
use lib.Seq.{sets, drop-cons}
use borrow.Author.Tests.{lt-ltb, le-ltb, le-leb, lt-leb, eq-eqb, ltb-true, ltb-false, leb-true, eqb-true}
use Rattle.base_lists.specs.Lists.{all}
use Rattle.base_lists.proofs.Choice.{neither, both}
use Rattle.base_lists.proofs.Padded.{padded-sets}
use Rattle.base_lists.proofs.Tests.{by_test}
use Rattle.text_lines.specs.Ascii.{newline}
use Rattle.text_lines.specs.Hex.{nibble_of, is_hex_digit, is_hex, hex_bytes, leading_bytes, Decoded}

pub too_long : (s : List ℕ) → 128 < length s → is_hex s ≡ false
unfolding is_hex
too_long s h = rw (lt-leb (length s) 128 h)

-- what holds of the digits of bytes
pub record Hexed (s : List ℕ) : Type 0 where
  pub short : length s ≤ 128
  pub even : length s % 2 ≡ 0
  pub digits : all is_hex_digit s ≡ true

pub hexed : (s : List ℕ) → is_hex s ≡ true → Hexed s
unfolding is_hex
hexed s e =
    let u = both (leb (length s) 128 && eqb (length s % 2) 0) (all is_hex_digit s) e in
    let v = both (leb (length s) 128) (eqb (length s % 2) 0) u.0 in
    record { short = leb-true (length s) 128 v.0; even = eqb-true (length s % 2) 0 v.1; digits = u.1 }

pub is_hex_lem : {s : List ℕ} → Hexed s → is_hex s ≡ true
unfolding is_hex
is_hex_lem {s} h = rw (le-leb (length s) 128 h.short, eq-eqb (length s % 2) 0 h.even, h.digits)

-- two digits for each byte
length-bytes : (s : List ℕ) (n : ℕ) → length s ≡ n + n → length (hex_bytes s) ≡ n
unfolding hex_bytes
length-bytes [] n e = omega arith
length-bytes (a ∷ []) n e = absurd (omega arith)
length-bytes (a ∷ b ∷ s) zero e = absurd (omega arith)
length-bytes (a ∷ b ∷ s) (suc n) e = ap suc (length-bytes s n (omega arith))

-- ---- the pairs at the front of a text

length_leading : (n : ℕ) (s : List ℕ) → length (leading_bytes n s) ≤ n
unfolding leading_bytes
length_leading zero s = omega arith
length_leading (suc n) [] = omega arith
length_leading (suc n) (a ∷ []) = omega arith
length_leading (suc n) (a ∷ b ∷ s) = go (is_hex_digit a && is_hex_digit b) (length_leading n s)
  where
    go : (t : Bool) → length (leading_bytes n s) ≤ n
        → length (cond t ((nibble_of a * 16 + nibble_of b) ∷ leading_bytes n s) []) ≤ suc n
    go true ih = omega arith
    go false ih = omega arith

no_pair : (n : ℕ) (s : List ℕ) → length s ≤ 1 → leading_bytes n s ≡ []
unfolding leading_bytes
no_pair zero s h = refl
no_pair (suc n) [] h = refl
no_pair (suc n) (a ∷ []) h = refl
no_pair (suc n) (a ∷ b ∷ s) h = absurd (omega arith)

-- n pairs at most, and a newline behind them
leading_all : (n m : ℕ) (h r : List ℕ) → m ≤ n → length h ≡ m + m
    → all is_hex_digit h ≡ true → leading_bytes n (h ++ (newline ∷ r)) ≡ hex_bytes h
unfolding leading_bytes hex_bytes nibble_of
leading_all zero m [] r l e a = refl
leading_all (suc n) m [] [] l e a = refl
leading_all (suc n) m [] (b ∷ r) l e a = refl
leading_all n m (x ∷ []) r l e a = absurd (omega arith)
leading_all zero m (x ∷ y ∷ h) r l e a = absurd (omega arith)
leading_all (suc n) zero (x ∷ y ∷ h) r l e a = absurd (omega arith)
leading_all (suc n) (suc m) (x ∷ y ∷ h) r l e a =
    let p = both (is_hex_digit x) (is_hex_digit y && all is_hex_digit h) a in
    let q = both (is_hex_digit y) (all is_hex_digit h) p.1 in
    rw (p.0, q.0, leading_all n m h r (omega arith) (omega arith) q.1)

-- bytes, and a newline behind them
pub leading_hex : (h r : List ℕ) → is_hex h ≡ true
    → (leading_bytes 64 (h ++ (newline ∷ r)) ≡ hex_bytes h) × (2 * length (hex_bytes h) ≡ length h)
leading_hex h r e =
    let w = hexed h e in
    let pairs : length h ≡ length h / 2 + length h / 2 = omega arith in (
      leading_all 64 (length h / 2) h r (omega arith) pairs w.digits,
      omega (arith, length-bytes h (length h / 2) pairs),
    )

-- the digits of these pairs
pub record Leading (n : ℕ) (s : List ℕ) : Type 0 where
  pub hex : List ℕ
  pub rest : List ℕ
  pub parts : s ≡ hex ++ rest
  pub digits : all is_hex_digit hex ≡ true
  pub count : length hex ≡ 2 * length (leading_bytes n s)
  pub says : hex_bytes hex ≡ leading_bytes n s

pub leading : (n : ℕ) (s : List ℕ) → Leading n s
unfolding leading_bytes hex_bytes
leading zero s = record { hex = []; rest = s; parts = refl; digits = refl; count = refl; says = refl }
leading (suc n) [] = record { hex = []; rest = []; parts = refl; digits = refl; count = refl; says = refl }
leading (suc n) (a ∷ []) = record { hex = []; rest = a ∷ []; parts = refl; digits = refl; count = refl; says = refl }
leading (suc n) (a ∷ b ∷ s) =
    by_test (is_hex_digit a && is_hex_digit b)
    (λ t.
    let p = both (is_hex_digit a) (is_hex_digit b) t in
    let w = leading n s in
    record {
      hex = a ∷ b ∷ w.hex;
      rest = w.rest;
      parts = rw (sym w.parts);
      digits = rw (p.0, p.1) w.digits;
      count = rw (p.0, p.1) (omega (arith, w.count));
      says = rw (p.0, p.1, w.says);
    })
    (λ t. record { hex = []; rest = a ∷ b ∷ s; parts = refl; digits = refl; count = rw t; says = rw t })

pub leading_right : {s : List ℕ} (w : Leading 64 s) → is_hex w.hex ≡ true
leading_right {s} w =
    is_hex_lem
    (record {
      short = omega (arith, w.count, length_leading 64 s);
      even = omega (arith, w.count);
      digits = w.digits;
    })

-- ---- storing their bytes

-- What is left where i bytes are stored: their count and the stores of the pairs from there on are those of all.
pub record Left (s : List ℕ) (i : ℕ) (bytes : List ℕ) : Type 0 where
  pub count : length (leading_bytes 64 s) ≡ i + length (leading_bytes (64 - i) (drop (2 * i) s))
  pub stores : sets (replicate 64 0) 0 (leading_bytes 64 s) ≡ sets bytes i (leading_bytes (64 - i) (drop (2 * i) s))

pub left_all : (s : List ℕ) → Left s 0 (replicate 64 0)
left_all s = record { count = sym (zero-add (length (leading_bytes 64 s))); stores = refl }

decoded : {s bytes : List ℕ} {i : ℕ} → Left s i bytes → leading_bytes (64 - i) (drop (2 * i) s) ≡ [] → Decoded s bytes i
decoded {s} {bytes} {i} left none =
    record {
      answer = sym (left.count ∙ rw none (omega arith));
      written = sym (sym (padded-sets 64 (leading_bytes 64 s) (length_leading 64 s)) ∙ left.stores ∙ rw none);
    }

-- no further pair
pub decoded_all : {s bytes : List ℕ} {i : ℕ} → Left s i bytes → min (length s / 2) 64 ≤ i → Decoded s bytes i
unfolding leading_bytes
decoded_all {s} {bytes} {i} left h =
    decoded left
    (by_test (ltb i 64)
    (λ t. no_pair (64 - i) (drop (2 * i) s) (simp length-drop (omega (arith, ltb-true i 64 t))))
    (λ t. let z : 64 - i ≡ 0 = omega (arith, ltb-false i 64 t) in rw z))

-- two values that are both of digits
pub both_digits : (h l : ℕ) → (ltb 15 h || ltb 15 l) ≡ false → (h ≤ 15) × (l ≤ 15)
both_digits h l e = let w = neither (ltb 15 h) (ltb 15 l) e in (ltb-false 15 h w.0, ltb-false 15 l w.1)

-- the next pair, whose values are h and l
module _ {s bytes : List ℕ} {i h l : ℕ} (left : Left s i bytes) (few : i < 64) (more : 2 * i + 1 < length s)
    (high : h ≡ nibble_of (get_or s (2 * i) 0)) (low : l ≡ nibble_of (get_or s (2 * i + 1) 0)) where
  pair : drop (2 * i) s ≡ get_or s (2 * i) 0 ∷ get_or s (2 * i + 1) 0 ∷ drop (2 * (i + 1)) s
  pair =
      let e : 2 * (i + 1) ≡ suc (suc (2 * i)) = omega arith in
      rw (drop-cons s (2 * i) 0 (omega arith), drop-cons s (suc (2 * i)) 0 (omega arith), add-one (2 * i), e)

  abbrev rest : List ℕ
  rest = leading_bytes (64 - (i + 1)) (drop (2 * (i + 1)) s)

  next : leading_bytes (64 - i) (drop (2 * i) s) ≡ cond (ltb h 16 && ltb l 16) ((h * 16 + l) ∷ rest) []
  unfolding leading_bytes
  next =
      let e : 64 - i ≡ suc (64 - (i + 1)) = omega arith in
      rw (e, pair, high, low)

  pub left_next : (ltb 15 h || ltb 15 l) ≡ false → Left s (i + 1) (set bytes i (h * 16 + l))
  left_next e =
      let w = both_digits h l e in
      let two : ltb h 16 && ltb l 16 ≡ true = rw (lt-ltb h 16 (omega arith), lt-ltb l 16 (omega arith)) in
      record { count = left.count ∙ rw (next, two) (omega arith); stores = left.stores ∙ rw (next, two, add-one i) }

  pub decoded_front : (ltb 15 h || ltb 15 l) ≡ true → Decoded s bytes i
  decoded_front e = decoded left (next ∙ go (ltb 15 h) refl (ltb 15 l) refl e)
    where
      go : (t : Bool) → ltb 15 h ≡ t → (u : Bool) → ltb 15 l ≡ u → (t || u) ≡ true
          → cond (ltb h 16 && ltb l 16) ((h * 16 + l) ∷ rest) [] ≡ []
      go true p u q e = rw (le-ltb h 16 (omega (arith, ltb-true 15 h p)))
      go false p true q e = rw (le-ltb l 16 (omega (arith, ltb-true 15 l q)), and-false (ltb h 16))
      go false p false q e = cc
