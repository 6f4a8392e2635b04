-- Laws of pairs of characters that are read eight at a time.
use mathlib.Core.Path.{◌≡◌, refl, sym, ◌∙◌}
use mathlib.Core.Bool.{Bool, true}
use mathlib.Core.List.{List, [], ◌∷◌, ◌++◌}
use Prim.Native.Nat.{ℕ, zero, suc, ◌+◌, ◌-◌, ◌*◌, ◌/◌, ◌%◌, ◌<◌, ◌≤◌}
use native.Mathlib.Omega.{arith}
use native.Mathlib.Decide.{dec_lt}
use native.Mathlib.Nat.{mod-eq_of_lt, zero-add}
use lib.ListN.{length, get_or, take, drop, replicate, length-append, length-replicate, get_or-replicate, get_or-append}
use lib.Seq.{get_or-take, get_or-append-add, length-take-le, split_at, ext_get_or}
use borrow.Author.Tests.{lt-ltb}
use Rattle.base_lists.specs.Lists.{padded}
use Rattle.text_lines.specs.Ascii.{newline}
use Rattle.text_lines.specs.Hex.{nibble_of, is_hex_digit, is_hex, hex_bytes, leading_bytes, Decoded}
use Rattle.text_lines.specs.Private.{EndedPairs, Covered, PutTwo, CopiedPart}
use Rattle.text_lines.proofs.Digits.{all_places}
use Rattle.text_lines.proofs.Pairs.{is_hex_lem, leading_hex}

-- ---- eight pairs from pair i of s on, whose characters stand from 2 o on in c, their values in v, and their bytes from o on in b
module _ (s c v b : List ℕ) (i o : ℕ) (within : o + 8 ≤ 16)
    (chars : (m : ℕ) → m < 16 → get_or c (2 * o + m) 0 ≡ get_or s (2 * i + m) 0)
    (values : (m : ℕ) → m < 32 → get_or v m 0 ≡ nibble_of (get_or c m 0))
    (small : (m : ℕ) → m < 32 → get_or v m 0 < 16)
    (bytes : (m : ℕ) → m < 16 → get_or b m 0 ≡ get_or v (2 * m) 0 % 16 * 16 + get_or v (2 * m + 1) 0 % 16) where
  high_value : (k : ℕ) → k < 8 → get_or v (2 * (o + k)) 0 ≡ nibble_of (get_or s (2 * (i + k)) 0)
  high_value k h =
      let e : 2 * (o + k) ≡ 2 * o + 2 * k = omega arith in
      let f : 2 * (i + k) ≡ 2 * i + 2 * k = omega arith in
      values (2 * (o + k)) (omega arith) ∙ rw (e, f, chars (2 * k) (omega arith))

  low_value : (k : ℕ) → k < 8 → get_or v (2 * (o + k) + 1) 0 ≡ nibble_of (get_or s (2 * (i + k) + 1) 0)
  low_value k h =
      let e : 2 * (o + k) + 1 ≡ 2 * o + (2 * k + 1) = omega arith in
      let f : 2 * (i + k) + 1 ≡ 2 * i + (2 * k + 1) = omega arith in
      values (2 * (o + k) + 1) (omega arith) ∙ rw (e, f, chars (2 * k + 1) (omega arith))

  pub covered : (new : List ℕ) (k : ℕ) → k < 8 → get_or new (i + k) 0 ≡ get_or b (o + k) 0 → Covered s new (i + k)
  covered new k h e =
      let p = small (2 * (o + k)) (omega arith) in
      let q = small (2 * (o + k) + 1) (omega arith) in
      record {
        high = rw (high_value k h) at p;
        low = rw (low_value k h) at q;
        value =
            e ∙ bytes (o + k) (omega arith)
            ∙ rw (mod-eq_of_lt p, mod-eq_of_lt q, high_value k h, low_value k h);
      }

-- ---- what all pairs before a newline say

-- pair i of digits
hex_at : (h : List ℕ) (i : ℕ) → 2 * i + 1 < length h
    → get_or (hex_bytes h) i 0 ≡ nibble_of (get_or h (2 * i) 0) * 16 + nibble_of (get_or h (2 * i + 1) 0)
unfolding hex_bytes
hex_at [] i l = absurd (omega arith)
hex_at (a ∷ []) i l = absurd (omega arith)
hex_at (a ∷ b ∷ h) zero l = refl
hex_at (a ∷ b ∷ h) (suc i) l =
    let e : 2 * suc i ≡ suc (suc (2 * i)) = omega arith in
    let f : suc (suc (2 * i)) + 1 ≡ suc (suc (2 * i + 1)) = omega arith in
    rw (e, f) (hex_at h i (omega arith))

covered_later : {s bytes bytes' : List ℕ} {k : ℕ} → Covered s bytes k
    → get_or bytes' k 0 ≡ get_or bytes k 0 → Covered s bytes' k
covered_later w e = record { high = w.high; low = w.low; value = e ∙ w.value }

module _ (s bytes : List ℕ) (n : ℕ) (end : EndedPairs s n) (long : length bytes ≡ 64)
    (pairs : (k : ℕ) → k < n → Covered s bytes k) (zeros : (k : ℕ) → n ≤ k → k < 64 → get_or bytes k 0 ≡ 0) where
  abbrev hex : List ℕ
  hex = take (2 * n) s

  size : length hex ≡ 2 * n
  size = length-take-le (2 * n) s (omega (arith, end.most, end.long))

  digit : (k : ℕ) → k < length hex → is_hex_digit (get_or hex k 0) ≡ true
  digit k h =
      let w = pairs (k / 2) (omega (arith, size)) in
      rw (get_or-take (2 * n) s k 0 (omega (arith, size)))
      (elim (dec_lt (k % 2) 1) [
        | yes l ↦
            (let e : 2 * (k / 2) ≡ k = omega arith in
            lt-ltb (nibble_of (get_or s k 0)) 16 (rw e at w.high))
        | no l ↦
            (let e : 2 * (k / 2) + 1 ≡ k = omega arith in
            lt-ltb (nibble_of (get_or s k 0)) 16 (rw e at w.low))
      ])

  right : is_hex hex ≡ true
  right =
      is_hex_lem
      (record {
        short = omega (arith, size, end.most);
        even = omega (arith, size);
        digits = all_places is_hex_digit hex digit;
      })

  parts : s ≡ hex ++ (newline ∷ drop (suc (2 * n)) s)
  parts = rw end.ends at (split_at s (2 * n) 0 (omega (arith, end.most, end.long)))

  leads : (leading_bytes 64 s ≡ hex_bytes hex) × (2 * length (hex_bytes hex) ≡ length hex)
  leads = rw (← parts) at (leading_hex hex (drop (suc (2 * n)) s) right)

  count : length (hex_bytes hex) ≡ n
  count = omega (arith, leads.1, size)

  same : (k : ℕ) → k < length bytes → get_or bytes k 0 ≡ get_or (padded 64 (hex_bytes hex)) k 0
  same k h = elim (dec_lt k n) [
    | yes l ↦
        ((pairs k l).value
        ∙ rw (← get_or-take (2 * n) s (2 * k) 0 (omega arith), ← get_or-take (2 * n) s (2 * k + 1) 0 (omega arith))
        (sym (hex_at hex k (omega (arith, size))))
        ∙ sym (get_or-append (hex_bytes hex) (replicate (64 - length (hex_bytes hex)) 0) 0 k (omega (arith, count))))
    | no l ↦
        (let e : length (hex_bytes hex) + (k - n) ≡ k = omega (arith, count) in
        zeros k (omega arith) (omega arith)
        ∙ sym (rw e at (get_or-append-add (hex_bytes hex) (replicate (64 - length (hex_bytes hex)) 0) (k - n) 0
        ∙ get_or-replicate (64 - length (hex_bytes hex)) (k - n) 0 0 (omega (arith, count)))))
  ]

  pub decoded_at_once : Decoded s bytes n
  decoded_at_once =
      let l : length bytes ≡ length (padded 64 (hex_bytes hex)) =
      simp (length-append, length-replicate) (omega (arith, count, end.most)) in
      record {
        answer = rw leads.0 (sym count);
        written = rw leads.0 (ext_get_or 0 bytes (padded 64 (hex_bytes hex)) l same);
      }

-- ---- two blocks of eight, and what they make of zeros

module _ {s c0 c1 c2 old mid new : List ℕ} {i j : ℕ} {r : Bool} (v b : List ℕ)
    (front : CopiedPart s (2 * i) 16 c0 0 c1) (back : CopiedPart s (2 * j) 16 c1 16 c2)
    (values : (k : ℕ) → k < 32 → get_or v k 0 ≡ nibble_of (get_or c2 k 0))
    (bytes : (k : ℕ) → k < 16 → get_or b k 0 ≡ get_or v (2 * k) 0 % 16 * 16 + get_or v (2 * k + 1) 0 % 16)
    (first : CopiedPart b 0 8 old i mid) (second : CopiedPart b 8 8 mid j new)
    (small : r ≡ true → (k : ℕ) → k < 32 → get_or v k 0 < 16) where
  front_chars : (m : ℕ) → m < 16 → get_or c2 (2 * 0 + m) 0 ≡ get_or s (2 * i + m) 0
  front_chars m h =
      let e : 2 * 0 + m ≡ m = omega arith in
      rw e (back.outside m (λ l k. omega arith) ∙ (rw zero-add at (front.inside m h)))

  at_second : r ≡ true → (k : ℕ) → j ≤ k → k < j + 8 → Covered s new k
  at_second t k l h =
      let e : j + (k - j) ≡ k = omega arith in
      rw e at
      (covered s c2 v b j 8 (omega arith) back.inside values (small t) bytes new
      (k - j) (omega arith) (second.inside (k - j) (omega arith)))

  alone : r ≡ true → (k : ℕ) → i ≤ k → k < i + 8 → (j ≤ k → k < j + 8 → ⊥) → Covered s new k
  alone t k l h other =
      let e : i + (k - i) ≡ k = omega arith in
      let w : get_or new (i + (k - i)) 0 ≡ get_or b (0 + (k - i)) 0 =
      rw e (second.outside k other) ∙ (rw e at (first.inside (k - i) (omega arith))) in
      rw e at (covered s c2 v b i 0 (omega arith) front_chars values (small t) bytes new (k - i) (omega arith) w)

  at_first : r ≡ true → (k : ℕ) → i ≤ k → k < i + 8 → Covered s new k
  at_first t k l h = elim (dec_lt k j) [
    | yes p ↦ alone t k l h (λ x y. omega arith)
    | no p ↦ elim (dec_lt k (j + 8)) [
      | yes q ↦ at_second t k (omega arith) q
      | no q ↦ alone t k l h (λ x y. omega arith)
    ]
  ]

  pub put_two : PutTwo s i j old new r
  put_two =
      record {
        long = second.long ∙ first.long;
        first = at_first;
        second = at_second;
        other = λ k p q. second.outside k q ∙ first.outside k p;
      }

module _ {s old : List ℕ} {n : ℕ} (end : EndedPairs s n) (blank : old ≡ replicate 64 0) where
  blank_at : (k : ℕ) → k < 64 → get_or old k 0 ≡ 0
  blank_at k h = rw blank (get_or-replicate 64 k 0 0 h)

  blank_long : length old ≡ 64
  blank_long = rw blank

  pub decoded_two : {new : List ℕ} {r : Bool} → n ≤ 16 → PutTwo s 0 (n - 8) old new r → r ≡ true → Decoded s new n
  decoded_two {new} few p t =
      decoded_at_once s new n end (p.long ∙ blank_long)
      (λ k h. elim (dec_lt k 8) [
        | yes l ↦ p.first t k (omega arith) (omega arith)
        | no l ↦ p.second t k (omega arith) (omega (arith, end.least))
      ])
      (λ k l h. p.other k (λ x y. omega (arith, end.least)) (λ x y. omega (arith, end.least)) ∙ blank_at k h)

  pub decoded_three : {mid new : List ℕ} {q r : Bool} → 16 < n → PutTwo s 0 8 old mid q
      → q ≡ true → PutTwo s 8 (n - 8) mid new r → r ≡ true → Decoded s new n
  decoded_three {mid} {new} many p u q t =
      decoded_at_once s new n end (q.long ∙ p.long ∙ blank_long)
      (λ k h. elim (dec_lt k 8) [
        | yes l ↦ covered_later (p.first u k (omega arith) (omega arith))
            (q.other k (λ x y. omega arith) (λ x y. omega arith))
        | no l ↦ elim (dec_lt k 16) [
          | yes m ↦ q.first t k (omega arith) (omega arith)
          | no m ↦ q.second t k (omega (arith, end.most)) (omega arith)
        ]
      ])
      (λ k l h. q.other k (λ x y. omega arith) (λ x y. omega arith)
      ∙ p.other k (λ x y. omega arith) (λ x y. omega arith) ∙ blank_at k h)
