-- A line of `line_limit` characters or more is BAD, whatever it holds, so its front says what it says.
use Rattle.std.specs.Prelude.{Option, Some, None}
use mathlib.Core.Path.{◌≡◌, refl, sym, ap, ◌∙◌}
use mathlib.Core.Bool.{Bool, true, false, cond, not, ◌&&◌, and-false}
use mathlib.Core.List.{List, [], ◌∷◌}
use Prim.Native.Nat.{ℕ, zero, suc, min, ◌-◌, ◌^◌, ◌<◌, ◌≤◌}
use native.Mathlib.Omega.{arith}
use native.Mathlib.Nat.{le_refl, mul-le-mul_right, pow-le-pow_right, one-mul}
use lib.Dec.{eqb, leb, ltb, lit<}
use lib.ListN.{length, take, drop, length-drop}
use lib.Seq.{length-take-le, take_all, take-take}
use borrow.Author.Tests.{le-ltb, lt-ltb, eqb-false, leb-true, ltb-true, ltb-false}
use Rattle.std.proofs.lemmas.List.{length-take, take_min}
use Rattle.base_bytes.specs.Bytes.{index_of, index_after}
use Rattle.base_lists.specs.Lists.{all, equal}
use Rattle.text_lines.specs.Ascii.{space, digit0}
use Rattle.text_lines.specs.Decimal.{is_digit, decimal_of, is_number, is_time, timed_of}
use Rattle.text_lines.specs.Hex.{is_hex, hex_bytes}
use Rattle.text_lines.specs.Reading.{reception, bad, line_reading, level_line, setting_of, line_limit}
use Rattle.text_lines.specs.Claims.{LongLines, FrontsTell}
use Rattle.text_lines.proofs.Pairs.{too_long}

-- a first digit other than 0 is worth the power of ten of its place, and so of every place behind it
pub first_value : (c : ℕ) (s : List ℕ) (i : ℕ) → 49 ≤ c → i ≤ length s → 10 ^ i ≤ decimal_of (c ∷ s)
unfolding decimal_of
first_value c s i h k =
    let p : 10 ^ i ≤ 10 ^ length s = pow-le-pow_right (lit< tt) {i = i} {j = length s} k in
    omega (arith, p, mul-le-mul_right {m = 1} {n = c - 48} (10 ^ length s) (omega arith), one-mul (10 ^ length s))

pub long-time : (s : List ℕ) → 20 < length s → is_time s ≡ false
unfolding is_time is_number
long-time [] h = absurd (omega arith)
long-time (c ∷ []) h = absurd (omega arith)
long-time (c ∷ d ∷ s) h = go (eqb c digit0) refl (leb digit0 c) refl
  where
    some : Bool
    some = ltb 0 (length (c ∷ d ∷ s))

    go : (t : Bool) → eqb c digit0 ≡ t → (u : Bool) → leb digit0 c ≡ u
        → some && not t && (((u && ltb c 58) && all is_digit (d ∷ s)) && ltb (decimal_of (c ∷ d ∷ s)) (2 ^ 64)) ≡ false
    go true p u q = rw (and-false some)
    go false p false q = and-false (some && true)
    go false p true q =
        let big = first_value c (d ∷ s) 20 (omega (arith, eqb-false c 48 p, leb-true 48 c q)) (omega arith) in
        rw (
          le-ltb (decimal_of (c ∷ d ∷ s)) (2 ^ 64) (omega (arith, big)),
          and-false (ltb c 58 && all is_digit (d ∷ s)),
          and-false (some && true),
        )

index-front : (b : ℕ) (l : List ℕ) (n : ℕ) → index_of b (take n l) ≡ min n (index_of b l)
unfolding index_of index_after
index-front b [] zero = omega arith
index-front b [] (suc n) = omega arith
index-front b (c ∷ l) zero = omega arith
index-front b (c ∷ l) (suc n) = go (eqb c b) (index-front b l n)
  where
    go : (t : Bool) → index_of b (take n l) ≡ min n (index_of b l)
        → index_after t (index_of b (take n l)) ≡ min (suc n) (index_after t (index_of b l))
    go true h = omega arith
    go false h = omega (arith, h)

-- a time and the space after it are in the first 21 characters
front_time : (l : List ℕ) → timed_of (take 21 l) ≡ timed_of l
unfolding timed_of
front_time l = go (ltb k 21) refl (ltb k (length l)) refl
  where
    k : ℕ
    k = index_of space l

    j : ℕ
    j = index_of space (take 21 l)

    time : ℕ → List ℕ → Bool → Option (ℕ × ℕ)
    time i s t = cond (t && is_time (take i s)) (Some (decimal_of (take i s), i)) None

    at : j ≡ min 21 k
    at = index-front space l 21

    size : length (take 21 l) ≡ min 21 (length l)
    size = length-take 21 l

    go : (t : Bool) → ltb k 21 ≡ t → (u : Bool) → ltb k (length l) ≡ u
        → time j (take 21 l) (ltb j (length (take 21 l))) ≡ time k l (ltb k (length l))
    go true p true q =
        let a : k < 21 = ltb-true k 21 p in
        let b : k < length l = ltb-true k (length l) q in
        let e : j ≡ k = omega (arith, at) in
        rw (e, lt-ltb k (length (take 21 l)) (omega (arith, size)), q, take-take k 21 l (omega arith))
    go true p false q =
        let a : k < 21 = ltb-true k 21 p in
        let b : length l ≤ k = ltb-false k (length l) q in
        rw (le-ltb j (length (take 21 l)) (omega (arith, at, size)), q)
    go false p true q =
        let a : 21 ≤ k = ltb-false k 21 p in
        let b : k < length l = ltb-true k (length l) q in
        let e : length (take k l) ≡ k = length-take-le k l (omega arith) in
        rw (
          le-ltb j (length (take 21 l)) (omega (arith, at, size)),
          long-time (take k l) (omega (arith, e)),
          and-false (ltb k (length l)),
        )
    go false p false q =
        let a : 21 ≤ k = ltb-false k 21 p in
        rw (le-ltb j (length (take 21 l)) (omega (arith, at, size)), q)

pub front_of_text : (l : List ℕ) {n : ℕ} → n ≡ min (length l) 21 → timed_of (take n l) ≡ timed_of l
front_of_text l {n} e =
    let m : n ≡ min 21 (length l) = omega (arith, e) in
    rw (m, take_min 21 l) (front_time l)

long-line : (l : List ℕ) → line_limit ≤ length l → line_reading l ≡ bad
unfolding line_reading
long-line l h = go (ltb k (length l)) refl (ltb k 21) refl
  where
    k : ℕ
    k = index_of space l

    go : (t : Bool) → ltb k (length l) ≡ t → (u : Bool) → ltb k 21 ≡ u
        → cond (t && is_time (take k l) && is_hex (drop (suc k) l))
        (reception (decimal_of (take k l)) (hex_bytes (drop (suc k) l))) bad
        ≡ bad
    go false p u q = refl
    go true p true q =
        let e : 128 < length (drop (suc k) l) = simp length-drop (omega (arith, ltb-true k 21 q)) in
        rw (too_long (drop (suc k) l) e, and-false (is_time (take k l)))
    go true p false q =
        let e : length (take k l) ≡ k = length-take-le k l (omega (arith, ltb-true k (length l) p)) in
        rw (long-time (take k l) (omega (arith, e, ltb-false k 21 q)))

-- no list of another length is equal
other_length : (xs ys : List ℕ) → (length xs ≡ length ys → ⊥) → equal xs ys ≡ false
other_length [] [] n = absurd (n refl)
other_length [] (y ∷ ys) n = refl
other_length (x ∷ xs) [] n = refl
other_length (x ∷ xs) (y ∷ ys) n = rw (other_length xs ys (λ e. n (ap suc e)), and-false (eqb x y))

long-setting : (l : List ℕ) → line_limit ≤ length l → setting_of l ≡ None
unfolding setting_of
long-setting l h =
    rw (
      other_length l (level_line 0) (λ e. omega arith),
      other_length l (level_line 1) (λ e. omega arith),
      other_length l (level_line 2) (λ e. omega arith),
    )

-- a definition that is the same for all long lines
front : {A : Type 0} (f : List ℕ → A) (v : A) → ((l : List ℕ) → line_limit ≤ length l → f l ≡ v)
    → (l : List ℕ) → f (take line_limit l) ≡ f l
front f v long l = go (ltb (length l) line_limit) refl
  where
    go : (t : Bool) → ltb (length l) line_limit ≡ t → f (take line_limit l) ≡ f l
    go true e = rw (take_all line_limit l (omega (arith, ltb-true (length l) line_limit e)))
    go false e =
        let h : line_limit ≤ length l = ltb-false (length l) line_limit e in
        long (take line_limit l) (rw (length-take-le line_limit l h) (le_refl line_limit)) ∙ sym (long l h)

pub long-lines : LongLines
long-lines l h = record { reading = long-line l h; setting = long-setting l h }

pub fronts_tell : FrontsTell
fronts_tell l =
    record { reading = front line_reading bad long-line l; setting = front setting_of None long-setting l }
