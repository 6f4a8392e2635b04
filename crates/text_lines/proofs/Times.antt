-- Laws of the time at the start of a text: reading digits up to the first space gives the time that they say.
use Rattle.std.specs.Prelude.{Option, Some, None}
use mathlib.Core.Path.{◌≡◌, refl, sym, ap, ◌∙◌}
use mathlib.Core.Bool.{Bool, true, false, cond, not, ◌&&◌, and-false, false≢true}
use mathlib.Core.List.{List, [], ◌∷◌, ◌++◌, append-nil}
use Prim.Native.Nat.{ℕ, suc, ◌+◌, ◌^◌, ◌<◌, ◌≤◌}
use native.Mathlib.Omega.{arith}
use native.Mathlib.Numerals.{add-one}
use lib.Dec.{eqb, ltb, lit<}
use lib.ListN.{length, get_or, take, drop, length-append, drop_of_length-le}
use lib.Seq.{split_at, drop-cons, length-take-le, get_or-take, take-append_seam, take-append-add}
use borrow.Author.Tests.{lt-ltb, le-ltb, ne_eqb, eq-eqb, ltb-true, ltb-false, not-true, not-false}
use Rattle.std.specs.List.{position_or_len}
use Rattle.std.proofs.lemmas.List.Sums.{fails_before_first, passes_at_first}
use Rattle.base_bytes.specs.Bytes.{index_of, index_after}
use Rattle.base_lists.specs.Lists.{all}
use Rattle.base_lists.proofs.Choice.{both, cond_no, cond_yes}
use Rattle.base_lists.proofs.Tests.{by_test}
use Rattle.text_lines.specs.Ascii.{space, digit0}
use Rattle.text_lines.specs.Decimal.{is_digit, decimal_of, has_leading_zero, is_number, is_time, number_if, appended, timed_of}
use Rattle.text_lines.proofs.Digits.{number_after, all_places, number_whole, number_none, append_value, append_bad, append_fits, time_none, time-zero, time-number}
use Rattle.text_lines.proofs.Whole.{found_at, index_past, space_behind}

-- ---- the number that digits say

pub no_digits : (s : List ℕ) → length s ≡ 0 → None ≡ number_if (is_time s) (decimal_of s)
no_digits s e = rw (time_none s e)

pub zero_first : (s : List ℕ) → ltb 1 (length s) && eqb (get_or s 0 0) digit0 ≡ true
    → None ≡ number_if (is_time s) (decimal_of s)
zero_first s e = rw (time-zero s e)

-- n says the first i digits: going on with the others gives the number
pub record Begun (s : List ℕ) (n i : ℕ) : Type 0 where
  pub fits : n < 2 ^ 64
  pub value : number_after n (drop i s) ≡ number_if (is_time s) (decimal_of s)

-- not empty, and without a leading zero
pub begun_none : (s : List ℕ) → (length s ≡ 0 → ⊥) → ltb 1 (length s) && eqb (get_or s 0 0) digit0 ≡ false → Begun s 0 0
begun_none s some plain = record { fits = lit< tt; value = rw (time-number s some plain) (number_whole s) }

-- the next digit
module _ {s : List ℕ} {n i : ℕ} (b : Begun s n i) (more : i < length s) where
  here : drop i s ≡ get_or s i 0 ∷ drop (suc i) s
  here = drop-cons s i 0 more

  pub begun_next : {m : ℕ} → appended n (get_or s i 0) ≡ Some m → Begun s m (i + 1)
  begun_next e =
      record {
        fits = append_fits n (get_or s i 0) e;
        value = rw add-one (sym (append_value n (get_or s i 0) (drop (suc i) s) e) ∙ rw here at b.value);
      }

  pub wrong_digit : appended n (get_or s i 0) ≡ None → None ≡ number_if (is_time s) (decimal_of s)
  wrong_digit e = sym (append_bad n (get_or s i 0) (drop (suc i) s) e) ∙ rw here at b.value

pub all_read : {s : List ℕ} {n i : ℕ} → Begun s n i → length s ≤ i → Some n ≡ number_if (is_time s) (decimal_of s)
all_read {s} {n} {i} b h = sym (number_none n b.fits) ∙ rw (drop_of_length-le s h) at b.value

-- ---- the digits at the front of a text

-- what stands among digits
digit_in : (s r : List ℕ) (c : ℕ) → all is_digit (s ++ (c ∷ r)) ≡ true → is_digit c ≡ true
digit_in [] r c e = (both (is_digit c) (all is_digit r) e).0
digit_in (x ∷ s) r c e = digit_in s r c (both (is_digit x) (all is_digit (s ++ (c ∷ r))) e).1

space_next : (c : ℕ) (rest : List ℕ) → c ≡ space → index_of space (c ∷ rest) ≡ 0
unfolding index_of index_after
space_next c rest e = rw (eq-eqb c space e)

other_next : (c : ℕ) (rest : List ℕ) → (c ≡ space → ⊥) → index_of space (c ∷ rest) ≡ suc (index_of space rest)
unfolding index_of index_after
other_next c rest e = rw (ne_eqb c space e)

-- the first k characters are digits
module _ (text : List ℕ) {k : ℕ} (within : k < length text)
    (digits : (j : ℕ) → j < k → is_digit (get_or text j 0) ≡ true) where
  abbrev s : List ℕ
  s = take k text

  abbrev c : ℕ
  c = get_or text k 0

  abbrev rest : List ℕ
  rest = drop (suc k) text

  size : length s ≡ k
  size = length-take-le k text (omega arith)

  are_digits : all is_digit s ≡ true
  are_digits =
      all_places is_digit s
      (λ j h. rw (get_or-take k text j 0 (omega (arith, size))) (digits j (omega (arith, size))))

  split : text ≡ s ++ (c ∷ rest)
  split = split_at text k 0 within

  index-over : index_of space text ≡ k + index_of space (c ∷ rest)
  index-over =
      ap (index_of space) split ∙ index_past space is_digit refl s (c ∷ rest) are_digits
      ∙ ap (λ (n : ℕ). n + index_of space (c ∷ rest)) size

  -- the next one is a space
  time_ends : c ≡ space → timed_of text ≡ cond (is_time s) (Some (decimal_of s, k)) None
  unfolding timed_of
  time_ends e =
      let here : index_of space text ≡ k = omega (arith, index-over, space_next c rest e) in
      rw (here, lt-ltb k (length text) within)

  -- the next one is neither a digit nor a space
  wrong_end : is_digit c ≡ false → (c ≡ space → ⊥) → None ≡ timed_of text
  unfolding timed_of is_time is_number
  wrong_end e other =
      let m = index_of space rest in
      let n = index_of space text in
      let there : n ≡ k + suc m = index-over ∙ ap (λ (i : ℕ). k + i) (other_next c rest other) in
      let front : take n text ≡ s ++ (c ∷ take m rest) =
      ap (λ (i : ℕ). take i text) there ∙ ap (take (k + suc m)) split
      ∙ ap (λ (i : ℕ). take (i + suc m) (s ++ (c ∷ rest))) (sym size) ∙ take-append-add s (c ∷ rest) (suc m) in
      let not_all : all is_digit (take n text) ≡ false =
      by_test (all is_digit (take n text))
      (λ t. absurd (false≢true (sym e ∙ digit_in s (take m rest) c (rw front at t)))) (λ f. f) in
      rw (
        not_all,
        and-false (ltb 0 (length (take n text)) && not (has_leading_zero (take n text))),
        and-false (ltb n (length text)),
      )

-- ---- where the first character stands that is no digit

abbrev pub is_other : ℕ → Bool
is_other x = not (is_digit x)

abbrev pub digits_end : List ℕ → ℕ
digits_end text = position_or_len is_other text

digits_before : (text : List ℕ) {k : ℕ} → k ≤ digits_end text
    → (j : ℕ) → j < k → is_digit (get_or text j 0) ≡ true
digits_before text h j l = not-false (is_digit (get_or text j 0)) (fails_before_first is_other text j 0 (omega arith))

-- what a search for it answers
module _ (text : List ℕ) where
  abbrev pub found : Option ℕ
  found = cond (ltb (digits_end text) (length text)) (Some (digits_end text)) None

  pub endless : found ≡ None → None ≡ timed_of text
  unfolding timed_of index_of
  endless e =
      let h : length text ≤ digits_end text =
      ltb-false (digits_end text) (length text) (cond_no (ltb (digits_end text) (length text)) (λ z. cc) e).0 in
      let past : index_of space (text ++ []) ≡ length text + 0 =
      index_past space is_digit refl text [] (all_places is_digit text (digits_before text h)) in
      let far : length text ≤ index_of space text = let e = rw (append-nil text) at past in omega arith in
      rw (le-ltb (index_of space text) (length text) far)

  module _ {k : ℕ} (e : found ≡ Some k) where
    at_k : digits_end text ≡ k
    at_k = let y = cond_yes (ltb (digits_end text) (length text)) (λ z. cc) e in let z = y.1 in cc

    pub end_within : k < length text
    end_within =
        let y = cond_yes (ltb (digits_end text) (length text)) (λ z. cc) e in
        rw at_k at (ltb-true (digits_end text) (length text) y.0)

    before : (j : ℕ) → j < k → is_digit (get_or text j 0) ≡ true
    before = digits_before text (omega (arith, at_k))

    abbrev number_there : Option ℕ
    number_there = number_if (is_time (take k text)) (decimal_of (take k text))

    pub ends_large : get_or text k 0 ≡ space → None ≡ number_there → None ≡ timed_of text
    ends_large s n =
        let y = cond_no (is_time (take k text)) (λ z. cc) (sym n) in
        sym (time_ends text end_within before s ∙ rw y.0)

    pub ends_time : {m : ℕ} → get_or text k 0 ≡ space → Some m ≡ number_there
        → ◌≡◌ {A = Option (ℕ × ℕ)} (Some (m, k)) (timed_of text)
    ends_time {m} s n =
        let y = cond_yes (is_time (take k text)) (λ z. cc) (sym n) in
        let value : decimal_of (take k text) ≡ m = let z = y.1 in cc in
        sym (time_ends text end_within before s ∙ rw (y.0, value))

    pub ends_wrong : (get_or text k 0 ≡ space → ⊥) → None ≡ timed_of text
    ends_wrong =
        let h = passes_at_first is_other text 0 (omega (arith, at_k, end_within)) in
        wrong_end text end_within before (not-true (is_digit (get_or text k 0)) (rw at_k at h))

-- ---- both ways

-- what the time at the start of a text is made of
pub record Timely (text : List ℕ) (t k : ℕ) : Type 0 where
  pub within : k < length text
  pub behind : get_or text k 0 ≡ space
  pub right : is_time (take k text) ≡ true
  pub says : decimal_of (take k text) ≡ t

pub same_parts : {t k n m : ℕ} → ◌≡◌ {A = Option (ℕ × ℕ)} (Some (t, k)) (Some (n, m)) → (t ≡ n) × (k ≡ m)
same_parts {t} {k} {n} {m} e =
    let time : Option (ℕ × ℕ) → ℕ = λ x. elim x as (λ _. ℕ) [ None ↦ 0 | Some y ↦ y.0 ] in
    let digits : Option (ℕ × ℕ) → ℕ = λ x. elim x as (λ _. ℕ) [ None ↦ 0 | Some y ↦ y.1 ] in
    (ap time e, ap digits e)

pub timely : (text : List ℕ) {t k : ℕ} → timed_of text ≡ Some (t, k) → Timely text t k
unfolding timed_of
timely text {t} {k} e =
    let n = index_of space text in
    let y = cond_yes (ltb n (length text) && is_time (take n text)) (λ z. cc) e in
    let u = both (ltb n (length text)) (is_time (take n text)) y.0 in
    let z = same_parts y.1 in
    let here : n ≡ k = z.1 in
    let value : decimal_of (take n text) ≡ t = z.0 in
    let within : n < length text = ltb-true n (length text) u.0 in
    record {
      within = omega arith;
      behind = rw here at (found_at space text within);
      right = rw here at u.1;
      says = rw here at value;
    }

pub timed-joined : (s r : List ℕ) → is_time s ≡ true → timed_of (s ++ (space ∷ r)) ≡ Some (decimal_of s, length s)
unfolding timed_of
timed-joined s r e =
    rw (
      space_behind s r e,
      lt-ltb (length s) (length (s ++ (space ∷ r))) (simp length-append (omega arith)),
      take-append_seam s (space ∷ r),
      e,
    )
