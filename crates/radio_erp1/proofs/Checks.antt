-- The cases of `hash_of` and `check_of`, each from the facts that its tests give, and what holds of a valid subtelegram.
use Rattle.std.proofs.Common.{◌≡◌, ℕ, ◌-◌, ◌/◌, ◌%◌, ◌<◌, ◌≤◌, false, ◌&&◌, ltb, List, [], ◌∷◌, length, get_or, take, sym, refl, ap, ◌∙◌, arith, length-take-le, get_or-take, take-take, ltb-false, le-ltb, lt-ltb, eq-eqb, ne_eqb, eqb-true}
use borrow.Author.Tests.{eqb-false, not-false}
use Rattle.base_lists.proofs.Choice.{cond_no, neither}
use Rattle.base_refusal.specs.Number.{number_of, outcome_number}
use Rattle.base_refusal.specs.declared.Refusal.{Refusal}
use Rattle.base_refusal.specs.declared.Refusal.TheVariants.{Length, Nested}
use Rattle.base_refusal.proofs.Numbers.{refused-number}
use Rattle.base_crc8.specs.Crc8.{crc_of}
use Rattle.radio_erp1.specs.Subtelegram.{min_length, max_length, min_addressed_length, addressed, sum_of, last_byte, body_of, status_of, hash_of, wrong_hash, is_addressed, is_nested, check_of, is_valid, before_status}

-- ---- the two hashes

module _ (body : List ℕ) where
  pub hash_crc : last_byte body / 128 ≡ 1 → crc_of body ≡ hash_of body
  unfolding hash_of
  hash_crc h = simp (eq-eqb (last_byte body / 128) 1 h)

  pub hash_sum : (last_byte body / 128 ≡ 1 → ⊥) → sum_of body % 256 ≡ hash_of body
  unfolding hash_of
  hash_sum h = simp (ne_eqb (last_byte body / 128) 1 h)

pub hash_none : (body : List ℕ) → length body ≡ 0 → 0 ≡ hash_of body
unfolding hash_of
hash_none [] h = refl
hash_none (b ∷ bs) h = absurd (omega arith)

-- ---- STATUS and what stands before it, by their indices

module _ (s : List ℕ) (h : 2 ≤ length s) where
  body_length_lem : length (body_of s) ≡ length s - 1
  body_length_lem = length-take-le (length s - 1) s (omega arith)

  pub status_at : status_of s ≡ get_or s (length s - 2) 0
  status_at =
      let e : length (body_of s) - 1 ≡ length s - 2 = omega (arith, body_length_lem) in
      rw e (get_or-take (length s - 1) s (length s - 2) 0 (omega arith))

  pub front_at : before_status s ≡ take (length s - 2) s
  front_at =
      let e : length (body_of s) - 1 ≡ length s - 2 = omega (arith, body_length_lem) in
      rw e (take-take (length s - 2) (length s - 1) s (omega arith))

-- ---- the check

-- what holds of a valid subtelegram
pub record Sound (s : List ℕ) : Type 0 where
  pub low : min_length ≤ length s
  pub high : length s ≤ max_length
  pub hashed : last_byte s ≡ hash_of (body_of s)
  pub inner : get_or s 0 0 ≡ addressed → (min_addressed_length ≤ length s) × (get_or s 1 0 ≡ addressed → ⊥)

module _ (s : List ℕ) where
  pub check-short : length s < min_length → number_of Length ≡ check_of s
  unfolding check_of
  check-short h = simp (lt-ltb _ _ h)

  pub check-long : max_length < length s → number_of Length ≡ check_of s
  unfolding check_of
  check-long h = simp (le-ltb (length s) min_length (omega arith), lt-ltb _ _ h)

  module _ (low : min_length ≤ length s) (high : length s ≤ max_length) where
    pub check_hash : (last_byte s ≡ hash_of (body_of s) → ⊥)
        → number_of (wrong_hash (get_or s (length s - 2) 0)) ≡ check_of s
    unfolding check_of
    check_hash h = rw (← status_at s (omega arith)) (simp (le-ltb _ _ low, le-ltb _ _ high, ne_eqb _ _ h))

    module _ (hashed : last_byte s ≡ hash_of (body_of s)) where
      pub check-plain : (get_or s 0 0 ≡ addressed → ⊥) → 0 ≡ check_of s
      unfolding check_of
      check-plain h = simp (le-ltb _ _ low, le-ltb _ _ high, eq-eqb _ _ hashed, ne_eqb _ _ h)

      module _ (first : get_or s 0 0 ≡ addressed) where
        pub check_cut : length s < min_addressed_length → number_of Length ≡ check_of s
        unfolding check_of
        check_cut h = simp (le-ltb _ _ low, le-ltb _ _ high, eq-eqb _ _ hashed, eq-eqb _ _ first, lt-ltb _ _ h)

        pub check_nested : min_addressed_length ≤ length s → get_or s 1 0 ≡ addressed → number_of Nested ≡ check_of s
        unfolding check_of
        check_nested l h =
            simp (le-ltb _ _ low, le-ltb _ _ high, eq-eqb _ _ hashed, eq-eqb _ _ first, le-ltb _ _ l, eq-eqb _ _ h)

        pub check-addressed : min_addressed_length ≤ length s → (get_or s 1 0 ≡ addressed → ⊥) → 0 ≡ check_of s
        unfolding check_of
        check-addressed l h =
            simp (le-ltb _ _ low, le-ltb _ _ high, eq-eqb _ _ hashed, eq-eqb _ _ first, le-ltb _ _ l, ne_eqb _ _ h)

pub check_facts : (s : List ℕ) → check_of s ≡ 0 → Sound s
unfolding check_of
check_facts s e =
    let p = cond_no _ (refused-number Length) e in
    let q = cond_no _ (refused-number (wrong_hash (status_of s))) p.1 in
    let r = cond_no _ (refused-number Length) q.1 in
    let u = cond_no _ (refused-number Nested) r.1 in
    let l = neither (ltb (length s) min_length) (ltb max_length (length s)) p.0 in
    let long : (is_addressed s && ltb (length s) min_addressed_length) ≡ false = r.0 in
    let once : (is_addressed s && is_nested s) ≡ false = u.0 in
    record {
      low = ltb-false _ _ l.0;
      high = ltb-false _ _ l.1;
      hashed = eqb-true _ _ (not-false _ q.0);
      inner = λ a. (ltb-false _ _ (rw (eq-eqb _ _ a) at long), eqb-false _ _ (rw (eq-eqb _ _ a) at once));
    }

-- a refusal's number is not that of a valid one
pub not_valid : (s : List ℕ) (why : Refusal) → number_of why ≡ check_of s → is_valid s ≡ false
not_valid s why e = ne_eqb (check_of s) 0 (λ z. refused-number why (e ∙ z))
