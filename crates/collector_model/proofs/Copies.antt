-- Laws of the numbers of copies.
--     credit-at                                      the entry at each index after a credit: the last that passes has it
--     length-credit, all-credit, pairwise-credit     what a credit leaves as it is
--     keep-credit, credit-and, keep-other            the telegram that is credited is one of those that are kept, or is not
--     credit-cap, cap-small                          the ceiling
use Prim.Native.Nat.{ℕ, zero, suc, ◌+◌, ◌<◌}
use native.Mathlib.Nat.{not-suc-le-zero, le_of_suc-le-suc, suc_inj}
use native.Mathlib.Omega.{arith}
use mathlib.Core.Path.{◌≡◌, refl, sym, ◌∙◌, ap, ap₂}
use mathlib.Core.Bool.{Bool, true, false, cond, ◌&&◌, false≢true}
use mathlib.Core.List.{List, [], ◌∷◌, map}
use lib.Dec.{leb, eqb}
use lib.ListN.{length, get_or}
use borrow.Author.Tests.{leb-true, eq-eqb, ne_eqb, eqb-true, eqb-false}
use Rattle.base_lists.specs.Lists.{keep, any, all, pairwise, last_index}
use Rattle.base_lists.proofs.Choice.{both, neither}
use Rattle.base_lists.proofs.Tests.{and-true, branch, by_test, all_both, any_keep, any_map}
use Rattle.collector_model.specs.View.{Entry, recount, ceiling, capped}
use Rattle.collector_model.specs.Step.{credit}

-- stands for an entry past the end
abbrev pub no_entry : Entry
no_entry = record { bytes = []; time = 0; copies = 0 }

eqb-suc : (m n : ℕ) → eqb m n ≡ eqb (suc m) (suc n)
eqb-suc m n = by_test (eqb m n) (λ e. e ∙ sym (eq-eqb (suc m) (suc n) (ap suc (eqb-true m n e))))
    (λ e. e ∙ sym (ne_eqb (suc m) (suc n) (λ f. eqb-false m n e (suc_inj f))))

module _ (more : ℕ → ℕ) (q : Entry → Bool) where
  -- ---- by index

  -- the entry at each index: the last that passes is credited, and no other
  pub credit_at : (d : Entry) (l : List Entry) (k : ℕ) → k < length l
      → get_or (credit more q l) k d ≡ cond (eqb k (last_index q l)) (recount more (get_or l k d)) (get_or l k d)
  credit_at d [] k h = absurd (not-suc-le-zero h)
  credit_at d (x ∷ l) zero h = go (any q l) (q x)
    where
      go : (c b : Bool) → get_or (cond c (x ∷ credit more q l) (cond b (recount more x ∷ l) (x ∷ l))) 0 d
          ≡ cond (eqb 0 (cond c (suc (last_index q l)) (cond b 0 (suc (length l))))) (recount more x) x
      go true b = rw (ne_eqb 0 (suc (last_index q l)) (λ e. absurd (omega arith)))
      go false true = refl
      go false false = rw (ne_eqb 0 (suc (length l)) (λ e. absurd (omega arith)))
  credit_at d (x ∷ l) (suc k) h = go (any q l) (q x) (credit_at d l k (le_of_suc-le-suc h))
    where
      go : (c b : Bool)
          → get_or (credit more q l) k d ≡ cond (eqb k (last_index q l)) (recount more (get_or l k d)) (get_or l k d)
          → get_or (cond c (x ∷ credit more q l) (cond b (recount more x ∷ l) (x ∷ l))) (suc k) d
          ≡ cond (eqb (suc k) (cond c (suc (last_index q l)) (cond b 0 (suc (length l)))))
          (recount more (get_or l k d)) (get_or l k d)
      go true b ih = ih ∙ ap (λ (t : Bool). cond t (recount more (get_or l k d)) (get_or l k d))
          (eqb-suc k (last_index q l))
      go false true ih = rw (ne_eqb (suc k) 0 (λ e. absurd (omega arith)))
      go false false ih = rw (ne_eqb (suc k) (suc (length l)) (λ e. absurd (omega arith)))

  -- ---- what it leaves as it is

  credit_none : (l : List Entry) → any q l ≡ false → credit more q l ≡ l
  credit_none [] e = refl
  credit_none (x ∷ l) e = let w = neither (q x) (any q l) e in rw (w.0, w.1)

  pub length-credit : (l : List Entry) → length (credit more q l) ≡ length l
  length-credit [] = refl
  length-credit (x ∷ l) =
      branch (λ m. length m ≡ suc (length l)) (any q l) (λ _. ap suc (length-credit l))
      λ _. branch (λ m. length m ≡ suc (length l)) (q x) (λ _. refl) (λ _. refl)

  pub all_credit : (p : Entry → Bool) → ((e : Entry) → p e ≡ true → p (recount more e) ≡ true)
      → (l : List Entry) → all p l ≡ true → all p (credit more q l) ≡ true
  all_credit p h [] e = refl
  all_credit p h (x ∷ l) e =
      let w = both (p x) (all p l) e in
      branch (λ m. all p m ≡ true) (any q l) (λ _. and-true w.0 (all_credit p h l w.1))
      λ _. branch (λ m. all p m ≡ true) (q x) (λ _. and-true (h x w.0) w.1) (λ _. e)

  pub pairwise-credit : (r : Entry → Entry → Bool)
      → ((x y : Entry) → r x y ≡ true → r (recount more x) y ≡ true)
      → ((x y : Entry) → r x y ≡ true → r x (recount more y) ≡ true)
      → (l : List Entry) → pairwise r l ≡ true → pairwise r (credit more q l) ≡ true
  pairwise-credit r left right [] e = refl
  pairwise-credit r left right (x ∷ l) e =
      let w = both (all (r x) l) (pairwise r l) e in
      branch (λ m. pairwise r m ≡ true) (any q l)
      (λ _. and-true (all_credit (r x) (right x) l w.0) (pairwise-credit r left right l w.1))
      λ _. branch (λ m. pairwise r m ≡ true) (q x)
      (λ _. and-true (all_both (r x) (r x) (r (recount more x)) (λ y k _. left x y k) l w.0 w.0) w.1) (λ _. e)

  -- ---- kept entries

  -- where what passes is kept, and a count does not matter for it, the credit is the same before and after
  pub keep-credit : (p : Entry → Bool) → ((e : Entry) → p (recount more e) ≡ p e) → (r : Entry → Bool)
      → ((e : Entry) → r e ≡ true → q e ≡ true → p e ≡ true) → (l : List Entry)
      → all r l ≡ true → keep p (credit more q l) ≡ credit more q (keep p l)
  keep-credit p still r h [] a = refl
  keep-credit p still r h (x ∷ l) a =
      let w = both (r x) (all r l) a in
      go (any q l) (q x) refl (p x) refl (h x w.0) (any_keep q p r h l w.1) (keep-credit p still r h l w.1)
    where
      go : (c d : Bool) → q x ≡ d → (b : Bool) → p x ≡ b → (d ≡ true → b ≡ true) → any q (keep p l) ≡ c
          → keep p (credit more q l) ≡ credit more q (keep p l)
          → keep p (cond c (x ∷ credit more q l) (cond d (recount more x ∷ l) (x ∷ l)))
          ≡ credit more q (cond b (x ∷ keep p l) (keep p l))
      go true d e true f k al ih = rw (f, al, ih)
      go true d e false f k al ih = rw (f, ih)
      go false true e true f k al ih = rw (still x, f, al, e)
      go false true e false f k al ih = absurd (false≢true (k refl))
      go false false e true f k al ih = rw (f, al, e)
      go false false e false f k al ih = rw f (sym (credit_none (keep p l) al))

  -- where what passes is not kept, what is kept stays as it is
  pub keep-other : (p : Entry → Bool) → ((e : Entry) → p (recount more e) ≡ p e) → (r : Entry → Bool)
      → ((e : Entry) → r e ≡ true → q e ≡ true → p e ≡ false) → (l : List Entry)
      → all r l ≡ true → keep p (credit more q l) ≡ keep p l
  keep-other p still r h [] a = refl
  keep-other p still r h (x ∷ l) a =
      let w = both (r x) (all r l) a in
      go (any q l) (q x) (h x w.0) (keep-other p still r h l w.1)
    where
      go : (c d : Bool) → (d ≡ true → p x ≡ false) → keep p (credit more q l) ≡ keep p l
          → keep p (cond c (x ∷ credit more q l) (cond d (recount more x ∷ l) (x ∷ l)))
          ≡ cond (p x) (x ∷ keep p l) (keep p l)
      go true d k ih = rw ih
      go false true k ih = rw (still x, k refl)
      go false false k ih = refl

-- among those that pass p, p need not be asked again
pub credit_and : (more : ℕ → ℕ) (p q : Entry → Bool) (l : List Entry)
    → credit more (λ e. p e && q e) (keep p l) ≡ credit more q (keep p l)
credit_and more p q l = same (keep p l) (passed l)
  where
    passed : (l : List Entry) → all p (keep p l) ≡ true
    passed [] = refl
    passed (x ∷ l) = branch (λ m. all p m ≡ true) (p x) (λ e. and-true e (passed l)) (λ _. passed l)

    same_any : (l : List Entry) → all p l ≡ true → any (λ e. p e && q e) l ≡ any q l
    same_any [] e = refl
    same_any (x ∷ l) e = let w = both (p x) (all p l) e in rw (w.0, same_any l w.1)

    same : (l : List Entry) → all p l ≡ true → credit more (λ e. p e && q e) l ≡ credit more q l
    same [] e = refl
    same (x ∷ l) e = let w = both (p x) (all p l) e in rw (w.0, same_any l w.1, same l w.1)

-- ---- the ceiling

-- a count that stays at the ceiling, counted on
pub credit_cap : (q : Entry → Bool) → ((e : Entry) → q (recount capped e) ≡ q e) → (l : List Entry)
    → map (recount capped) (credit (λ n. n + 1) q l) ≡ credit (λ n. capped (n + 1)) q (map (recount capped) l)
credit_cap q still [] = refl
credit_cap q still (x ∷ l) =
    let same : any q (map (recount capped) l) ≡ any q l =
    any_map (recount capped) q l ∙ (λ i. any (λ e. still e i) l) in
    rw (same, still x) (go (any q l) (q x) (credit_cap q still l))
  where
    on : capped (x.copies + 1) ≡ capped (capped x.copies + 1)
    on = omega arith

    go : (c b : Bool)
        → map (recount capped) (credit (λ n. n + 1) q l) ≡ credit (λ n. capped (n + 1)) q (map (recount capped) l)
        → map (recount capped) (cond c (x ∷ credit (λ n. n + 1) q l) (cond b (recount (λ n. n + 1) x ∷ l) (x ∷ l)))
        ≡ cond c (recount capped x ∷ credit (λ n. capped (n + 1)) q (map (recount capped) l))
        (cond b (recount (λ n. capped (n + 1)) (recount capped x) ∷ map (recount capped) l)
        (recount capped x ∷ map (recount capped) l))
    go true b ih = ap (λ (m : List Entry). recount capped x ∷ m) ih
    go false true ih =
        ap (λ (n : ℕ). record { bytes = x.bytes; time = x.time; copies = n } ∷ map (recount capped) l) on
    go false false ih = refl

pub cap_small : (l : List Entry) → all (λ e. leb e.copies ceiling) l ≡ true → map (recount capped) l ≡ l
cap_small [] e = refl
cap_small (x ∷ l) e =
    let w = both (leb x.copies ceiling) (all (λ y. leb y.copies ceiling) l) e in
    let n : capped x.copies ≡ x.copies = omega (arith, leb-true x.copies ceiling w.0) in
    ap₂ ◌∷◌ (ap (λ (c : ℕ). record { bytes = x.bytes; time = x.time; copies = c }) n) (cap_small l w.1)
