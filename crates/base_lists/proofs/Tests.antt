-- What follows by the two outcomes of a test, and what tests over a list say of what is kept of it and of one with an element more at its end.
use Prim.Native.Nat.{ℕ, zero, suc, ◌+◌, ◌≤◌, ◌<◌, zero-le}
use native.Mathlib.Nat.{not-suc-le-zero, le_of_suc-le-suc}
use native.Mathlib.Omega.{arith}
use mathlib.Core.Path.{◌≡◌, refl, sym, ◌∙◌, ap, ap₂}
use mathlib.Core.Bool.{Bool, true, false, cond, not, ◌&&◌, ◌||◌, false≢true}
use mathlib.Core.List.Memᴰ
use mathlib.Core.List.{List, [], ◌∷◌, ◌++◌, map}
use mathlib.Core.Logic.{⊎_elim}
use lib.ListN.{length, get_or}
use borrow.Author.Tests.{not-true}
use Rattle.base_lists.specs.Lists.{keep, any, all, pairwise, count}
use Rattle.base_lists.proofs.Choice.{both}
use Rattle.base_lists.proofs.Members.{all_of, all_at}
use Rattle.base_lists.proofs.Keep.{keep_append, keep-from}
use Rattle.base_lists.proofs.Pairwise.{pairwise_append}

pub and-true : {a b : Bool} → a ≡ true → b ≡ true → a && b ≡ true
and-true p q = ap₂ ◌&&◌ p q

-- a property of a choice, by what its test says
pub branch {ℓ} : {A : Type ℓ} (P : A → Type 0) (b : Bool) {x y : A}
    → (b ≡ true → P x) → (b ≡ false → P y) → P (cond b x y)
branch P true p q = p refl
branch P false p q = q refl

pub by_test : {X : Type 0} (b : Bool) → (b ≡ true → X) → (b ≡ false → X) → X
by_test true p q = p refl
by_test false p q = q refl

module _ {A : Type 0} where
  -- of an implied test only the implying one is left
  pub keep-keep : (p q : A → Bool) → ((x : A) → p x ≡ true → q x ≡ true) → (l : List A) → keep p (keep q l) ≡ keep p l
  keep-keep p q h [] = refl
  keep-keep p q h (x ∷ l) = go (p x) (q x) refl (h x) (keep-keep p q h l)
    where
      go : (b c : Bool) → p x ≡ b → (b ≡ true → c ≡ true) → keep p (keep q l) ≡ keep p l
          → keep p (cond c (x ∷ keep q l) (keep q l)) ≡ cond b (x ∷ keep p l) (keep p l)
      go b true e k ih = rw (e, ih)
      go true false e k ih = absurd (false≢true (k refl))
      go false false e k ih = ih

  pub keep_last : (p : A → Bool) (l : List A) (x : A) → p x ≡ true → keep p (l ++ (x ∷ [])) ≡ keep p l ++ (x ∷ [])
  keep_last p l x e = rw (keep_append p l (x ∷ []), e)

  pub length-keep : (p : A → Bool) (l : List A) → length (keep p l) ≤ length l
  length-keep p [] = zero-le
  length-keep p (x ∷ l) = go (p x) (length-keep p l)
    where
      go : (b : Bool) → length (keep p l) ≤ length l → length (cond b (x ∷ keep p l) (keep p l)) ≤ suc (length l)
      go true ih = omega arith
      go false ih = omega arith

  pub all_both : (p q r : A → Bool) → ((x : A) → p x ≡ true → q x ≡ true → r x ≡ true)
      → (l : List A) → all p l ≡ true → all q l ≡ true → all r l ≡ true
  all_both p q r h l e f = all_of r l (λ x m. h x (all_at p m e) (all_at q m f))

  pub all_keep : (p q r : A → Bool) → ((x : A) → p x ≡ true → q x ≡ true → r x ≡ true)
      → (l : List A) → all p l ≡ true → all r (keep q l) ≡ true
  all_keep p q r h l e = all_of r (keep q l) (λ x m. let w = keep-from q l m in h x (all_at p w.0 e) w.1)

  pub all_append : (p : A → Bool) (xs ys : List A) → all p xs ≡ true → all p ys ≡ true → all p (xs ++ ys) ≡ true
  all_append p xs ys e f =
      all_of p (xs ++ ys) (λ y m. ⊎_elim (λ k. all_at p k e) (λ k. all_at p k f) (Memᴰ.append_cases xs m))

  pub all_last : (p : A → Bool) (l : List A) (x : A) → all p l ≡ true → p x ≡ true → all p (l ++ (x ∷ [])) ≡ true
  all_last p l x e f = all_append p l (x ∷ []) e (and-true f refl)

  pub none : (p : A → Bool) (l : List A) → any p l ≡ false → all (λ x. not (p x)) l ≡ true
  none p [] e = refl
  none p (x ∷ l) e = go (p x) e (none p l)
    where
      go : (b : Bool) → (b || any p l) ≡ false → (any p l ≡ false → all (λ y. not (p y)) l ≡ true)
          → (not b && all (λ y. not (p y)) l) ≡ true
      go true f k = absurd (false≢true (sym f))
      go false f k = k f

  pub none_back : (p : A → Bool) (l : List A) → all (λ x. not (p x)) l ≡ true → any p l ≡ false
  none_back p [] e = refl
  none_back p (x ∷ l) e =
      let w = both (not (p x)) (all (λ y. not (p y)) l) e in
      rw (not-true (p x) w.0) (none_back p l w.1)

  pub all_parts : (p : A → Bool) (xs ys : List A) → all p (xs ++ ys) ≡ true → (all p xs ≡ true) × (all p ys ≡ true)
  all_parts p [] ys e = (refl, e)
  all_parts p (x ∷ xs) ys e =
      let w = both (p x) (all p (xs ++ ys)) e in
      let r = all_parts p xs ys w.1 in
      (and-true w.0 r.0, r.1)

  -- two lists put together: pairwise in the second, and across
  pub pairwise_parts : (r : A → A → Bool) (xs ys : List A) → pairwise r (xs ++ ys) ≡ true
      → (pairwise r ys ≡ true) × (all (λ x. all (r x) ys) xs ≡ true)
  pairwise_parts r [] ys e = (e, refl)
  pairwise_parts r (x ∷ xs) ys e =
      let w = both (all (r x) (xs ++ ys)) (pairwise r (xs ++ ys)) e in
      let p = pairwise_parts r xs ys w.1 in
      (p.0, and-true (all_parts (r x) xs ys w.0).1 p.1)

  pub pairwise_last : (r : A → A → Bool) (l : List A) (x : A) → pairwise r l ≡ true
      → all (λ y. r y x) l ≡ true → pairwise r (l ++ (x ∷ [])) ≡ true
  pairwise_last r l x e f =
      pairwise_append r l (x ∷ []) e refl (λ y z k m. ap (r y) (Memᴰ.eq_of_singleton m) ∙ all_at (λ w. r w x) k f)

  -- two tests one after the other
  pub any_and : (p q : A → Bool) (l : List A) → any (λ x. p x && q x) l ≡ any q (keep p l)
  any_and p q [] = refl
  any_and p q (x ∷ l) = go (p x) (any_and p q l)
    where
      go : (b : Bool) → any (λ y. p y && q y) l ≡ any q (keep p l)
          → ((b && q x) || any (λ y. p y && q y) l) ≡ any q (cond b (x ∷ keep p l) (keep p l))
      go true ih = ap (λ z. q x || z) ih
      go false ih = ih

  pub keep_swap : (p q : A → Bool) (l : List A) → keep p (keep q l) ≡ keep q (keep p l)
  keep_swap p q [] = refl
  keep_swap p q (x ∷ l) = go (p x) refl (q x) refl (keep_swap p q l)
    where
      go : (b : Bool) → p x ≡ b → (c : Bool) → q x ≡ c → keep p (keep q l) ≡ keep q (keep p l)
          → keep p (cond c (x ∷ keep q l) (keep q l)) ≡ keep q (cond b (x ∷ keep p l) (keep p l))
      go true e true f h = rw (e, f, h)
      go true e false f h = rw (f, h)
      go false e true f h = rw (e, h)
      go false e false f h = h

  -- a test is not passed by what another test, which it implies where r holds, leaves out
  pub any_keep : (q p r : A → Bool) → ((x : A) → r x ≡ true → q x ≡ true → p x ≡ true)
      → (l : List A) → all r l ≡ true → any q (keep p l) ≡ any q l
  any_keep q p r h [] e = refl
  any_keep q p r h (x ∷ l) e =
      let w = both (r x) (all r l) e in
      go (p x) (q x) refl (h x w.0) (any_keep q p r h l w.1)
    where
      go : (b c : Bool) → q x ≡ c → (c ≡ true → b ≡ true) → any q (keep p l) ≡ any q l
          → any q (cond b (x ∷ keep p l) (keep p l)) ≡ (c || any q l)
      go true c f k ih = rw (f, ih)
      go false true f k ih = absurd (false≢true (k refl))
      go false false f k ih = ih

  pub count-length : (p : A → Bool) (l : List A) → count p l ≤ length l
  count-length p [] = zero-le
  count-length p (x ∷ l) = go (p x) (count-length p l)
    where
      go : (b : Bool) → count p l ≤ length l → cond b (count p l + 1) (count p l) ≤ suc (length l)
      go true h = omega arith
      go false h = omega arith

  pub all_get_d : (p : A → Bool) (l : List A) (i : ℕ) (d : A) → all p l ≡ true → i < length l → p (get_or l i d) ≡ true
  all_get_d p [] i d e h = absurd (not-suc-le-zero h)
  all_get_d p (x ∷ l) zero d e h = (both (p x) (all p l) e).0
  all_get_d p (x ∷ l) (suc i) d e h = all_get_d p l i d (both (p x) (all p l) e).1 (le_of_suc-le-suc h)

-- ---- tests of what a map makes

module _ {A B : Type 0} (g : A → B) where
  pub any_map : (p : B → Bool) (l : List A) → any p (map g l) ≡ any (λ x. p (g x)) l
  any_map p [] = refl
  any_map p (x ∷ l) = ap (λ (b : Bool). p (g x) || b) (any_map p l)

  pub all_map : (p : B → Bool) (l : List A) → all p (map g l) ≡ all (λ x. p (g x)) l
  all_map p [] = refl
  all_map p (x ∷ l) = ap (λ (b : Bool). p (g x) && b) (all_map p l)

  pub pairwise_mapped : (r : B → B → Bool) (l : List A) → pairwise r (map g l) ≡ pairwise (λ x y. r (g x) (g y)) l
  pairwise_mapped r [] = refl
  pairwise_mapped r (x ∷ l) = ap₂ ◌&&◌ (all_map (r (g x)) l) (pairwise_mapped r l)

-- an element of a map, whatever stands for one past the end
pub get_d_map : {A B : Type 0} (f : A → B) (l : List A) (i : ℕ) (d : A) (e : B)
    → i < length l → get_or (map f l) i e ≡ f (get_or l i d)
get_d_map f [] i d e h = absurd (not-suc-le-zero h)
get_d_map f (x ∷ l) zero d e h = refl
get_d_map f (x ∷ l) (suc i) d e h = get_d_map f l i d e (le_of_suc-le-suc h)
