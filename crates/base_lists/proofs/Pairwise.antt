-- `pairwise` of two lists put together, of what `keep` leaves, and of two tests at once.
use mathlib.Core.Path.{◌≡◌, refl}
use mathlib.Core.Bool.{Bool, true, false, cond, ◌&&◌}
use mathlib.Core.List.Memᴰ
use mathlib.Core.List.{List, [], ◌∷◌, ◌++◌, Memᴰ}
use mathlib.Core.Logic.{⊎_elim}
use Rattle.base_lists.specs.Lists.{keep, all, pairwise}
use Rattle.base_lists.proofs.Choice.{both}
use Rattle.base_lists.proofs.Keep.{keep-from}
use Rattle.base_lists.proofs.Members.{all_of, all_at}

module _ {A : Type 0} (r : A → A → Bool) where
  pub pairwise_append : (xs ys : List A) → pairwise r xs ≡ true → pairwise r ys ≡ true
      → ((x y : A) → Memᴰ x xs → Memᴰ y ys → r x y ≡ true) → pairwise r (xs ++ ys) ≡ true
  pairwise_append [] ys s t h = t
  pairwise_append (x ∷ xs) ys s t h =
      let w = both (all (r x) xs) (pairwise r xs) s in
      rw (all_of (r x) (xs ++ ys)
      (λ y m. ⊎_elim (λ k. all_at (r x) k w.0) (λ k. h x y (Memᴰ.head refl) k) (Memᴰ.append_cases xs m)))
      (pairwise_append xs ys w.1 t (λ z y k l. h z y (Memᴰ.tail k) l))

  pub pairwise-keep : (p : A → Bool) (xs : List A) → pairwise r xs ≡ true → pairwise r (keep p xs) ≡ true
  pairwise-keep p [] s = refl
  pairwise-keep p (x ∷ xs) s =
      let w = both (all (r x) xs) (pairwise r xs) s in
      step (p x) (pairwise-keep p xs w.1)
      (all_of (r x) (keep p xs) (λ y m. all_at (r x) (keep-from p xs m).0 w.0))
    where
      step : (t : Bool) → pairwise r (keep p xs) ≡ true → all (r x) (keep p xs) ≡ true
          → pairwise r (cond t (x ∷ keep p xs) (keep p xs)) ≡ true
      step true k l = rw l k
      step false k l = k

-- ---- two tests at once

swapped : (a b c d : Bool) → ((a && b) && (c && d)) ≡ ((a && c) && (b && d))
swapped true true c d = refl
swapped true false true d = refl
swapped true false false d = refl
swapped false b c d = refl

pub all_and : {A : Type 0} (p q : A → Bool) (l : List A) → all (λ x. p x && q x) l ≡ (all p l && all q l)
all_and p q [] = refl
all_and p q (x ∷ l) = rw (all_and p q l) (swapped (p x) (q x) (all p l) (all q l))

pub pairwise_and : {A : Type 0} (r s : A → A → Bool) (l : List A)
    → pairwise (λ x y. r x y && s x y) l ≡ (pairwise r l && pairwise s l)
pairwise_and r s [] = refl
pairwise_and r s (x ∷ l) =
    rw (all_and (r x) (s x) l, pairwise_and r s l) (swapped (all (r x) l) (all (s x) l) (pairwise r l) (pairwise s l))
