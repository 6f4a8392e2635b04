-- `keep` over lists put together, and what it keeps.
use mathlib.Core.Path.{◌≡◌, refl, sym, ◌∙◌, ap}
use mathlib.Core.Bool.{Bool, true, false, cond}
use mathlib.Core.List.Memᴰ
use mathlib.Core.List.{List, [], ◌∷◌, ◌++◌, map, flat_map, Memᴰ}
use mathlib.Core.Logic.{⊎_elim}
use Rattle.base_lists.specs.Lists.{keep, all}
use Rattle.base_lists.proofs.Choice.{both, cond-ap}

module _ {A : Type 0} (p : A → Bool) where
  pub keep_append : (xs ys : List A) → keep p (xs ++ ys) ≡ keep p xs ++ keep p ys
  keep_append [] ys = refl
  keep_append (x ∷ xs) ys =
      rw (keep_append xs ys) (sym (cond-ap (λ (l : List A). l ++ keep p ys) (p x) (x ∷ keep p xs) (keep p xs)))

  pub keep-map : {B : Type 0} (g : B → A) (xs : List B) → keep p (map g xs) ≡ map g (keep (λ x. p (g x)) xs)
  keep-map g [] = refl
  keep-map g (x ∷ xs) =
      rw (keep-map g xs) (sym (cond-ap (map g) (p (g x)) (x ∷ keep (λ y. p (g y)) xs) (keep (λ y. p (g y)) xs)))

  pub keep-flat_map : {B : Type 0} (g : B → List A) (xs : List B)
      → keep p (flat_map g xs) ≡ flat_map (λ x. keep p (g x)) xs
  unfolding flat_map
  keep-flat_map g [] = refl
  keep-flat_map g (x ∷ xs) = rw (keep_append (g x), keep-flat_map g xs)

  -- an element that passes is kept
  pub keep_in : {x : A} {xs : List A} → Memᴰ x xs → p x ≡ true → Memᴰ x (keep p xs)
  keep_in (Memᴰ.head {x = y} e) h = rw (← e, h) (Memᴰ.head refl)
  keep_in {x} (Memᴰ.tail {x = y} {xs = ys} m) h = step (p y) (keep_in m h)
    where
      step : (t : Bool) → Memᴰ x (keep p ys) → Memᴰ x (cond t (y ∷ keep p ys) (keep p ys))
      step true k = Memᴰ.tail k
      step false k = k

  -- what is kept was there and passes
  pub keep-from : {x : A} (xs : List A) → Memᴰ x (keep p xs) → Memᴰ x xs × (p x ≡ true)
  keep-from [] m = absurd (Memᴰ.not-nil m)
  keep-from {x} (y ∷ ys) m = step (p y) refl m (λ (k : Memᴰ x (keep p ys)). keep-from ys k)
    where
      step : (t : Bool) → p y ≡ t → Memᴰ x (cond t (y ∷ keep p ys) (keep p ys))
          → (Memᴰ x (keep p ys) → Memᴰ x ys × (p x ≡ true)) → Memᴰ x (y ∷ ys) × (p x ≡ true)
      step true e k below =
          ⊎_elim (λ q. (Memᴰ.head q, ap p q ∙ e))
          (λ l. (Memᴰ.tail (below l).0, (below l).1)) (Memᴰ.cases_cons k)
      step false e k below = (Memᴰ.tail (below k).0, (below k).1)

-- two tests that agree keep the same
pub keep_same : {A : Type 0} (p q : A → Bool) → ((x : A) → p x ≡ q x) → (xs : List A) → keep p xs ≡ keep q xs
keep_same p q h [] = refl
keep_same p q h (x ∷ xs) = rw (h x, keep_same p q h xs)

pub keep-false : {A : Type 0} (xs : List A) → keep (λ x. false) xs ≡ []
keep-false [] = refl
keep-false (x ∷ xs) = keep-false xs

-- where all pass
pub keep-every : {A : Type 0} (p : A → Bool) (l : List A) → all p l ≡ true → keep p l ≡ l
keep-every p [] e = refl
keep-every p (x ∷ l) e =
    let w = both (p x) (all p l) e in
    rw w.0 (ap (λ (m : List _). x ∷ m) (keep-every p l w.1))
