-- Members of a list: what a test of all says of each, that an index in range gives one, and that each has an index.
use mathlib.Core.Path.{◌≡◌, refl, sym, ◌∙◌, ap}
use mathlib.Core.Bool.{Bool, true}
use mathlib.Core.List.{List, [], ◌∷◌, Memᴰ}
use Prim.Native.Nat.{ℕ, zero, suc, ◌<◌, zero-le, suc-le-suc}
use native.Mathlib.Nat.{not-suc-le-zero, le_of_suc-le-suc}
use lib.ListN.{length, get_or}
use Rattle.base_lists.specs.Lists.{all}
use Rattle.base_lists.proofs.Choice.{both}

module _ {A : Type 0} where
  pub all_of : (q : A → Bool) (xs : List A) → ((x : A) → Memᴰ x xs → q x ≡ true) → all q xs ≡ true
  all_of q [] h = refl
  all_of q (x ∷ xs) h = rw (h x (Memᴰ.head refl)) (all_of q xs (λ y m. h y (Memᴰ.tail m)))

  pub all_at : (q : A → Bool) {x : A} {xs : List A} → Memᴰ x xs → all q xs ≡ true → q x ≡ true
  all_at q (Memᴰ.head {x = y} {xs = ys} e) h = ap q e ∙ (both (q y) (all q ys) h).0
  all_at q (Memᴰ.tail {x = y} {xs = ys} m) h = all_at q m (both (q y) (all q ys) h).1

  pub get_d_in : (xs : List A) (k : ℕ) (x : A) → k < length xs → Memᴰ (get_or xs k x) xs
  get_d_in [] k x h = absurd (not-suc-le-zero h)
  get_d_in (y ∷ ys) zero x h = Memᴰ.head refl
  get_d_in (y ∷ ys) (suc k) x h = Memᴰ.tail (get_d_in ys k x (le_of_suc-le-suc h))

  pub in_get_d : {x : A} {xs : List A} (d : A) → Memᴰ x xs → (k : ℕ) × (k < length xs) × (get_or xs k d ≡ x)
  in_get_d d (Memᴰ.head {x = y} {xs = ys} e) = (0, suc-le-suc zero-le, sym e)
  in_get_d d (Memᴰ.tail {x = y} {xs = ys} m) = let w = in_get_d d m in (suc w.0, suc-le-suc w.1, w.2)
