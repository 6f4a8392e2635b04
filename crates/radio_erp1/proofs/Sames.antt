-- The cases of `is_same`, each from the facts that its tests give.
use Rattle.std.proofs.Common.{◌≡◌, ℕ, ◌-◌, ◌<◌, ◌≤◌, true, false, List, [], ◌∷◌, length, get_or, take, refl, arith, eq-eqb, ne_eqb}
use Rattle.base_lists.specs.Lists.{equal}
use Rattle.radio_erp1.specs.Status.{upper_of}
use Rattle.radio_erp1.specs.Same.{is_same}
use Rattle.radio_erp1.proofs.Checks.{status_at, front_at}

pub other_length : (a b : List ℕ) → (length a ≡ length b → ⊥) → false ≡ is_same a b
unfolding is_same
other_length a b n = rw (ne_eqb _ _ n)

-- no byte stands before HASH
pub only_hash : (a b : List ℕ) → length a ≡ length b → length a < 2 → true ≡ is_same a b
unfolding is_same
only_hash [] [] e h = refl
only_hash [] (y ∷ b) e h = absurd (omega arith)
only_hash (x ∷ a) [] e h = absurd (omega arith)
only_hash (x ∷ []) (y ∷ []) e h = refl
only_hash (x ∷ []) (y ∷ z ∷ b) e h = absurd (omega arith)
only_hash (x ∷ w ∷ a) (y ∷ b) e h = absurd (omega arith)

module _ (a b : List ℕ) (e : length a ≡ length b) (h : 2 ≤ length a) where
  pub other_upper : (upper_of (get_or a (length a - 2) 0) ≡ upper_of (get_or b (length a - 2) 0) → ⊥)
      → false ≡ is_same a b
  unfolding is_same
  other_upper n =
      let k : 2 ≤ length b = omega arith in
      simp (eq-eqb _ _ e, status_at a h, status_at b k, ← e, ne_eqb _ _ n)

  pub by_front : upper_of (get_or a (length a - 2) 0) ≡ upper_of (get_or b (length a - 2) 0)
      → equal (take (length a - 2) a) (take (length a - 2) b) ≡ is_same a b
  unfolding is_same
  by_front u =
      let k : 2 ≤ length b = omega arith in
      simp (eq-eqb _ _ e, status_at a h, status_at b k, front_at a h, front_at b k, ← e, eq-eqb _ _ u)
