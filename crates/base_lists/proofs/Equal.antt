-- The test of two lists of numbers says that they are equal.
use mathlib.Core.Path.{◌≡◌, refl, sym, ap, ap₂, subst, ◌∙◌}
use mathlib.Core.Bool.{Bool, true, false, ◌&&◌, and-true, and-false, and_assoc}
use mathlib.Core.List.{List, [], ◌∷◌}
use Prim.Native.Nat.{ℕ, zero, suc, ◌-◌, ◌≤◌, ◌<◌}
use native.Mathlib.Nat.{le_of_suc-le-suc, not-suc-le-zero}
use native.Mathlib.Omega.{arith}
use lib.Dec.{T, eqb, eqb→eq}
use lib.ListN.{length, take, get_or}
use borrow.Author.Tests.{eq-eqb, ne_eqb}
use Rattle.base_lists.specs.Lists.{equal}
use Rattle.base_lists.proofs.Choice.{and_left, and_right}

pub equal_eq : (xs ys : List ℕ) → T (equal xs ys) → xs ≡ ys
equal_eq [] [] t = refl
equal_eq [] (y ∷ ys) t = absurd t
equal_eq (x ∷ xs) [] t = absurd t
equal_eq (x ∷ xs) (y ∷ ys) t =
    ap₂ ◌∷◌ (eqb→eq x y (and_left (eqb x y) (equal xs ys) t)) (equal_eq xs ys (and_right (eqb x y) (equal xs ys) t))

pub equal-refl : (xs : List ℕ) → equal xs xs ≡ true
equal-refl [] = refl
equal-refl (x ∷ xs) = rw (eq-eqb x x refl) (equal-refl xs)

-- a bool that says whether two lists are equal is the test
pub equal-said : (r : Bool) (xs ys : List ℕ) → (r ≡ true → xs ≡ ys) × (xs ≡ ys → r ≡ true) → equal xs ys ≡ r
equal-said true xs ys h = rw (h.0 refl) (equal-refl ys)
equal-said false xs ys h = go (equal xs ys) refl
  where
    go : (t : Bool) → equal xs ys ≡ t → t ≡ false
    go true e = sym (h.1 (equal_eq xs ys (subst T (sym e) tt)))
    go false e = refl
