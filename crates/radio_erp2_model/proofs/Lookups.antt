-- The tables of sizes, looked up: a test that every entry passes, and the default too, holds of each lookup.
use mathlib.Core.Path.{◌≡◌, refl}
use mathlib.Core.Bool.{Bool, true, false, cond}
use mathlib.Core.List.{List, [], ◌∷◌}
use Prim.Native.Nat.{ℕ, zero, suc, ◌+◌, ◌≤◌}
use native.Mathlib.Nat.{add-zero, zero-add, add-suc, suc-add}
use native.Mathlib.Omega.{arith}
use lib.Dec.{leb}
use lib.ListN.{get_or}
use borrow.Author.Tests.{leb-true, le-leb}
use Rattle.base_lists.specs.Lists.{every}
use Rattle.base_lists.proofs.Choice.{both}
use Rattle.radio_erp2_model.specs.Sizes.{short_originators, originators}

module _ (p : ℕ → ℕ → Bool) (d : ℕ) (default : (k : ℕ) → p k d ≡ true) where
  from : (j : ℕ) (xs : List ℕ) → every p j xs ≡ true → (i : ℕ) → p (j + i) (get_or xs i d) ≡ true
  from j [] e i = default (j + i)
  from j (x ∷ xs) e zero = rw (add-zero j) (both (p j x) (every p (suc j) xs) e).0
  from j (x ∷ xs) e (suc i) =
      rw (add-suc j i, ← suc-add j i) (from (suc j) xs (both (p j x) (every p (suc j) xs) e).1 i)

  lookup : (xs : List ℕ) → every p 0 xs ≡ true → (i : ℕ) → p i (get_or xs i d) ≡ true
  lookup xs e i = rw (zero-add i) at (from 0 xs e i)

-- an Originator-ID of a short form has at most 4 bytes, and fits its Length
pub short-high : (l : ℕ) → get_or short_originators l 0 ≤ 4
short-high l = leb-true _ 4 (lookup (λ k x. leb x 4) 0 (λ k. refl) short_originators refl l)

pub short-fits : (l : ℕ) → get_or short_originators l 0 ≤ l
short-fits l = leb-true _ l (lookup (λ k x. leb x k) 0 (λ k. le-leb 0 k (omega arith)) short_originators refl l)

-- one of a long form has 3 to 6
pub originator-low : (c : ℕ) → 3 ≤ get_or originators c 6
originator-low c = leb-true 3 _ (lookup (λ k x. leb 3 x) 6 (λ k. refl) originators refl c)

pub originator-high : (c : ℕ) → get_or originators c 6 ≤ 6
originator-high c = leb-true _ 6 (lookup (λ k x. leb x 6) 6 (λ k. refl) originators refl c)

pub flag_le : (x : Bool) (n : ℕ) → cond x n 0 ≤ n
flag_le true n = omega arith
flag_le false n = omega arith
