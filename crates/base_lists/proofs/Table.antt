-- A rule of a table, proved at all of its entries by one test that antt computes, one entry after the other.
use mathlib.Core.Path.{◌≡◌, ◌∙◌, subst, sym}
use mathlib.Core.Bool.{Bool, true, ◌&&◌}
use mathlib.Core.List.{List, [], ◌∷◌}
use Prim.Native.Nat.{ℕ, zero, suc, ◌+◌, ◌<◌}
use native.Mathlib.Nat.{add-zero, zero-add, add-suc, suc-add, le_of_suc-le-suc, not-suc-le-zero}
use native.Mathlib.Omega.{arith}
use lib.Dec.{T, eqb, eqb→eq}
use lib.ListN.{length, get_or}
use Rattle.base_lists.specs.Lists.{every, is_table_of}
use Rattle.base_lists.proofs.Choice.{and_left, and_right}

module _ {A : Type 0} where
  from : (f : ℕ → A → Bool) (d : A) (xs : List A) (i : ℕ) → T (every f i xs)
      → (k : ℕ) → k < length xs → T (f (i + k) (get_or xs k d))
  from f d [] i t k h = absurd (not-suc-le-zero h)
  from f d (x ∷ xs) i t zero h =
      subst (λ (m : ℕ). T (f m x)) (sym (add-zero i)) (and_left (f i x) (every f (suc i) xs) t)
  from f d (x ∷ xs) i t (suc k) h =
      subst (λ (m : ℕ). T (f m (get_or xs k d))) (suc-add i k ∙ sym (add-suc i k))
      (from f d xs (suc i) (and_right (f i x) (every f (suc i) xs) t) k (le_of_suc-le-suc h))

  pub at : (f : ℕ → A → Bool) (d : A) (xs : List A) → T (every f 0 xs) → (k : ℕ) → k < length xs
      → T (f k (get_or xs k d))
  at f d xs t k h = subst (λ (m : ℕ). T (f m (get_or xs k d))) (zero-add k) (from f d xs 0 t k h)

-- what the test of a table of numbers says of each entry
pub table_entry : (n : ℕ) (rule : ℕ → ℕ) (table : List ℕ)
    → is_table_of n rule table ≡ true → (k : ℕ) → k < n → get_or table k 0 ≡ rule k
unfolding is_table_of
table_entry n rule table e k h =
    let long = eqb (length table) n in
    let right = every (λ k entry. eqb entry (rule k)) 0 table in
    let t : T (long && right) = subst T (sym e) tt in
    let l : length table ≡ n = eqb→eq (length table) n (and_left long right t) in
    eqb→eq _ _ (at (λ k entry. eqb entry (rule k)) 0 table (and_right long right t) k (omega arith))
