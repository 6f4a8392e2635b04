-- Definitions on lists that the other crates use, and that mathlib does not have.
use Rattle.std.specs.Prelude.{ℕ, zero, suc, ◌+◌, ◌-◌, Bool, true, false, cond, ◌&&◌, ◌||◌, List, [], ◌∷◌, ◌++◌, eqb, length, replicate}

module _ {A : Type 0} where
  -- the elements that pass a test, in order
  abbrev pub keep : (A → Bool) → List A → List A
  keep p [] = []
  keep p (x ∷ l) = cond (p x) (x ∷ keep p l) (keep p l)

  -- some element passes
  abbrev pub any : (A → Bool) → List A → Bool
  any p [] = false
  any p (x ∷ l) = p x || any p l

  -- every element passes
  abbrev pub all : (A → Bool) → List A → Bool
  all p [] = true
  all p (x ∷ l) = p x && all p l

  -- each element passes a test with its index; the first index is i
  abbrev pub every : (ℕ → A → Bool) → ℕ → List A → Bool
  every p i [] = true
  every p i (x ∷ l) = p i x && every p (suc i) l

  -- r holds between each element and every later one
  abbrev pub pairwise : (A → A → Bool) → List A → Bool
  pairwise r [] = true
  pairwise r (x ∷ l) = all (r x) l && pairwise r l

  -- the index of the first element that passes, or the length if none does
  abbrev pub first_of : (A → Bool) → List A → ℕ
  first_of p [] = 0
  first_of p (x ∷ l) = cond (p x) 0 (suc (first_of p l))

  -- the index of the last element that passes, or the length if none does
  abbrev pub last_index : (A → Bool) → List A → ℕ
  last_index p [] = 0
  last_index p (x ∷ l) = cond (any p l) (suc (last_index p l)) (cond (p x) 0 (suc (length l)))

  -- how many elements pass
  abbrev pub count : (A → Bool) → List A → ℕ
  count p [] = 0
  count p (x ∷ l) = cond (p x) (count p l + 1) (count p l)

-- two lists of numbers are equal
abbrev pub equal : List ℕ → List ℕ → Bool
equal [] [] = true
equal [] (y ∷ m) = false
equal (x ∷ l) [] = false
equal (x ∷ l) (y ∷ m) = eqb x y && equal l m

-- xs, filled up with zeros to n numbers
abbrev pub padded : ℕ → List ℕ → List ℕ
padded n xs = xs ++ replicate (n - length xs) 0

-- the n numbers from a on: a, a + 1, ..
unfoldable pub up_from : ℕ → ℕ → List ℕ
up_from a zero = []
up_from a (suc n) = a ∷ up_from (suc a) n

-- the table has n numbers, and the rule gives each of them for its index
unfoldable pub is_table_of : ℕ → (ℕ → ℕ) → List ℕ → Bool
is_table_of n rule table = eqb (length table) n && every (λ k entry. eqb entry (rule k)) 0 table
