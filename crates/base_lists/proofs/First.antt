-- `first_of` names the first element that passes; `any`, and `all` turned over, by it.
use mathlib.Core.Path.{◌≡◌, refl, sym, ap, ◌∙◌}
use mathlib.Core.Bool.{Bool, true, false, cond, not, ◌&&◌, ◌||◌, true≢false}
use mathlib.Core.List.{List, [], ◌∷◌}
use Prim.Native.Nat.{ℕ, zero, suc, ◌+◌, ◌≤◌, ◌<◌, zero-le, suc-le-suc}
use native.Mathlib.Nat.{not-suc-le-zero, le_of_suc-le-suc}
use native.Mathlib.Numerals.{add-one}
use native.Mathlib.Omega.{arith}
use native.Mathlib.Decide.{dec_lt}
use lib.Dec.{ltb}
use lib.ListN.{length, get_or, drop, drop_of_length-le}
use lib.Seq.{drop-cons}
use borrow.Author.Tests.{lt-ltb, le-ltb}
use Rattle.base_lists.specs.Lists.{any, all, first_of}

-- ---- whether one passes

shifted : (a b : ℕ) → ltb a b ≡ ltb (suc a) (suc b)
shifted a b = elim (dec_lt a b) [
  | yes h ↦ lt-ltb a b h ∙ sym (lt-ltb (suc a) (suc b) (omega arith))
  | no h ↦ le-ltb a b (omega arith) ∙ sym (le-ltb (suc a) (suc b) (omega arith))
]

module _ {A : Type 0} (p : A → Bool) where
  -- one passes where the first that passes stands in the list
  pub any_first : (l : List A) → any p l ≡ ltb (first_of p l) (length l)
  any_first [] = refl
  any_first (x ∷ l) = go (p x) (any_first l)
    where
      go : (b : Bool) → any p l ≡ ltb (first_of p l) (length l)
          → (b || any p l) ≡ ltb (cond b 0 (suc (first_of p l))) (suc (length l))
      go true e = sym (lt-ltb 0 (suc (length l)) (omega arith))
      go false e = e ∙ shifted (first_of p l) (length l)

  pub first_least : (l : List A) → first_of p l ≤ length l
  first_least [] = zero-le
  first_least (x ∷ l) = go (p x) (first_least l)
    where
      go : (b : Bool) → first_of p l ≤ length l → cond b 0 (suc (first_of p l)) ≤ suc (length l)
      go true h = zero-le
      go false h = suc-le-suc h

  -- not all pass where one does not
  pub not_all : (l : List A) → not (all p l) ≡ any (λ x. not (p x)) l
  not_all [] = refl
  not_all (x ∷ l) = go (p x) (not_all l)
    where
      go : (b : Bool) → not (all p l) ≡ any (λ y. not (p y)) l → not (b && all p l) ≡ (not b || any (λ y. not (p y)) l)
      go true e = e
      go false e = refl

-- ---- it names the first

module _ {A : Type 0} (p : A → Bool) (d : A) where
  -- what it names passes
  pub first_passes : (l : List A) → any p l ≡ true → p (get_or l (first_of p l) d) ≡ true
  first_passes [] e = absurd (true≢false (sym e))
  first_passes (x ∷ l) e = go (p x) refl e (first_passes l)
    where
      go : (b : Bool) → p x ≡ b → (b || any p l) ≡ true → (any p l ≡ true → p (get_or l (first_of p l) d) ≡ true)
          → p (get_or (x ∷ l) (cond b 0 (suc (first_of p l))) d) ≡ true
      go true k f ih = k
      go false k f ih = ih f

  -- what stands before it does not
  pub first_before : (l : List A) (k : ℕ) → k < first_of p l → p (get_or l k d) ≡ false
  first_before [] k h = absurd (not-suc-le-zero h)
  first_before (x ∷ l) k h = go (p x) refl k h (first_before l)
    where
      go : (b : Bool) → p x ≡ b → (k : ℕ) → k < cond b 0 (suc (first_of p l))
          → ((k : ℕ) → k < first_of p l → p (get_or l k d) ≡ false)
          → p (get_or (x ∷ l) k d) ≡ false
      go true e k h ih = absurd (not-suc-le-zero h)
      go false e zero h ih = e
      go false e (suc k) h ih = ih k (le_of_suc-le-suc h)

  -- an element that passes, with none before it, is what it names
  pub first_is : (l : List A) (k : ℕ) → k < length l → p (get_or l k d) ≡ true
      → ((j : ℕ) → j < k → p (get_or l j d) ≡ false) → first_of p l ≡ k
  first_is [] k h e f = absurd (not-suc-le-zero h)
  first_is (x ∷ l) zero h e f = rw e
  first_is (x ∷ l) (suc k) h e f =
      rw (f 0 (suc-le-suc zero-le)) (ap suc (first_is l k (le_of_suc-le-suc h) e (λ j m. f (suc j) (suc-le-suc m))))

  -- where none passes at any index, none passes
  pub none_at : (l : List A) → ((k : ℕ) → k < length l → p (get_or l k d) ≡ false) → any p l ≡ false
  none_at [] f = refl
  none_at (x ∷ l) f = rw (f 0 (suc-le-suc zero-le)) (none_at l (λ k h. f (suc k) (suc-le-suc h)))
