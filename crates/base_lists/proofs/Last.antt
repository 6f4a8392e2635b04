-- `last_index`: that it names the last element that passes, and the length where none does.
use Prim.Native.Nat.{ℕ, zero, suc, ◌<◌, zero-le, suc-le-suc}
use native.Mathlib.Nat.{not-suc-le-zero, le_of_suc-le-suc}
use mathlib.Core.Path.{◌≡◌, refl, ap}
use mathlib.Core.Bool.{Bool, true, false, cond, ◌||◌, false≢true}
use mathlib.Core.List.{List, [], ◌∷◌}
use lib.ListN.{length, get_or}
use Rattle.base_lists.specs.Lists.{any, last_index}
use Rattle.base_lists.proofs.Choice.{neither}
use Rattle.base_lists.proofs.First.{none_at}

module _ {A : Type 0} (p : A → Bool) where
  pub last_none : (l : List A) → any p l ≡ false → last_index p l ≡ length l
  last_none [] e = refl
  last_none (x ∷ l) e = let w = neither (p x) (any p l) e in rw (w.0, w.1)

  pub last_low : (l : List A) → any p l ≡ true → last_index p l < length l
  last_low [] e = absurd (false≢true e)
  last_low (x ∷ l) e = go (p x) (any p l) e (last_low l)
    where
      go : (b c : Bool) → (b || c) ≡ true → (c ≡ true → last_index p l < length l)
          → cond c (suc (last_index p l)) (cond b 0 (suc (length l))) < suc (length l)
      go b true f ih = suc-le-suc (ih refl)
      go true false f ih = suc-le-suc zero-le
      go false false f ih = absurd (false≢true f)

  -- an element that passes is one of them
  any_at : (d : A) (l : List A) (k : ℕ) → k < length l → p (get_or l k d) ≡ true → any p l ≡ true
  any_at d [] k h e = absurd (not-suc-le-zero h)
  any_at d (x ∷ l) zero h e = rw e
  any_at d (x ∷ l) (suc k) h e = go (p x) (any_at d l k (le_of_suc-le-suc h) e)
    where
      go : (b : Bool) → any p l ≡ true → (b || any p l) ≡ true
      go true f = refl
      go false f = f

  -- an element that passes, with none after it, is what it names
  pub last_is : (d : A) (l : List A) (k : ℕ) → k < length l → p (get_or l k d) ≡ true
      → ((j : ℕ) → k < j → j < length l → p (get_or l j d) ≡ false)
      → last_index p l ≡ k
  last_is d [] k h e f = absurd (not-suc-le-zero h)
  last_is d (x ∷ l) zero h e f = rw (none_at p d l (λ j m. f (suc j) (suc-le-suc zero-le) (suc-le-suc m)), e)
  last_is d (x ∷ l) (suc k) h e f =
      rw (any_at d l k (le_of_suc-le-suc h) e)
      (ap suc (last_is d l k (le_of_suc-le-suc h) e (λ j m n. f (suc j) (suc-le-suc m) (suc-le-suc n))))
