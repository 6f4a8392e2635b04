-- What tests over a list say of an element inside it, and of one more at its end.
use mathlib.Core.Path.{◌≡◌, refl, sym}
use mathlib.Core.Bool.{Bool, true, false, not, ◌&&◌, ◌||◌, false≢true}
use mathlib.Core.List.Memᴰ
use mathlib.Core.List.{List, [], ◌∷◌, ◌++◌}
use Rattle.base_lists.specs.Lists.{any, all, pairwise}
use Rattle.base_lists.proofs.Choice.{both}
use Rattle.base_lists.proofs.Members.{all_at}

-- two tests of which each passes where the other does
pub same_test : (a b : Bool) → (a ≡ true → b ≡ true) → (b ≡ true → a ≡ true) → a ≡ b
same_test true b f g = sym (f refl)
same_test false true f g = g refl
same_test false false f g = refl

-- a test that cannot pass
pub fails : (a : Bool) → (a ≡ true → ⊥) → a ≡ false
fails true n = absurd (n refl)
fails false n = refl

module _ {A : Type 0} where
  pub any_last : (p : A → Bool) (xs : List A) (x : A) → any p xs ≡ false → p x ≡ false → any p (xs ++ (x ∷ [])) ≡ false
  any_last p [] x e f = rw f
  any_last p (y ∷ xs) x e f = go (p y) e (λ h. any_last p xs x h f)
    where
      go : (b : Bool) → (b || any p xs) ≡ false → (any p xs ≡ false → any p (xs ++ (x ∷ [])) ≡ false)
          → (b || any p (xs ++ (x ∷ []))) ≡ false
      go true h k = h
      go false h k = k h

  pub all_inside : (p : A → Bool) (xs : List A) (x : A) (ys : List A) → all p (xs ++ (x ∷ ys)) ≡ true → p x ≡ true
  all_inside p xs x ys e = all_at p (Memᴰ.append_right xs (Memᴰ.head refl)) e

  -- each element before it is in order with it
  pub pairwise-inside : (r : A → A → Bool) (xs : List A) (x : A) (ys : List A)
      → pairwise r (xs ++ (x ∷ ys)) ≡ true → all (λ y. r y x) xs ≡ true
  pairwise-inside r [] x ys e = refl
  pairwise-inside r (y ∷ xs) x ys e =
      let w = both (all (r y) (xs ++ (x ∷ ys))) (pairwise r (xs ++ (x ∷ ys))) e in
      rw (all_inside (r y) xs x ys w.0) (pairwise-inside r xs x ys w.1)

  pub none_any : (p : A → Bool) (xs : List A) → all (λ x. not (p x)) xs ≡ true → any p xs ≡ false
  none_any p [] e = refl
  none_any p (x ∷ xs) e = go (p x) e (none_any p xs)
    where
      go : (b : Bool) → (not b && all (λ y. not (p y)) xs) ≡ true
          → (all (λ y. not (p y)) xs ≡ true → any p xs ≡ false) → (b || any p xs) ≡ false
      go true h k = absurd (false≢true h)
      go false h k = k h
