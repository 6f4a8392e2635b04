-- What a choice by a test says of its test, and what the tests joined by `&&` and `||` say of each.
use mathlib.Core.Path.{◌≡◌, refl}
use mathlib.Core.Bool.{Bool, true, false, cond, ◌&&◌, ◌||◌, true≢false, false≢true}
use lib.Dec.{T}

module _ {A : Type 0} {x y v : A} where
  -- the first value is not the one, so the test failed
  pub cond_no : (b : Bool) → (x ≡ v → ⊥) → cond b x y ≡ v → (b ≡ false) × (y ≡ v)
  cond_no true n e = absurd (n e)
  cond_no false n e = (refl, e)

  -- the second value is not the one, so the test passed
  pub cond_yes : (b : Bool) → (y ≡ v → ⊥) → cond b x y ≡ v → (b ≡ true) × (x ≡ v)
  cond_yes true n e = (refl, e)
  cond_yes false n e = absurd (n e)

pub and_left : (a b : Bool) → T (a && b) → T a
and_left true b t = tt
and_left false b t = t

pub and_right : (a b : Bool) → T (a && b) → T b
and_right true b t = t
and_right false b t = absurd t

pub neither : (a b : Bool) → (a || b) ≡ false → (a ≡ false) × (b ≡ false)
neither true b e = absurd (true≢false e)
neither false b e = (refl, e)

-- what holds of a conjunction that is true, as the tests of code give it
pub both : (a b : Bool) → a && b ≡ true → (a ≡ true) × (b ≡ true)
both true b e = (refl, e)
both false b e = (e, absurd (false≢true e))

-- a function passes into a choice
pub cond-ap : {A B : Type 0} (f : A → B) (t : Bool) (x y : A) → f (cond t x y) ≡ cond t (f x) (f y)
cond-ap f true x y = refl
cond-ap f false x y = refl
