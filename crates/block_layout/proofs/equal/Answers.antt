-- The goals that a search does not find.
use mathlib.Core.Path.{◌≡◌, refl, sym, ap, ◌∙◌, subst}
use mathlib.Core.Bool.{Bool, true, false, ◌&&◌}
use mathlib.Core.List.{List}
use Prim.Native.Nat.{ℕ, ◌+◌, ◌≤◌, ◌<◌}
use native.Mathlib.Numerals.{add-one}
use native.Mathlib.Omega.{arith}
use lib.Dec.{T, eqb}
use lib.ListN.{length, get_or, drop, drop_of_length-le}
use lib.Seq.{drop-cons}
use Rattle.base_lists.specs.Lists.{equal}
use Rattle.base_lists.proofs.Equal.{equal_eq}
use Rattle.block_layout.proofs.equal.Goals as goal

-- lists of other lengths are not equal
unlike : (xs ys : List ℕ) → (length xs ≡ length ys → ⊥) → false ≡ equal xs ys
unlike xs ys n = go (equal xs ys) refl
  where
    go : (b : Bool) → equal xs ys ≡ b → false ≡ b
    go true e = absurd (n (ap length (equal_eq xs ys (subst T (sym e) tt))))
    go false e = refl

-- the next byte
regrouped : (s t u : Bool) → s && (t && u) ≡ (s && t) && u
regrouped true t u = refl
regrouped false t u = refl

equal_next : (s : Bool) (xs ys : List ℕ) (i : ℕ) → i < length xs → i < length ys
    → s && equal (drop i xs) (drop i ys)
    ≡ (s && eqb (get_or xs i 0) (get_or ys i 0)) && equal (drop (i + 1) xs) (drop (i + 1) ys)
equal_next s xs ys i h k = rw (add-one, drop-cons xs i 0 h, drop-cons ys i 0 k) (regrouped s _ _)

-- no byte is left
ended : (s : Bool) (xs ys : List ℕ) (i : ℕ) → length xs ≤ i → length ys ≤ i → s && equal (drop i xs) (drop i ys) ≡ s
ended true xs ys i h k = rw (drop_of_length-le xs h, drop_of_length-le ys k)
ended false xs ys i h k = refl

pub loop-i-preserved : goal.loop-i-preserved
loop-i-preserved c =
    let args = c.args in
    record {
      bounded = omega arith;
      ends = omega arith;
      rest =
          sym (equal_next c.loop-i.same args.a.now args.b.now c.loop-i.i (omega arith) (omega arith))
          ∙ c.loop-i.invariant.rest;
    }

pub returns : goal.returns
returns c =
    let at = c.loop-i in
    let args = c.args in
    sym (ended at.same args.a.now args.b.now at.i (omega arith) (omega arith)) ∙ at.invariant.rest

pub returns-then-a-b : goal.returns-then-a-b
returns-then-a-b c = unlike c.args.a.now c.args.b.now c.if-a-b.true

pub loop-i-init : goal.loop-i-init
loop-i-init c = record { bounded = omega arith; ends = omega arith; rest = refl }

pub bounds-a-i : goal.bounds-a-i
bounds-a-i c = omega arith

pub bounds-b-i : goal.bounds-b-i
bounds-b-i c = omega arith

pub overflow_step-i : goal.overflow_step-i
overflow_step-i c = omega arith

pub loop-i-smaller : goal.loop-i-smaller
loop-i-smaller c = omega arith
