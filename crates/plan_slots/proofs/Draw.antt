-- The plan that a draw picks, found by one search or two.
use mathlib.Core.Path.{◌≡◌, ap, sym}
use Prim.Native.Nat.{ℕ, ◌%◌, ◌≤◌, ◌<◌}
use mathlib.Core.List.{List}
use native.Mathlib.Nat.{mod-lt, mod-eq_of_lt}
use native.Mathlib.Omega.{arith}
use lib.ListN.{length}
use borrow.Author.Tests.{ne_eqb, eq-eqb}
use Rattle.std.specs.Prelude.{Result, Ok, Err}
use Rattle.std.specs.Result.{MatchResult}
use Rattle.base_refusal.specs.declared.Refusal.{Refusal}
use Rattle.base_refusal.specs.declared.Refusal.TheVariants.{NoPlan}
use Rattle.plan_slots.specs.declared.SlotPlan.{SlotPlan}
use Rattle.plan_slots.specs.Plan.{answer_of, drawn, no_plan, planned}
use Rattle.plan_slots.specs.Search.{lookup_of}
use Rattle.plan_slots.proofs.Lookups.{is_found, is_counted}

module _ (ps : List SlotPlan) (draw : ℕ) where
  -- what stands at the draw's index
  picked : (k : ℕ) {p : SlotPlan} → k ≡ draw % length ps → Ok p ≡ lookup_of ps k → planned p ≡ drawn ps draw
  unfolding drawn
  picked k {p} e f =
      let w = is_found ps k f in
      rw (ne_eqb (length ps) 0 (λ z. omega arith), ← e, w.1)

  pub drawn_first : {p : SlotPlan} → Ok p ≡ lookup_of ps draw → planned p ≡ drawn ps draw
  drawn_first f = picked draw (sym (mod-eq_of_lt (is_found ps draw f).0)) f

  module _ {n : ℕ} (e : Err n ≡ lookup_of ps draw) where
    pub drawn_none : n < 1 → no_plan NoPlan ≡ drawn ps draw
    unfolding drawn
    drawn_none z = let w = is_counted ps draw e in rw (eq-eqb (length ps) 0 (omega arith))

    drawn_round : {p : SlotPlan} → Ok p ≡ lookup_of ps (draw % n) → planned p ≡ drawn ps draw
    drawn_round f = picked (draw % n) (ap (λ (m : ℕ). draw % m) (is_counted ps draw e).1) f

    never_short : {m : ℕ} → 1 ≤ n → Err m ≡ lookup_of ps (draw % n) → ⊥
    never_short h f =
        let w = is_counted ps draw e in
        let v = is_counted ps (draw % n) f in
        omega (arith, mod-lt draw {m = n} (omega arith))

    -- what the second search finds is the answer, and it finds a plan
    pub drawn_again : 1 ≤ n → (r : Result SlotPlan ℕ) → r ≡ lookup_of ps (draw % n)
        → (answer : Result SlotPlan Refusal) (other : ℕ → Type 0) → MatchResult r (λ p. answer ≡ Ok p) other
        → answer_of answer ≡ drawn ps draw
    drawn_again h (Ok p) f answer other is = rw is (drawn_round f)
    drawn_again h (Err m) f answer other is = absurd (never_short h f)
