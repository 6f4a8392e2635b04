-- The two answers of a search, and what each tells of the list and the index.
use Rattle.std.specs.Prelude.{Ok, Err}
use mathlib.Core.Path.{◌≡◌}
use mathlib.Core.List.{List}
use Prim.Native.Nat.{ℕ, ◌≤◌, ◌<◌}
use native.Mathlib.Decide.{dec_lt}
use native.Mathlib.Omega.{arith}
use lib.ListN.{length, get_or}
use borrow.Author.Tests.{lt-ltb, le-ltb}
use Rattle.plan_slots.specs.declared.SlotPlan.{SlotPlan}
use Rattle.plan_slots.specs.Plan.{plan}
use Rattle.plan_slots.specs.Search.{lookup_of}

module _ (ps : List SlotPlan) (k : ℕ) where
  pub lookup_found : k < length ps → Ok (get_or ps k (plan 0 0 0)) ≡ lookup_of ps k
  unfolding lookup_of
  lookup_found h = rw (lt-ltb k (length ps) h)

  pub lookup_counted : length ps ≤ k → Err (length ps) ≡ lookup_of ps k
  unfolding lookup_of
  lookup_counted h = rw (le-ltb k (length ps) h)

  pub is_found : {p : SlotPlan} → Ok p ≡ lookup_of ps k → (k < length ps) × (p ≡ get_or ps k (plan 0 0 0))
  is_found {p} e =
      elim (dec_lt k (length ps)) [
        | yes h ↦ (h, cc (lookup_found h))
        | no h ↦ let z : ◌≡◌ {A = ℕ} 0 1 = cc (lookup_counted (omega arith)) in absurd (omega arith)
      ]

  pub is_counted : {n : ℕ} → Err n ≡ lookup_of ps k → (length ps ≤ k) × (n ≡ length ps) × (n ≤ k)
  is_counted {n} e =
      elim (dec_lt k (length ps)) [
        | yes h ↦ let z : ◌≡◌ {A = ℕ} 0 1 = cc (lookup_found h) in absurd (omega arith)
        | no h ↦
            let same : n ≡ length ps = cc (lookup_counted (omega arith)) in (omega arith, same, omega (arith, same))
      ]
