-- The rules that `is_lawful_by` names are those of the tables, row by row.
use mathlib.Core.Path.{◌≡◌, refl}
use mathlib.Core.Bool.{false, and-false}
use Prim.Native.Nat.{ℕ, zero, suc, ◌≤◌}
use native.Mathlib.Decide.{dec_lt}
use native.Mathlib.Omega.{arith}
use borrow.Author.Tests.{lt-leb}
use Rattle.plan_slots.specs.declared.SlotPlan.{SlotPlan}
use Rattle.plan_slots.specs.Plan.{none, within, lawful}
use Rattle.plan_rules.specs.Rules.{IsRuleAndLevel, rule_of, is_lawful_of}

-- no slot is in the range of no transmission
nowhere : (n : ℕ) → within none n ≡ false
nowhere zero = refl
nowhere (suc n) = simp (lt-leb (suc n) 0 (omega arith), and-false)

unused : (d : ℕ) (p : SlotPlan) → false ≡ is_lawful_of 2 1 2 d p
unfolding lawful
unused d p = rw (nowhere p.first)

compressed_level : (level d : ℕ) (p : SlotPlan) → level ≤ 2 → false ≡ is_lawful_of 2 1 level d p
compressed_level zero d p k = refl
compressed_level (suc zero) d p k = refl
compressed_level (suc (suc zero)) d p k = unused d p
compressed_level (suc (suc (suc level))) d p k = absurd (omega (arith, k))

compressed_row : (level d : ℕ) (p : SlotPlan) → level ≤ 2 → (level ≡ 2 → ⊥)
    → lawful (rule_of 1 0 3) d p ≡ is_lawful_of 3 1 level d p
compressed_row zero d p k n = refl
compressed_row (suc zero) d p k n = refl
compressed_row (suc (suc zero)) d p k n = absurd (n refl)
compressed_row (suc (suc (suc level))) d p k n = absurd (omega (arith, k))

-- three transmissions are not offered above level 0 but under the compressed rule
above-level : (rule level d : ℕ) (p : SlotPlan) → IsRuleAndLevel rule level → (rule ≡ 1 → ⊥) → (level ≡ 0 → ⊥)
    → false ≡ is_lawful_of 3 rule level d p
above-level zero zero d p k n m = absurd (m refl)
above-level zero (suc zero) d p k n m = refl
above-level zero (suc (suc zero)) d p k n m = refl
above-level zero (suc (suc (suc level))) d p k n m = absurd (omega (arith, k.level_known))
above-level (suc zero) level d p k n m = absurd (n refl)
above-level (suc (suc zero)) zero d p k n m = absurd (m refl)
above-level (suc (suc zero)) (suc zero) d p k n m = refl
above-level (suc (suc zero)) (suc (suc zero)) d p k n m = refl
above-level (suc (suc zero)) (suc (suc (suc level))) d p k n m = absurd (omega (arith, k.level_known))
above-level (suc (suc (suc rule))) level d p k n m = absurd (omega (arith, k.rule_known))

module _ (rule level d : ℕ) (p : SlotPlan) (k : IsRuleAndLevel rule level) where
  pub compressed_of_two : rule ≡ 1 → false ≡ is_lawful_of 2 rule level d p
  compressed_of_two e = rw e (compressed_level level d p k.level_known)

  pub compressed_of_three : rule ≡ 1 → (level ≡ 2 → ⊥) → lawful (rule_of 1 0 3) d p ≡ is_lawful_of 3 rule level d p
  compressed_of_three e n = rw e (compressed_row level d p k.level_known n)

  pub compressed_unused : rule ≡ 1 → level ≡ 2 → false ≡ is_lawful_of 3 rule level d p
  compressed_unused e f = rw (e, f)

  pub standard_of_three : rule ≡ 0 → level ≡ 0 → lawful (rule_of 0 0 3) d p ≡ is_lawful_of 3 rule level d p
  standard_of_three e f = rw (e, f)

  -- rules 0 and 2
  module _ (n : rule ≡ 1 → ⊥) where
    pub two_of_three : (level ≡ 0 → ⊥) → false ≡ is_lawful_of 3 rule level d p
    two_of_three m = above-level rule level d p k n m

    pub paused_of_three : level ≡ 0 → (rule ≡ 0 → ⊥) → lawful (rule_of 2 0 3) d p ≡ is_lawful_of 3 rule level d p
    paused_of_three f m = let e : rule ≡ 2 = omega (arith, k.rule_known) in rw (e, f)

    pub level_1 : level ≡ 1 → lawful (rule_of 0 1 2) d p ≡ is_lawful_of 2 rule level d p
    level_1 f = elim (dec_lt rule 1) [
      | yes h ↦ let e : rule ≡ 0 = omega arith in rw (e, f)
      | no h ↦ let e : rule ≡ 2 = omega (arith, k.rule_known) in rw (e, f)
    ]

    pub level_2 : level ≡ 2 → lawful (rule_of 0 2 2) d p ≡ is_lawful_of 2 rule level d p
    level_2 f = elim (dec_lt rule 1) [
      | yes h ↦ let e : rule ≡ 0 = omega arith in rw (e, f)
      | no h ↦ let e : rule ≡ 2 = omega (arith, k.rule_known) in rw (e, f)
    ]

    -- at level 0
    module _ (a : level ≡ 1 → ⊥) (b : level ≡ 2 → ⊥) where
      lowest : level ≡ 0
      lowest = omega (arith, k.level_known)

      pub standard_of_two : rule ≡ 0 → false ≡ is_lawful_of 2 rule level d p
      standard_of_two e = rw (e, lowest)

      pub paused_of_two : (rule ≡ 0 → ⊥) → lawful (rule_of 2 0 2) d p ≡ is_lawful_of 2 rule level d p
      paused_of_two m = let e : rule ≡ 2 = omega (arith, k.rule_known) in rw (e, lowest)
