-- What a lawful plan's test says part by part, and what the test of a third slot says of it.
use mathlib.Core.Path.{◌≡◌, refl, sym, ◌∙◌}
use mathlib.Core.Bool.{Bool, true, false, cond, ◌&&◌}
use Prim.Native.Nat.{ℕ, ◌≤◌}
use lib.Dec.{leb, eqb}
use borrow.Author.Tests.{leb-true, eqb-true}
use Rattle.base_lists.proofs.Choice.{both}
use Rattle.plan_slots.specs.declared.Rule.{Rule}
use Rattle.plan_slots.specs.declared.SlotPlan.{SlotPlan}
use Rattle.plan_slots.specs.Plan.{lawful, within, empty, is_of_two, end_of, start_of, no_slot, range_at}
use Rattle.plan_slots.specs.Search.{second_follows, third_follows, passes}

-- the tests in range, in order and in time, slot by slot
regrouped : (two a b none c s o x y : Bool)
    → ((a && (b && cond two none c)) && ((s && cond two true o) && cond two x y))
    ≡ (a && (b && (s && cond two (none && x) (c && (o && y)))))
regrouped two false b none c s o x y = refl
regrouped two true false none c s o x y = refl
regrouped true true true false c false o x y = refl
regrouped true true true false c true o x y = refl
regrouped true true true true c false o x y = refl
regrouped true true true true c true o x y = refl
regrouped false true true none false false o x y = refl
regrouped false true true none false true o x y = refl
regrouped false true true none true false o x y = refl
regrouped false true true none true true o x y = refl

module _ (r : Rule) (d : ℕ) where
  pub record Parts (p : SlotPlan) : Type 0 where
    pub in_first : within (range_at r 0) p.first ≡ true
    pub in_second : within (range_at r 1) p.second ≡ true
    pub second_follows_lem : second_follows r d p.first p.second ≡ true
    pub third_follows_lem : third_follows r d p.second p.third ≡ true

  pub lawful_passes : (p : SlotPlan) → lawful r d p ≡ passes r d p
  unfolding lawful passes third_follows
  lawful_passes p =
      regrouped (is_of_two r) (within (range_at r 0) p.first) (within (range_at r 1) p.second)
      (eqb p.third no_slot) (within (range_at r 2) p.third)
      (second_follows r d p.first p.second) (leb (end_of d p.second) (start_of p.third))
      (leb (end_of d p.second) r.end) (leb (end_of d p.third) r.end)

  pub parts : (p : SlotPlan) → lawful r d p ≡ true → Parts p
  unfolding passes
  parts p l =
      let e = sym (lawful_passes p) ∙ l in
      let in_second = within (range_at r 1) p.second in
      let second = second_follows r d p.first p.second in
      let third = third_follows r d p.second p.third in
      let u = both (within (range_at r 0) p.first) (in_second && (second && third)) e in
      let v = both in_second (second && third) u.1 in
      let w = both second third v.1 in
      record { in_first = u.0; in_second = v.0; second_follows_lem = w.0; third_follows_lem = w.1 }

  module _ (b c : ℕ) (e : third_follows r d b c ≡ true) where
    -- where the third range is empty the third slot reads 255
    pub no_third : empty (range_at r 2) ≡ true → c ≡ no_slot
    unfolding third_follows
    no_third z = eqb-true c no_slot (both (eqb c no_slot) (leb (end_of d b) r.end) (rw z at e)).0

    -- else it is in that range, and starts when the second has ended
    pub third_after : empty (range_at r 2) ≡ false → (within (range_at r 2) c ≡ true) × (end_of d b ≤ start_of c)
    unfolding third_follows
    third_after z =
        let u = both (within (range_at r 2) c) (leb (end_of d b) (start_of c) && leb (end_of d c) r.end) (rw z at e) in
        let v = both (leb (end_of d b) (start_of c)) (leb (end_of d c) r.end) u.1 in
        (u.0, leb-true (end_of d b) (start_of c) v.0)
