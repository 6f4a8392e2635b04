-- What a draw picks under a named rule is lawful there, and has as many transmissions as were asked for; each lawful plan is picked. What is to
-- be shown is that the third slot reads 255 just where two are asked for, a fact about the rows of the table.
use mathlib.Core.Path.{◌≡◌, refl, sym, ap, subst, ◌∙◌}
use mathlib.Core.Bool.{Bool, true, false, cond, not, ◌&&◌, ◌||◌}
use Prim.Native.Nat.{ℕ, ◌≤◌, ◌<◌}
use native.Mathlib.Omega.{arith}
use lib.Dec.{leb, ltb, eqb}
use lib.ListN.{get_or}
use borrow.Author.Tests.{leb-true, ltb-true, le-ltb, eqb-true, eqb-false, eq-eqb, ne_eqb, not-true}
use Rattle.base_lists.specs.Lists.{all, up_from}
use Rattle.base_lists.proofs.Choice.{both}
use Rattle.base_lists.proofs.Members.{all_at}
use Rattle.base_lists.proofs.Tests.{and-true, by_test}
use Rattle.base_lists.proofs.UpFrom.{up_from_in}
use Rattle.base_refusal.specs.declared.Refusal.TheVariants.{Argument}
use Rattle.base_refusal.proofs.Numbers.{refused-number}
use Rattle.plan_slots.specs.declared.SlotPlan.{SlotPlan}
use Rattle.plan_slots.specs.declared.SlotRange.{SlotRange}
use Rattle.plan_slots.specs.Plan.{range, none, no_slot, empty, within, is_duration, lawful, PlanAnswer, planned}
use Rattle.plan_slots.proofs.Parts.{parts, no_third, third_after}
use Rattle.plan_slots.proofs.Chosen.{chosen-lawful, lawful-drawn}
use Rattle.plan_rules.specs.Rules.{ranges_of, offer_of, is_rule_and_level, is_offered, rule_of, is_allowed, plan_by, transmissions_of, is_lawful_by}
use Rattle.plan_rules.specs.Claims.{PlanByLawful, PlanByAsked, LawfulPicked}
use Rattle.plan_rules.proofs.Known.{known}
use Rattle.plan_rules.proofs.Laws.{plan_by-chosen}

-- ---- the rows of the table

abbrev third_of : ℕ → ℕ → SlotRange
third_of rule level = get_or (ranges_of rule level) 2 (range 0 0)

-- two or three may be asked for, and where three may the third range is one of slots
abbrev is_clear : ℕ → ℕ → Bool
is_clear rule level =
    leb 2 (offer_of rule level).fewest
    && (leb (offer_of rule level).most 3
    && (ltb (offer_of rule level).most 3
    || (not (empty (third_of rule level)) && ltb (third_of rule level).last no_slot)))

rows_clear : all (λ rule. all (is_clear rule) (up_from 0 3)) (up_from 0 3) ≡ true
unfolding up_from
rows_clear = refl

clear : (rule level : ℕ) → is_rule_and_level rule level ≡ true → is_clear rule level ≡ true
clear rule level e =
    let k = known rule level e in
    let row =
    all_at (λ rule. all (is_clear rule) (up_from 0 3))
    (up_from_in 0 3 rule (omega arith) (omega (arith, k.rule_known))) rows_clear in
    all_at (is_clear rule) (up_from_in 0 3 level (omega arith) (omega (arith, k.level_known))) row

-- what the test says
record Clear (rule level : ℕ) : Type 0 where
  least : 2 ≤ (offer_of rule level).fewest
  top : (offer_of rule level).most ≤ 3
  slots : 3 ≤ (offer_of rule level).most → (empty (third_of rule level) ≡ false)
      × ((third_of rule level).last < no_slot)

clear_row : (rule level : ℕ) → is_rule_and_level rule level ≡ true → Clear rule level
clear_row rule level e =
    let most = (offer_of rule level).most in
    let filled = not (empty (third_of rule level)) in
    let short = ltb (third_of rule level).last no_slot in
    let u =
    both (leb 2 (offer_of rule level).fewest)
    (leb most 3 && (ltb most 3 || (filled && short))) (clear rule level e) in
    let v = both (leb most 3) (ltb most 3 || (filled && short)) u.1 in
    record {
      least = leb-true 2 (offer_of rule level).fewest u.0;
      top = leb-true most 3 v.0;
      slots = λ h.
          let w = both filled short (sym (ap (λ (b : Bool). b || (filled && short)) (le-ltb most 3 h)) ∙ v.1) in
          (not-true (empty (third_of rule level)) w.0, ltb-true (third_of rule level).last no_slot w.1);
    }

-- ---- the third slot says how many transmissions there are

module _ (rule level n d : ℕ) (p : SlotPlan) (t : is_duration d ≡ true) (k : is_rule_and_level rule level ≡ true)
    (o : is_offered rule level n ≡ true) (l : lawful (rule_of rule level n) d p ≡ true) where
  two : eqb n 2 ≡ true → transmissions_of p ≡ n
  two e =
      let no-range : empty (cond (eqb n 2) none (third_of rule level)) ≡ true = rw e in
      let c =
      no_third (rule_of rule level n) d p.second p.third
      (parts (rule_of rule level n) d p l).third_follows_lem no-range in
      rw (eq-eqb p.third no_slot c) (sym (eqb-true n 2 e))

  three : eqb n 2 ≡ false → transmissions_of p ≡ n
  three e =
      let row = clear_row rule level k in
      let w = both (leb (offer_of rule level).fewest n) (leb n (offer_of rule level).most) o in
      let low : (offer_of rule level).fewest ≤ n = leb-true _ _ w.0 in
      let high : n ≤ (offer_of rule level).most = leb-true _ _ w.1 in
      let is-three : n ≡ 3 = omega (arith, eqb-false n 2 e, row.least, row.top) in
      let s = row.slots (omega arith) in
      let a-range : empty (cond (eqb n 2) none (third_of rule level)) ≡ false = rw e s.0 in
      let c : within (cond (eqb n 2) none (third_of rule level)) p.third ≡ true
      = (third_after (rule_of rule level n) d p.second p.third
      (parts (rule_of rule level n) d p l).third_follows_lem a-range).0 in
      let inside : within (third_of rule level) p.third ≡ true = rw e at c in
      let below : p.third ≤ (third_of rule level).last =
      leb-true _ _
      (both (leb (third_of rule level).first p.third) (leb p.third (third_of rule level).last) inside).1 in
      rw (ne_eqb p.third no_slot (λ z. omega (arith, s.1))) (sym is-three)

  asked : transmissions_of p ≡ n
  asked = by_test (eqb n 2) two three

  lawful_by : is_lawful_by rule level d p ≡ true
  unfolding is_lawful_by
  lawful_by =
      subst (λ (m : ℕ). is_duration d
      && (is_rule_and_level rule level && (is_offered rule level m && lawful (rule_of rule level m) d p))
      ≡ true)
      (sym asked)
      (and-true t (and-true k (and-true o l)))

-- ---- the theorems

-- where the answer is a plan nothing was wrong with the arguments
pub picked_allowed : (rule level n d draw : ℕ) (p : SlotPlan)
    → plan_by rule level n d draw ≡ planned p → is_allowed rule level n d ≡ true
picked_allowed rule level n d draw p e =
    by_test (is_allowed rule level n d) (λ a. a)
    (λ a.
    absurd (refused-number Argument
    (ap (λ (x : PlanAnswer). x.number) (sym ((plan_by-chosen rule level n d draw).argument a) ∙ e))))

-- and it is lawful under the rule for so many transmissions
picked : (rule level n d draw : ℕ) (p : SlotPlan) → plan_by rule level n d draw ≡ planned p
    → (is_duration d ≡ true) × (is_rule_and_level rule level ≡ true)
    × (is_offered rule level n ≡ true) × (lawful (rule_of rule level n) d p ≡ true)
picked rule level n d draw p e =
    let a = picked_allowed rule level n d draw p e in
    let w = both (is_duration d) (is_rule_and_level rule level && is_offered rule level n) a in
    let v = both (is_rule_and_level rule level) (is_offered rule level n) w.1 in
    (w.0, v.0, v.1, chosen-lawful (rule_of rule level n) d ((plan_by-chosen rule level n d draw).chosen a) p e)

pub plan_by-lawful : PlanByLawful
plan_by-lawful rule level n d draw p e = let w = picked rule level n d draw p e in
    lawful_by rule level n d p w.0 w.1 w.2 w.3

pub plan_by-asked : PlanByAsked
plan_by-asked rule level n d draw p e = let w = picked rule level n d draw p e in
    asked rule level n d p w.0 w.1 w.2 w.3

pub lawful_picked : LawfulPicked
unfolding is_lawful_by plan_by
lawful_picked rule level d p e =
    let n = transmissions_of p in
    let t =
    both (is_duration d) (is_rule_and_level rule level
    && (is_offered rule level n && lawful (rule_of rule level n) d p)) e in
    let u = both (is_rule_and_level rule level) (is_offered rule level n && lawful (rule_of rule level n) d p) t.1 in
    let v = both (is_offered rule level n) (lawful (rule_of rule level n) d p) u.1 in
    let w = lawful-drawn (rule_of rule level n) d p v.1 in
    (w.0, rw (and-true t.0 (and-true u.0 v.0)) w.1)
