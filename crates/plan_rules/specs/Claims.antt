-- The claims on plans under the three rules (document 02, A10). proofs/Laws.antt and proofs/Lawful.antt prove them.
-- That `plans` lists the lawful plans, and that a draw picks one of them, is claimed for every rule in plan_slots.
use Rattle.std.specs.Prelude.{◌≡◌, true, false, ℕ}
use Rattle.base_refusal.specs.declared.Refusal.TheVariants.{NoPlan, Argument}
use Rattle.plan_slots.specs.declared.SlotPlan.{SlotPlan}
use Rattle.plan_slots.specs.Plan.{is_duration, PlanAnswer, planned, no_plan, plan_of}
use Rattle.plan_slots.specs.Claims.{Chosen}
use Rattle.plan_rules.specs.Rules.{offer_of, rule_of, is_allowed, plan_by, transmissions_of, is_lawful_by}

-- the answer to a call: 10 if an argument is not allowed; else a lawful plan; or 9, and then no plan is lawful
pub record ChosenBy (rule level n d : ℕ) (a : PlanAnswer) : Type 0 where
  pub argument : is_allowed rule level n d ≡ false → a ≡ no_plan Argument
  pub chosen : is_allowed rule level n d ≡ true → Chosen (rule_of rule level n) d a

-- every answer is such an answer
abbrev pub PlanByChosen : Type 0
PlanByChosen = (rule level n d draw : ℕ) → ChosenBy rule level n d (plan_by rule level n d draw)

-- the plan that a draw picks is lawful
abbrev pub PlanByLawful : Type 0
PlanByLawful =
    (rule level n d draw : ℕ) (p : SlotPlan) → plan_by rule level n d draw ≡ planned p
    → is_lawful_by rule level d p ≡ true

-- it has as many transmissions as were requested
abbrev pub PlanByAsked : Type 0
PlanByAsked = (rule level n d draw : ℕ) (p : SlotPlan) → plan_by rule level n d draw ≡ planned p → transmissions_of p ≡ n

-- every lawful plan is picked by some draw
abbrev pub LawfulPicked : Type 0
LawfulPicked =
    (rule level d : ℕ) (p : SlotPlan) → is_lawful_by rule level d p ≡ true
    → (draw : ℕ) × (plan_by rule level (transmissions_of p) d draw ≡ planned p)

-- document 01's call is the standard rule with its largest number of transmissions
abbrev pub StandardSame : Type 0
StandardSame = (level d draw : ℕ) → plan_by 0 level (offer_of 0 level).most d draw ≡ plan_of level d draw

-- "then 9, also for compressed level 2"
abbrev pub CompressedLevel2 : Type 0
CompressedLevel2 = (d draw : ℕ) → is_duration d ≡ true → plan_by 1 2 2 d draw ≡ no_plan NoPlan
