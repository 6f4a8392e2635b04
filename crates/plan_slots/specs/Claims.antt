-- The claims on `plans` and `drawn`, for every rule, and on the answer of a call (document 01, "Slot plan").
-- proofs/Listed.antt and proofs/Chosen.antt prove them.
use Rattle.std.specs.Prelude.{◌≡◌, Bool, true, false, ◌&&◌, ◌||◌, ℕ, ltb, eqb}
use mathlib.Core.List.{List, Memᴰ}
use Rattle.base_lists.specs.Lists.{pairwise}
use Rattle.base_refusal.specs.declared.Refusal.TheVariants.{NoPlan, Argument}
use Rattle.plan_slots.specs.declared.Rule.{Rule}
use Rattle.plan_slots.specs.declared.SlotPlan.{SlotPlan}
use Rattle.plan_slots.specs.Plan.{standard_rule, lawful, plans, PlanAnswer, planned, no_plan, drawn, allowed, plan_of}

-- by first, then second, then third slot
abbrev pub precedes : SlotPlan → SlotPlan → Bool
precedes p q =
    ltb p.first q.first
    || (eqb p.first q.first && (ltb p.second q.second
    || (eqb p.second q.second && ltb p.third q.third)))

-- each plan precedes every later one, so none is listed twice
abbrev pub Lexicographic : List SlotPlan → Type 0
Lexicographic ps = pairwise precedes ps ≡ true

-- a list of the lawful plans under a rule, for a duration: only these, every one of them, in order
pub record Listed (r : Rule) (d : ℕ) (ps : List SlotPlan) : Type 0 where
  pub only : {p : SlotPlan} → Memᴰ p ps → lawful r d p ≡ true
  pub every : {p : SlotPlan} → lawful r d p ≡ true → Memᴰ p ps
  pub ordered : Lexicographic ps

-- `plans` is such a list
abbrev pub PlansListed : Type 0
PlansListed = (r : Rule) (d : ℕ) → Listed r d (plans r d)

-- the answer to a draw: a lawful plan; or 9, and then no plan is lawful
pub data Chosen (r : Rule) (d : ℕ) : PlanAnswer → Type 0 where
  one : {p : SlotPlan} → lawful r d p ≡ true → Chosen r d (planned p)
  none : ((p : SlotPlan) → lawful r d p ≡ false) → Chosen r d (no_plan NoPlan)

-- the result of every draw is such an answer
abbrev pub DrawnChosen : Type 0
DrawnChosen = (r : Rule) (d draw : ℕ) → Chosen r d (drawn (plans r d) draw)

-- every lawful plan is picked by some draw
abbrev pub LawfulDrawn : Type 0
LawfulDrawn =
    (r : Rule) (d : ℕ) (p : SlotPlan) → lawful r d p ≡ true
    → (draw : ℕ) × (drawn (plans r d) draw ≡ planned p)

-- ---- the call

-- the answer to a call: 10 if an argument is not allowed; else a lawful plan; or 9, and then no plan is lawful
pub record ChosenAt (level d : ℕ) (a : PlanAnswer) : Type 0 where
  pub argument : allowed level d ≡ false → a ≡ no_plan Argument
  pub chosen : allowed level d ≡ true → Chosen (standard_rule level) d a

-- every answer is such an answer
abbrev pub PlanChosen : Type 0
PlanChosen = (level d draw : ℕ) → ChosenAt level d (plan_of level d draw)
