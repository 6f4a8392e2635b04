-- A draw gets a lawful plan, and 9 only where there is none: what it picks is a member of `plans`, and each member is picked by its index.
use mathlib.Core.Path.{◌≡◌, refl, ap, subst}
use mathlib.Core.Bool.{Bool, true, false}
use mathlib.Core.List.Memᴰ
use mathlib.Core.List.{List, [], ◌∷◌}
use Prim.Native.Nat.{ℕ, suc, ◌%◌}
use native.Mathlib.Nat.{mod-lt, mod-eq_of_lt}
use native.Mathlib.Omega.{arith}
use lib.Dec.{eqb-suc-zero}
use lib.ListN.{length}
use borrow.Author.Tests.{ne_eqb}
use Rattle.base_lists.proofs.Members.{get_d_in, in_get_d}
use Rattle.base_refusal.specs.declared.Refusal.TheVariants.{NoPlan}
use Rattle.base_refusal.proofs.Numbers.{refused-number}
use Rattle.plan_slots.specs.declared.Rule.{Rule}
use Rattle.plan_slots.specs.declared.SlotPlan.{SlotPlan}
use Rattle.plan_slots.specs.Plan.{standard_rule, lawful, plan, plans, PlanAnswer, planned, drawn, plan_of}
use Rattle.plan_slots.specs.Claims.{Listed, Chosen, one, none, DrawnChosen, LawfulDrawn, PlanChosen}
use Rattle.plan_slots.proofs.Listed.{plans-listed}

not-lawful : (t : Bool) → (t ≡ true → ⊥) → t ≡ false
not-lawful true h = absurd (h refl)
not-lawful false h = refl

from_list : (r : Rule) (d : ℕ) (ps : List SlotPlan) (draw : ℕ) → Listed r d ps → Chosen r d (drawn ps draw)
unfolding drawn
from_list r d [] draw l = none (λ p. not-lawful (lawful r d p) (λ e. Memᴰ.not-nil (l.every e)))
from_list r d (p ∷ ps) draw l =
    rw (eqb-suc-zero (length ps))
    (one (l.only
    (get_d_in (p ∷ ps) (draw % suc (length ps)) (plan 0 0 0) (mod-lt draw {m = suc (length ps)} (omega arith)))))

pub drawn-chosen : DrawnChosen
drawn-chosen r d draw = from_list r d (plans r d) draw (plans-listed r d)

-- and so does a call
pub plan-chosen : PlanChosen
unfolding plan_of
plan-chosen level d draw =
    record { argument = λ e. rw e; chosen = λ e. rw e (drawn-chosen (standard_rule level) d draw) }

-- an answer that is a plan is a lawful one
pub chosen-lawful : (r : Rule) (d : ℕ) {a : PlanAnswer} → Chosen r d a
    → (p : SlotPlan) → a ≡ planned p → lawful r d p ≡ true
chosen-lawful r d (one l) p e = subst (λ (q : SlotPlan). lawful r d q ≡ true) (ap (λ (a : PlanAnswer). a.slots) e) l
chosen-lawful r d (none h) p e = absurd (refused-number NoPlan (ap (λ (a : PlanAnswer). a.number) e))

-- every lawful plan is picked by some draw: by its index
pub lawful-drawn : LawfulDrawn
unfolding drawn
lawful-drawn r d p l =
    let w = in_get_d (plan 0 0 0) ((plans-listed r d).every l) in
    (w.0, rw (ne_eqb (length (plans r d)) 0 (λ z. omega (arith, w.1)), mod-eq_of_lt w.1, w.2))
