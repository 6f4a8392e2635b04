-- The lawful plans, block by block, as the search meets them.
use mathlib.Core.Path.{◌≡◌, refl, ap, ◌∙◌}
use mathlib.Core.Bool.{Bool, true, false, cond, ◌&&◌}
use mathlib.Core.List.{List, [], map, flat_map}
use Prim.Native.Nat.{ℕ, ◌≤◌}
use native.Mathlib.Omega.{arith}
use borrow.Author.Tests.{le-leb}
use Rattle.base_lists.specs.Lists.{keep}
use Rattle.base_lists.proofs.Keep.{keep_same, keep-map, keep-flat_map, keep-false}
use Rattle.base_lists.proofs.UpFrom.{flat_map_same}
use Rattle.plan_slots.specs.declared.Rule.{Rule}
use Rattle.plan_slots.specs.declared.SlotPlan.{SlotPlan}
use Rattle.plan_slots.specs.Plan.{plan, plans, candidates, lawful, range_at, slots_in, third_slots}
use Rattle.plan_slots.specs.Search.{second_follows, passes, plans_after, plans_from}
use Rattle.plan_slots.proofs.Parts.{lawful_passes}

-- the test of the second slot taken out of the test of each plan
second-out : (t : Bool) (f : ℕ → Bool) (g : ℕ → SlotPlan) (cs : List ℕ)
    → map g (keep (λ c. t && f c) cs) ≡ cond t (map g (keep f cs)) []
second-out true f g cs = refl
second-out false f g cs = ap (map g) (keep-false cs)

module _ (r : Rule) (d : ℕ) where
  abbrev first : ℕ → ℕ
  first i = (range_at r i).first

  abbrev last : ℕ → ℕ
  last i = (range_at r i).last

  -- of the candidates with two slots inside their ranges, the lawful ones
  block : (a b : ℕ) → first 0 ≤ a → a ≤ last 0 → first 1 ≤ b → b ≤ last 1
      → keep (lawful r d) (map (plan a b) (third_slots r)) ≡ plans_after r d a b
  unfolding passes plans_after
  block a b p q s t =
      keep_same (lawful r d) (passes r d) (lawful_passes r d) (map (plan a b) (third_slots r))
      ∙ rw keep-map
      (simp (le-leb (first 0) a p, le-leb a (last 0) q, le-leb (first 1) b s, le-leb b (last 1) t)
      (second-out (second_follows r d a b) _ (plan a b) (third_slots r)))

  pub plans-split : plans r d ≡ flat_map (plans_from r d) (slots_in (range_at r 0))
  unfolding plans candidates plans_from
  plans-split =
      rw keep-flat_map
      (flat_map_same _ _ (first 0) _ (λ a p q. rw keep-flat_map
      (flat_map_same _ _ (first 1) _ (λ b s t. block a b p (omega arith) s (omega arith)))))
