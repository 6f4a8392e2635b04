-- What the search inside the crate finds, for the contracts of its private functions. No public contract cites these.
use Rattle.std.specs.Prelude.{◌≡◌, Bool, cond, ◌&&◌, ℕ, ◌+◌, ◌^◌, ◌≤◌, ◌<◌, length, get_or, leb, ltb, eqb, Result, Ok, Err}
use mathlib.Core.List.{List, [], map, flat_map}
use Rattle.base_lists.specs.Lists.{keep, up_from}
use Rattle.plan_slots.specs.declared.SlotRange.{SlotRange}
use Rattle.plan_slots.specs.declared.Rule.{Rule}
use Rattle.plan_slots.specs.declared.SlotPlan.{SlotPlan}
use Rattle.plan_slots.specs.Plan.{plan, within, no_slot, start_of, end_of, is_of_two, range_at, slots_in, third_slots}

-- ---- a lawful plan, slot by slot

-- slot b starts after slot a has ended and the pause is over
abbrev pub second_follows : Rule → ℕ → ℕ → ℕ → Bool
second_follows r d a b = leb (end_of d a + r.pause) (start_of b)

-- slot c is in a range, starts at `from` or later, and ends by `end`
abbrev pub fits : SlotRange → ℕ → ℕ → ℕ → ℕ → Bool
fits s d from end c = within s c && (leb from (start_of c) && leb (end_of d c) end)

-- slot c is in the third range, starts after slot b has ended, and ends in time; if that range is empty, slot b ends in
-- time
unfoldable pub third_follows : Rule → ℕ → ℕ → ℕ → Bool
third_follows r d b c =
    cond (is_of_two r)
    (eqb c no_slot && leb (end_of d b) r.end)
    (fits (range_at r 2) d (end_of d b) r.end c)

-- the tests of `lawful` in the order of the slots
unfoldable pub passes : Rule → ℕ → SlotPlan → Bool
passes r d p =
    within (range_at r 0) p.first
    && (within (range_at r 1) p.second
    && (second_follows r d p.first p.second
    && third_follows r d p.second p.third))

-- ---- what the search finds

-- the plan at index k of a list, or the length of the list if it is too short
unfoldable pub lookup_of : List SlotPlan → ℕ → Result SlotPlan ℕ
lookup_of ps k = cond (ltb k (length ps)) (Ok (get_or ps k (plan 0 0 0))) (Err (length ps))

-- a function of a slot and an index finds the plan at the index among those that f has for the slot
abbrev pub LooksUp : (ℕ → ℕ → Result SlotPlan ℕ → Type 0) → (ℕ → List SlotPlan) → Type 0
LooksUp gives f =
    (slot k : ℕ) (r : Result SlotPlan ℕ) → slot < 256 → k < 2 ^ 64 → gives slot k r → r ≡ lookup_of (f slot) k

-- how many plans it says that a slot has, where there is none at the index, is at most the index
abbrev pub CountsAtMost : (ℕ → ℕ → Result SlotPlan ℕ → Type 0) → Type 0
CountsAtMost gives = (slot k n : ℕ) → slot < 256 → k < 2 ^ 64 → gives slot k (Err n) → n ≤ k

-- the slots of a range that fit are n numbers from a on, all below 256
pub record IsRow (s : SlotRange) (d from end a n : ℕ) : Type 0 where
  pub row : keep (fits s d from end) (slots_in s) ≡ up_from a n
  pub small : a + n ≤ 256

-- the third slots that may follow the second slot b are n numbers from a on, all below 256
pub record IsThirds (r : Rule) (d b a n : ℕ) : Type 0 where
  pub row : keep (third_follows r d b) (third_slots r) ≡ up_from a n
  pub small : a + n ≤ 256

-- the plans with the first two slots a and b that pass the tests of their last two
unfoldable pub plans_after : Rule → ℕ → ℕ → ℕ → List SlotPlan
plans_after r d a b = cond (second_follows r d a b) (map (plan a b) (keep (third_follows r d b) (third_slots r))) []

-- the plans with the first slot a that pass the tests of the others
unfoldable pub plans_from : Rule → ℕ → ℕ → List SlotPlan
unfolding flat_map
plans_from r d a = flat_map (plans_after r d a) (slots_in (range_at r 1))
