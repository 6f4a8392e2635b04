-- Slot plans (document 01, "Slot plan"): the rule of a level, when a plan is lawful, all lawful plans in order, and the
-- plan that a draw picks.
use Rattle.std.specs.Prelude.{Bool, true, not, cond, ◌&&◌, ℕ, ◌+◌, ◌-◌, ◌*◌, ◌%◌, length, get_or, leb, ltb, eqb, Result, Ok, Err}
use mathlib.Core.List.{List, [], ◌∷◌, map, flat_map}
use Rattle.base_lists.specs.Lists.{keep, up_from}
use Rattle.base_refusal.specs.Number.{number_of}
use Rattle.base_refusal.specs.declared.Refusal.{Refusal}
use Rattle.base_refusal.specs.declared.Refusal.TheVariants.{NoPlan, Argument}
use Rattle.plan_slots.specs.declared.SlotRange.{SlotRange}
use Rattle.plan_slots.specs.declared.Rule.{Rule}
use Rattle.plan_slots.specs.declared.SlotPlan.{SlotPlan}

-- ── rules ──

abbrev pub range : ℕ → ℕ → SlotRange
range a b = record { first = a; last = b }

-- the range of a transmission that there is not: it is empty
abbrev pub none : SlotRange
none = range 1 0

-- the table of ranges: by the level that is sent, then by transmission
abbrev pub standard_ranges : List (List SlotRange)
standard_ranges =
    (range 0 0 ∷ range 1 9 ∷ range 20 39 ∷ [])
    ∷ (range 10 19 ∷ range 20 29 ∷ none ∷ [])
    ∷ (range 0 9 ∷ range 20 29 ∷ none ∷ [])
    ∷ []

-- the rule of a level that is sent: no pause before the second transmission, and the last end at 40,000 microseconds
abbrev pub standard_rule : ℕ → Rule
standard_rule level = record { ranges = get_or standard_ranges level []; pause = 0; end = 40_000 }

-- the range of a transmission, counted from 0
abbrev pub range_at : Rule → ℕ → SlotRange
range_at r transmission = get_or r.ranges transmission (range 0 0)

-- a range is empty if its first slot is above its last
abbrev pub empty : SlotRange → Bool
empty s = ltb s.last s.first

-- a slot is in a range
abbrev pub within : SlotRange → ℕ → Bool
within s n = leb s.first n && leb n s.last

-- ── lawful plans ──

abbrev pub plan : ℕ → ℕ → ℕ → SlotPlan
plan a b c = record { first = a; second = b; third = c }

-- the third slot of a plan without a third transmission
abbrev pub no_slot : ℕ
no_slot = 255

-- the microseconds at which a transmission of duration d in slot n starts and ends
abbrev pub start_of : ℕ → ℕ
start_of n = 1000 * n

abbrev pub end_of : ℕ → ℕ → ℕ
end_of d n = start_of n + d

-- the rule has no third transmission
abbrev pub is_of_two : Rule → Bool
is_of_two r = empty (range_at r 2)

-- each slot is in the range of its transmission; without a third transmission, the third slot is 255
abbrev pub are_slots_in_range : Rule → SlotPlan → Bool
are_slots_in_range r p =
    within (range_at r 0) p.first
    && (within (range_at r 1) p.second
    && cond (is_of_two r) (eqb p.third no_slot) (within (range_at r 2) p.third))

-- no transmission starts before the one before it has ended, and the second does not start before the pause is over
abbrev pub is_in_order : Rule → ℕ → SlotPlan → Bool
is_in_order r d p =
    leb (end_of d p.first + r.pause) (start_of p.second)
    && cond (is_of_two r) true (leb (end_of d p.second) (start_of p.third))

-- the last one ends in time
abbrev pub is_in_time : Rule → ℕ → SlotPlan → Bool
is_in_time r d p = cond (is_of_two r) (leb (end_of d p.second) r.end) (leb (end_of d p.third) r.end)

-- "each slot in its range, no start before the previous end, the last end" in time
unfoldable pub lawful : Rule → ℕ → SlotPlan → Bool
lawful r d p = are_slots_in_range r p && (is_in_order r d p && is_in_time r d p)

-- ── all of them, in order ──

-- the slots of a range, in order
abbrev pub slots_in : SlotRange → List ℕ
slots_in s = up_from s.first (s.last + 1 - s.first)

-- the values that a third slot can have
abbrev pub third_slots : Rule → List ℕ
third_slots r = cond (empty (range_at r 2)) (no_slot ∷ []) (slots_in (range_at r 2))

-- every choice of one slot from each range, by first, then second, then third slot
unfoldable pub candidates : Rule → List SlotPlan
unfolding flat_map
candidates r =
    flat_map (λ a. flat_map (λ b. map (plan a b) (third_slots r)) (slots_in (range_at r 1))) (slots_in (range_at r 0))

-- the lawful plans under a rule, for a duration, in order
unfoldable pub plans : Rule → ℕ → List SlotPlan
plans r d = keep (lawful r d) (candidates r)

-- ── the answer ──

-- what a caller sees: the number of document 01, "Numbers a caller sees", and the three slots
pub record PlanAnswer : Type 0 where
  pub number : ℕ
  pub slots : SlotPlan

-- a refusal: the slots are zero
abbrev pub no_plan : Refusal → PlanAnswer
no_plan e = record { number = number_of e; slots = plan 0 0 0 }

-- a plan is the answer
abbrev pub planned : SlotPlan → PlanAnswer
planned p = record { number = 0; slots = p }

-- the answer of a result of the code
abbrev pub answer_of : Result SlotPlan Refusal → PlanAnswer
answer_of (Ok p) = planned p
answer_of (Err e) = no_plan e

-- of N plans, the one with index draw mod N, counted from 0; 9 if N = 0
unfoldable pub drawn : List SlotPlan → ℕ → PlanAnswer
drawn ps draw =
    cond (eqb (length ps) 0) (no_plan NoPlan)
    (planned (get_or ps (draw % length ps) (plan 0 0 0)))

-- a level is 0 to 2
abbrev pub is_level : ℕ → Bool
is_level level = leb level 2

-- a duration is 1 to 65,535 microseconds
abbrev pub is_duration : ℕ → Bool
is_duration d = leb 1 d && leb d 65_535

-- level 0 to 2 and duration 1 to 65,535
abbrev pub allowed : ℕ → ℕ → Bool
allowed level d = is_level level && is_duration d

-- the call: 10 for an argument that is not allowed, else what the draw picks
unfoldable pub plan_of : ℕ → ℕ → ℕ → PlanAnswer
plan_of level d draw =
    cond (not (allowed level d)) (no_plan Argument)
    (drawn (plans (standard_rule level) d) draw)
