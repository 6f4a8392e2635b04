-- The three timing rules (document 02, A10; source documents 000 and 004, 5.1): their ranges, pauses, last ends and
-- numbers of transmissions, and the plan that a draw picks.
use Rattle.std.specs.Prelude.{Bool, cond, not, ◌&&◌, List, [], ◌∷◌, ℕ, ◌≤◌, get_or, leb, eqb}
use Rattle.base_refusal.specs.declared.Refusal.TheVariants.{Argument}
use Rattle.plan_slots.specs.declared.SlotRange.{SlotRange}
use Rattle.plan_slots.specs.declared.Rule.{Rule}
use Rattle.plan_slots.specs.declared.SlotPlan.{SlotPlan}
use Rattle.plan_slots.specs.Plan.{range, none, no_slot, standard_ranges, is_level, is_duration, lawful, plans, PlanAnswer, no_plan, drawn}
use Rattle.plan_rules.specs.declared.Offer.{Offer}

-- ---- the rules, by number: 0 standard, 1 compressed, 2 with a pause

-- "slots 0 to 1, 4 to 12 and 14 to 22 at levels 0 and 1 .. level 2 not used"
abbrev pub compressed_row : List SlotRange
compressed_row = range 0 1 ∷ range 4 12 ∷ range 14 22 ∷ []

-- the ranges of the compressed rule, by level
abbrev pub compressed_ranges : List (List SlotRange)
compressed_ranges = compressed_row ∷ compressed_row ∷ (none ∷ none ∷ none ∷ []) ∷ []

-- "at level 0, the first is in slot 0 .. slots run to 39; levels 1 and 2 keep the standard ranges"
abbrev pub paused_ranges : List (List SlotRange)
paused_ranges = (range 0 0 ∷ range 0 39 ∷ range 0 39 ∷ []) ∷ get_or standard_ranges 1 [] ∷ get_or standard_ranges 2 [] ∷ []

-- the ranges of a rule, for the level that is sent
abbrev pub ranges_of : ℕ → ℕ → List SlotRange
ranges_of rule level = get_or (get_or (standard_ranges ∷ compressed_ranges ∷ paused_ranges ∷ []) rule []) level []

-- "the second starts at least 12 ms after the first ends", only at level 0
abbrev pub pause_of : ℕ → ℕ → ℕ
pause_of rule level = get_or (get_or ((0 ∷ 0 ∷ 0 ∷ []) ∷ (0 ∷ 0 ∷ 0 ∷ []) ∷ (12_000 ∷ 0 ∷ 0 ∷ []) ∷ []) rule []) level 0

-- "ended by 50,000 microseconds"; "with ends by 40,000"
abbrev pub last_end_of : ℕ → ℕ
last_end_of rule = get_or (40_000 ∷ 50_000 ∷ 40_000 ∷ []) rule 0

-- ---- how many transmissions

-- a call may request from a to b transmissions
abbrev pub offer : ℕ → ℕ → Offer
offer a b = record { fewest = a; most = b }

-- "the caller asks for two or three"; "elsewhere the number asked for must be the rule's own, and two for compressed
-- level 2"
abbrev pub offers : List (List Offer)
offers =
    (offer 3 3 ∷ offer 2 2 ∷ offer 2 2 ∷ [])
    ∷ (offer 3 3 ∷ offer 3 3 ∷ offer 2 2 ∷ [])
    ∷ (offer 2 3 ∷ offer 2 2 ∷ offer 2 2 ∷ [])
    ∷ []

-- how many transmissions a rule offers at a level
abbrev pub offer_of : ℕ → ℕ → Offer
offer_of rule level = get_or (get_or offers rule []) level (offer 0 0)

-- a rule 0 to 2, and a level 0 to 2
abbrev pub is_rule_and_level : ℕ → ℕ → Bool
is_rule_and_level rule level = leb rule 2 && is_level level

-- the same as propositions, which the lookups need
pub record IsRuleAndLevel (rule level : ℕ) : Type 0 where
  pub rule_known : rule ≤ 2
  pub level_known : level ≤ 2

-- a call may request n transmissions
abbrev pub is_offered : ℕ → ℕ → ℕ → Bool
is_offered rule level n = leb (offer_of rule level).fewest n && leb n (offer_of rule level).most

-- ---- plans

-- the rule for n transmissions: with two, there is no third
abbrev pub rule_of : ℕ → ℕ → ℕ → Rule
rule_of rule level n =
    let rs = ranges_of rule level in
    record {
      ranges = get_or rs 0 (range 0 0) ∷ get_or rs 1 (range 0 0) ∷ cond (eqb n 2) none (get_or rs 2 (range 0 0)) ∷ [];
      pause = pause_of rule level;
      end = last_end_of rule;
    }

-- a duration of 1 to 65,535, and a rule, a level and a number of transmissions that exist
abbrev pub is_allowed : ℕ → ℕ → ℕ → ℕ → Bool
is_allowed rule level n d = is_duration d && (is_rule_and_level rule level && is_offered rule level n)

-- "refusals: 10 .., then 9"
unfoldable pub plan_by : ℕ → ℕ → ℕ → ℕ → ℕ → PlanAnswer
plan_by rule level n d draw =
    cond (not (is_allowed rule level n d)) (no_plan Argument)
    (drawn (plans (rule_of rule level n) d) draw)

-- two if the third slot is 255, else three
abbrev pub transmissions_of : SlotPlan → ℕ
transmissions_of p = cond (eqb p.third no_slot) 2 3

-- lawful under a rule, which must offer n transmissions at this level
abbrev pub is_lawful_of : ℕ → ℕ → ℕ → ℕ → SlotPlan → Bool
is_lawful_of n rule level d p = is_offered rule level n && lawful (rule_of rule level n) d p

-- the same for the number of transmissions of the plan, and a duration of 1 to 65,535
unfoldable pub is_lawful_by : ℕ → ℕ → ℕ → SlotPlan → Bool
is_lawful_by rule level d p = is_duration d && (is_rule_and_level rule level && is_lawful_of (transmissions_of p) rule level d p)
