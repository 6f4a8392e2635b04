-- The claims on the check of a site (document 02, A14). proofs/Accepts.antt and proofs/Named.antt prove them.
use Rattle.std.specs.Prelude.{◌≡◌, Bool, true, false, not, ℕ, ◌≤◌, ◌<◌, length, get_or, take}
use mathlib.Core.List.{List, ◌∷◌, flat_map}
use Rattle.base_lists.specs.Lists.{all, pairwise}
use Rattle.base_refusal.specs.Number.{number_of}
use Rattle.base_refusal.specs.declared.Refusal.TheVariants as refusal
use Rattle.plan_slots.specs.declared.SlotPlan.{SlotPlan}
use Rattle.plan_slots.specs.Plan.{planned}
use Rattle.plan_rules.specs.Rules.{plan_by}
use Rattle.plan_site.specs.declared.Assignment.{Assignment}
use Rattle.plan_site.specs.Site.{max_repeaters, is_in_range, has_lawful_plan, Transmission, sent_by, overlap, clash, no_assignment, site_answer, site_of}

-- two transmissions do not overlap
abbrev pub apart : Transmission → Transmission → Bool
apart t u = not (overlap t u)

-- at most 32, each with a rule, a level and a duration in range
pub record InRange (count : ℕ) (repeaters : List Assignment) : Type 0 where
  pub few : count ≤ max_repeaters
  pub known : all is_in_range (take count repeaters) ≡ true

-- every plan is lawful, and no two transmissions on the site overlap, also not two of one repeater
pub record SiteFits (count : ℕ) (repeaters : List Assignment) : Type 0 where
  pub in_range : InRange count repeaters
  pub lawful : all has_lawful_plan (take count repeaters) ≡ true
  pub apart : pairwise apart (flat_map sent_by (take count repeaters)) ≡ true

-- "accepts exactly if .."
pub record AcceptsExactly (count : ℕ) (repeaters : List Assignment) : Type 0 where
  pub accepted : SiteFits count repeaters → site_of count repeaters ≡ site_answer 0 0 0
  pub fits : (site_of count repeaters).number ≡ 0 → SiteFits count repeaters

module _ (count : ℕ) (repeaters : List Assignment) where
  -- a repeater of the site
  abbrev pub at : ℕ → Assignment
  at i = get_or (take count repeaters) i no_assignment

  abbrev pub size : ℕ
  size = length (take count repeaters)

  -- "the first unlawful" one
  pub record FirstUnlawful (i : ℕ) : Type 0 where
    pub in_range : InRange count repeaters
    pub inside : i < size
    pub unlawful : has_lawful_plan (at i) ≡ false
    pub before : (k : ℕ) → k < i → has_lawful_plan (at k) ≡ true

  -- "the overlapping pair with the smallest first .., then the smallest second"
  pub record FirstOverlap (i j : ℕ) : Type 0 where
    pub in_range : InRange count repeaters
    pub lawful : all has_lawful_plan (take count repeaters) ≡ true
    pub order : i < j
    pub inside : j < size
    pub clashes : clash (at i) (at j) ≡ true
    pub no_smaller_first : (k l : ℕ) → k < i → k < l → l < size → clash (at k) (at l) ≡ false
    pub no_smaller_second : (l : ℕ) → i < l → l < j → clash (at i) (at l) ≡ false

  -- 18 names the first unlawful repeater, and 19 the first pair
  pub record NamesTheFirst : Type 0 where
    pub unlawful : (i : ℕ) → FirstUnlawful i → site_of count repeaters ≡ site_answer (number_of refusal.Unlawful) i 0
    pub is_unlawful : (i : ℕ) → site_of count repeaters ≡ site_answer (number_of refusal.Unlawful) i 0 → FirstUnlawful i
    pub overlap : (i j : ℕ) → FirstOverlap i j → site_of count repeaters ≡ site_answer (number_of refusal.Overlap) i j
    pub is_overlap : (i j : ℕ) → site_of count repeaters ≡ site_answer (number_of refusal.Overlap) i j → FirstOverlap i j

-- a site of one repeater with a plan that a draw picked is accepted
abbrev pub DrawnAccepted : Type 0
DrawnAccepted =
    (rule level n d draw : ℕ) (p : SlotPlan) (rest : List Assignment) → plan_by rule level n d draw ≡ planned p
    → site_of 1 (record { rule = rule; level = level; duration = d; slots = p } ∷ rest) ≡ site_answer 0 0 0
