-- The slot plans of a whole site (document 02, A14): what each repeater sends, when two of them overlap, and the answer
-- of the check.
use Rattle.std.specs.Prelude.{◌≡◌, ◌<◌, Bool, cond, not, ◌&&◌, ◌||◌, List, [], ◌∷◌, ℕ, suc, ◌+◌, take, length, ltb, eqb, Option, unwrap_or, IfSome, Result, Ok, Err, ⊤}
use Rattle.base_lists.specs.Lists.{any, all, first_of}
use Rattle.base_refusal.specs.Number.{number_of}
use Rattle.base_refusal.specs.declared.Refusal.TheVariants as refusal
use Rattle.plan_slots.specs.declared.SlotPlan.{SlotPlan}
use Rattle.plan_slots.specs.Plan.{plan, no_slot, start_of, end_of, is_duration}
use Rattle.plan_rules.specs.Rules.{is_rule_and_level, is_lawful_by}
use Rattle.plan_site.specs.declared.Assignment.{Assignment}
use Rattle.plan_site.specs.declared.Rejection.{Rejection}

-- "up to 32 repeaters"
abbrev pub max_repeaters : ℕ
max_repeaters = 32

-- ---- one repeater

-- rule and level 0 to 2, duration 1 to 65,535
abbrev pub is_in_range : Assignment → Bool
is_in_range a = is_rule_and_level a.rule a.level && is_duration a.duration

-- "lawful under its named rule", for any slot number
abbrev pub has_lawful_plan : Assignment → Bool
has_lawful_plan a = is_lawful_by a.rule a.level a.duration a.slots

-- ---- transmissions

-- a transmission is on the air from the start of its slot for its duration
pub record Transmission : Type 0 where
  pub slot : ℕ
  pub duration : ℕ

abbrev pub transmission : ℕ → ℕ → Transmission
transmission d n = record { slot = n; duration = d }

-- "three slots of each (255 as third: none)"
abbrev pub slots_of : SlotPlan → List ℕ
slots_of p = p.first ∷ p.second ∷ cond (eqb p.third no_slot) [] (p.third ∷ [])

-- one transmission for each slot
abbrev pub sent_in : ℕ → List ℕ → List Transmission
sent_in d [] = []
sent_in d (n ∷ l) = transmission d n ∷ sent_in d l

-- the transmissions of a repeater
abbrev pub sent_by : Assignment → List Transmission
sent_by a = sent_in a.duration (slots_of a.slots)

-- each starts before the other ends: "touching ends are fine"
abbrev pub overlap : Transmission → Transmission → Bool
overlap t u =
    ltb (start_of t.slot) (end_of u.duration u.slot)
    && ltb (start_of u.slot) (end_of t.duration t.slot)

-- a transmission of a overlaps with a transmission of b
unfoldable pub clash : Assignment → Assignment → Bool
clash a b = any (λ t. any (overlap t) (sent_by b)) (sent_by a)

-- ---- the answer

-- the index of the first element that passes a test, if one does
abbrev pub IsFirst : {A : Type 0} → (A → Bool) → List A → Option ℕ → Type 0
IsFirst p l found = (first_of p l ≡ unwrap_or found (length l)) × IfSome found (λ i. i < length l)

-- what a caller sees: the number, and the repeaters that it names, counted from 0; 0 if it names none
pub record SiteAnswer : Type 0 where
  pub number : ℕ
  pub repeater : ℕ
  pub other : ℕ

abbrev pub site_answer : ℕ → ℕ → ℕ → SiteAnswer
site_answer n i j = record { number = n; repeater = i; other = j }

-- the answer of a verdict of the code
abbrev pub verdict_answer : Result ⊤ Rejection → SiteAnswer
verdict_answer (Ok _) = site_answer 0 0 0
verdict_answer (Err Rejection.OutOfRange) = site_answer (number_of refusal.Argument) 0 0
verdict_answer (Err (Rejection.Unlawful i)) = site_answer (number_of refusal.Unlawful) i 0
verdict_answer (Err (Rejection.Overlap i j)) = site_answer (number_of refusal.Overlap) i j

-- "the overlapping pair with the smallest first .., then the smallest second"; i is the index of the first repeater in
-- the list
abbrev pub pair_of : ℕ → List Assignment → SiteAnswer
pair_of i [] = site_answer 0 0 0
pair_of i (a ∷ l) =
    cond (any (clash a) l) (site_answer (number_of refusal.Overlap) i (suc i + first_of (clash a) l))
    (pair_of (suc i) l)

-- the first `count` repeaters: "10 .. for more than 32 .. or a rule, level or duration out of range; then 18 ..; then
-- 19"
unfoldable pub site_of : ℕ → List Assignment → SiteAnswer
site_of count repeaters =
    let l = take count repeaters in
    cond (ltb max_repeaters count || not (all is_in_range l)) (site_answer (number_of refusal.Argument) 0 0)
    (cond (not (all has_lawful_plan l))
    (site_answer (number_of refusal.Unlawful) (first_of (λ a. not (has_lawful_plan a)) l) 0)
    (pair_of 0 l))

-- all zero: the value for a repeater after the end of a list
abbrev pub no_assignment : Assignment
no_assignment = record { rule = 0; level = 0; duration = 0; slots = plan 0 0 0 }
