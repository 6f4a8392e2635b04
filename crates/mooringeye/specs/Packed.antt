-- Answers as one number.
use Rattle.std.specs.Prelude.{ℕ, ◌+◌, ◌*◌}
use Rattle.plan_slots.specs.declared.SlotPlan.{SlotPlan}
use Rattle.plan_slots.specs.Plan.{PlanAnswer}
use Rattle.plan_site.specs.Site as site

abbrev pub plan_answer : ℕ → SlotPlan → PlanAnswer
plan_answer n p = record { number = n; slots = p }

-- an answer in one number: from the highest byte on, its number and its three slots
abbrev pub packed : PlanAnswer → ℕ
packed a = a.number * 16_777_216 + a.slots.first * 65_536 + a.slots.second * 256 + a.slots.third

-- the answer for a site in one number: its number, and a byte for each repeater that it names
abbrev pub packed_site : site.SiteAnswer → ℕ
packed_site a = a.number * 65_536 + a.repeater * 256 + a.other

-- version 1.0.0: major x 65,536 + minor x 256 + patch
abbrev pub interface_version : ℕ
interface_version = 65_536
