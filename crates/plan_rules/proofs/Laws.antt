-- What a draw gets under a named rule, that the standard rule is document 01's, and that compressed level 2 has no plan: each from the laws of
-- `drawn` and `plans`, which hold of every rule.
use mathlib.Core.Bool.{and-true, and-false}
use mathlib.Core.List.{flat_map}
use Prim.Native.Nat.{zero, suc}
use native.Mathlib.Omega.{arith}
use borrow.Author.Tests.{lt-leb}
use Rattle.base_lists.specs.Lists.{up_from}
use Rattle.plan_slots.specs.Plan.{is_duration, plan_of, plans, candidates, drawn}
use Rattle.plan_slots.proofs.Chosen.{drawn-chosen}
use Rattle.plan_rules.specs.Rules.{rule_of, plan_by}
use Rattle.plan_rules.specs.Claims.{PlanByChosen, StandardSame, CompressedLevel2}

pub plan_by-chosen : PlanByChosen
unfolding plan_by
plan_by-chosen rule level n d draw =
    record { argument = λ e. rw e; chosen = λ e. rw e (drawn-chosen (rule_of rule level n) d draw) }

pub standard_same : StandardSame
unfolding plan_by plan_of
standard_same zero d draw = rw (and-true (is_duration d))
standard_same (suc zero) d draw = rw (and-true (is_duration d))
standard_same (suc (suc zero)) d draw = rw (and-true (is_duration d))
standard_same (suc (suc (suc level))) d draw = simp (lt-leb (suc (suc (suc level))) 2 (omega arith), and-false)

pub compressed_level_2 : CompressedLevel2
unfolding plan_by drawn plans candidates up_from flat_map
compressed_level_2 d draw e = rw e
