-- What the test of a rule and a level says.
use mathlib.Core.Path.{◌≡◌}
use mathlib.Core.Bool.{true}
use Prim.Native.Nat.{ℕ}
use lib.Dec.{leb}
use borrow.Author.Tests.{leb-true}
use Rattle.base_lists.proofs.Choice.{both}
use Rattle.plan_slots.specs.Plan.{is_level}
use Rattle.plan_rules.specs.Rules.{IsRuleAndLevel, is_rule_and_level}

pub known : (rule level : ℕ) → is_rule_and_level rule level ≡ true → IsRuleAndLevel rule level
known rule level e =
    let w = both (leb rule 2) (is_level level) e in
    record { rule_known = leb-true rule 2 w.0; level_known = leb-true level 2 w.1 }
