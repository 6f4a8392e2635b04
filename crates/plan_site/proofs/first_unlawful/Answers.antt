-- `plan_site::first_unlawful` meets its contract: the closure tests the repeater in some bytes.
use borrow.Author.Rules.{rules}
use borrow.Author.Tests.{tests}
use mathlib.Core.Bool.{Bool, not}
use Rattle.std.proofs.lemmas.Iterator.{IsFirst-from_position, YieldsList-from_slice}
use Rattle.plan_site.specs.declared.Assignment.{Assignment}
use Rattle.plan_site.specs.Site.{has_lawful_plan}
use Rattle.plan_site.proofs.Found.{Passes, Fails, first_found}
use Rattle.plan_site.proofs.first_unlawful.Goals as goal

abbrev is_unlawful : Assignment → Bool
is_unlawful b = not (has_lawful_plan b)

pub returns : goal.returns
returns c =
    first_found is_unlawful _ _
    (IsFirst-from_position _ _ _ (Passes is_unlawful) (Fails is_unlawful) c.position.ensures.ran
    (YieldsList-from_slice c.args.repeaters.now cc) (λ x q k. search (rules, tests)) (λ x q k. search (rules, tests)))
