-- `plan_site::all_in_range` meets its contract: the closure tests the repeater in some bytes.
use borrow.Author.Rules.{rules}
use borrow.Author.Tests.{tests}
use Rattle.std.proofs.lemmas.Iterator.{cases_from_all, YieldsList-from_slice}
use Rattle.plan_site.specs.Site.{is_in_range}
use Rattle.plan_site.proofs.Found.{Passes, Fails, all_found}
use Rattle.plan_site.proofs.all_in_range.Goals as goal

pub returns : goal.returns
returns c =
    all_found is_in_range _ _
    (cases_from_all _ _ _ (Passes is_in_range) (Fails is_in_range) c.all.ensures.ran
    (YieldsList-from_slice c.args.repeaters.now cc) (λ x q k. search (rules, tests)) (λ x q k. search (rules, tests)))
