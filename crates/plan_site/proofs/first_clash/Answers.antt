-- `plan_site::first_clash` meets its contract: the closure tests the repeater in some bytes.
use borrow.Author.Rules.{rules}
use borrow.Author.Tests.{tests}
use Rattle.std.proofs.lemmas.Iterator.{IsFirst-from_position, YieldsList-from_slice}
use Rattle.plan_site.specs.Site.{clash}
use Rattle.plan_site.proofs.Found.{Passes, Fails, first_found}
use Rattle.plan_site.proofs.first_clash.Goals as goal

pub returns : goal.returns
returns c =
    let p = clash c.args.b in
    first_found p _ _
    (IsFirst-from_position _ _ _ (Passes p) (Fails p) c.position.ensures.ran
    (YieldsList-from_slice c.args.others.now cc) (λ x q k. search (rules, tests)) (λ x q k. search (rules, tests)))
