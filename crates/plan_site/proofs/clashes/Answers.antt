-- `plan_site::clashes` meets its contract: the transmissions of the one are tried one after the other, a third only where there is one.
use mathlib.Core.Bool.{or-false}
use borrow.Author.Tests.{eq-eqb, ne_eqb}
use Rattle.plan_site.specs.Site.{clash}
use Rattle.plan_site.proofs.clashes.Goals as goal

pub returns-then-p : goal.returns-then-p
unfolding clash
returns-then-p c =
    simp (
      c.hits-first.ensures,
      c.hits-second.ensures,
      eq-eqb _ _ c.if-p.true,
      or-false,
    )

pub returns : goal.returns
unfolding clash
returns c =
    simp (
      c.hits-first.ensures,
      c.hits-second.ensures,
      c.hits.ensures,
      ne_eqb _ _ c.if-p.false,
      or-false,
    )
