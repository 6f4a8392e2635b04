-- `plan_site::hits` meets its contract: those of the repeater are tried one after the other, a third only where there is one.
use mathlib.Core.Bool.{or-false}
use borrow.Author.Tests.{eq-eqb, ne_eqb}
use Rattle.plan_site.proofs.hits.Goals as goal

pub returns-then-p : goal.returns-then-p
returns-then-p c =
    simp (
      c.overlaps-first.ensures,
      c.overlaps-second.ensures,
      eq-eqb _ _ c.if-p.true,
      or-false,
    )

pub returns : goal.returns
returns c =
    simp (
      c.overlaps-first.ensures,
      c.overlaps-second.ensures,
      c.overlaps.ensures,
      ne_eqb _ _ c.if-p.false,
      or-false,
    )
