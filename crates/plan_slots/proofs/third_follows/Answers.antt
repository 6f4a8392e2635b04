-- `plan_slots::third_follows` meets its contract: `third_follows` goes by the same test of the range.
use borrow.Author.Tests.{lt-ltb, le-ltb}
use Rattle.plan_slots.specs.Search.{third_follows}
use Rattle.plan_slots.proofs.third_follows.Goals as goal

pub returns-then-range : goal.returns-then-range
unfolding third_follows
returns-then-range c = simp (lt-ltb _ _ c.if-range.true)

pub returns : goal.returns
unfolding third_follows
returns c = simp (le-ltb _ _ c.if-range.false, c.in_range.ensures)
