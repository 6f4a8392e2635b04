-- `history_replay::lent_lists::form_with` meets its contract: by its tests.
use borrow.Author.Tests.{ne_eqb}
use Rattle.history_replay.proofs.lent_lists.form_with.Goals as goal

pub returns-then-number-ne0 : goal.returns-then-number-ne0
returns-then-number-ne0 c = rw (ne_eqb _ 0 c.if-number-ne0.true)

pub returns-then-kind-eq0 : goal.returns-then-kind-eq0
returns-then-kind-eq0 c = rw (c.if-number-ne0.false, c.if-kind-eq0.true)

pub returns-then-kind-eq1 : goal.returns-then-kind-eq1
returns-then-kind-eq1 c = rw (c.if-number-ne0.false, c.if-kind-eq1.true)

pub returns : goal.returns
returns c = rw (c.if-number-ne0.false, ne_eqb _ 0 c.if-kind-eq0.false, ne_eqb _ 1 c.if-kind-eq1.false)
