-- `history_replay::value_lists::form_in` meets its contract: a test for each form.
use borrow.Author.Tests.{ne_eqb}
use Rattle.history_replay.proofs.value_lists.form_in.Goals as goal

pub returns-then-form-eq0 : goal.returns-then-form-eq0
returns-then-form-eq0 c = rw c.if-form-eq0.true

pub returns-then-form-eq1 : goal.returns-then-form-eq1
returns-then-form-eq1 c = rw c.if-form-eq1.true

pub returns : goal.returns
returns c = rw (ne_eqb _ 0 c.if-form-eq0.false, ne_eqb _ 1 c.if-form-eq1.false)
