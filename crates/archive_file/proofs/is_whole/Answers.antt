-- `archive_file::is_whole` meets its contract.
use borrow.Author.Tests.{eq-eqb, ne_eqb}
use Rattle.archive_model.specs.Buffer.{is_whole}
use Rattle.archive_file.proofs.is_whole.Goals as goal

pub returns-then-len-eq0 : goal.returns-then-len-eq0
unfolding is_whole
returns-then-len-eq0 c = rw (eq-eqb _ 0 c.if-len-eq0.true)

pub returns-else-len-eq0 : goal.returns-else-len-eq0
unfolding is_whole
returns-else-len-eq0 c = rw (ne_eqb _ 0 c.if-len-eq0.false)
