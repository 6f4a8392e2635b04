-- `archive_repack::is_dropped` meets its contract: a sound block, and any other.
use mathlib.Core.Path.{sym, ap, ◌∙◌}
use mathlib.Core.Bool.{not}
use borrow.Author.Tests.{ne_eqb}
use Rattle.archive_repack.proofs.Walks.{kept-not-dropped, dropped_by}
use Rattle.archive_repack.proofs.is_dropped.Goals as goal

pub returns-then-rows-eq0 : goal.returns-then-rows-eq0
returns-then-rows-eq0 c =
    ap not c.is_blank.ensures ∙ sym (dropped_by c.args.block.now c.args.rows c.requires c.if-rows-eq0.true)

pub returns-else-rows-eq0 : goal.returns-else-rows-eq0
returns-else-rows-eq0 c =
    ne_eqb c.args.rows 0 c.if-rows-eq0.false
    ∙ sym (kept-not-dropped c.args.block.now c.args.rows c.requires c.if-rows-eq0.false)
