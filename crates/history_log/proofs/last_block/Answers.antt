-- `history_log::last_block` meets its contract: no row, or the block that the last row is in.
use mathlib.Core.Path.{◌∙◌}
use Rattle.history_log.proofs.Noting.{none_last, some_last}
use Rattle.history_log.proofs.last_block.Goals as goal

pub returns-then-rows-eq0 : goal.returns-then-rows-eq0
returns-then-rows-eq0 c =
    let a = c.args in
    c.block_of.ensures ∙ none_last a.archive.now a.rows c.if-rows-eq0.true

pub returns : goal.returns
returns c =
    c.block_of-2.ensures ∙ some_last c.args.archive.now c.args.rows c.if-rows-eq0.false c.requires
