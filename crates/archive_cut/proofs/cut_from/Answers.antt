-- `archive_cut::cut_from` meets its contract: fewer rows, as many, or more.
use mathlib.Core.Path.{sym, ap, ◌∙◌}
use native.Mathlib.Omega.{arith}
use Rattle.archive_model.specs.Append.{stored}
use Rattle.archive_cut.proofs.Cutting.{cut_is, cut_over, remaining_whole}
use Rattle.archive_cut.proofs.cut_from.Goals as goal

pub returns-then-n-rows : goal.returns-then-n-rows
returns-then-n-rows c =
    cut_over c.args.rows c.args.buffer.now c.requires.0 (omega (arith, c.requires.1, c.if-n-rows.true))

pub returns-then-n-rows-2 : goal.returns-then-n-rows-2
returns-then-n-rows-2 c =
    let b = c.args.buffer.now in
    let m = c.args.rows in
    ap stored (sym (remaining_whole m b c.requires.0 (sym c.requires.1 ∙ c.if-n-rows-2.true)))
    ∙ cut_is m b c.requires.0 (omega (arith, c.requires.1, c.if-n-rows-2.true))

pub take_back-requires : goal.take_back-requires
take_back-requires c =
    (c.requires.0, omega (arith, c.requires.1, c.if-n-rows-2.false, c.if-n-rows.false))

pub returns : goal.returns
returns c =
    ap stored c.take_back.ensures
    ∙ cut_is c.args.rows c.args.buffer.now c.requires.0 (omega (arith, c.requires.1, c.if-n-rows.false))
