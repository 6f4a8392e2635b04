-- `archive_cut::shorten` meets its contract: no row, or some.
use mathlib.Core.Path.{sym, ap, ◌∙◌}
use Prim.Native.Nat.{ℕ}
use native.Mathlib.Omega.{arith}
use lib.ListN.{replicate}
use Rattle.archive_model.proofs.Exact.{tests, sound_long}
use Rattle.archive_cut.specs.Cut.{first_rows}
use Rattle.archive_cut.proofs.Blocks.{rows-kept, first_none, first_some}
use Rattle.archive_cut.proofs.shorten.Goals as goal

pub returns-then-rows-eq0 : goal.returns-then-rows-eq0
returns-then-rows-eq0 c =
    let b = c.args.block.now in
    c.clear.ensures ∙ ap (λ (n : ℕ). replicate n 0) (sound_long b c.requires.0) ∙ first_none b
    ∙ ap (λ (m : ℕ). first_rows m b) (sym c.if-rows-eq0.true)

pub keep_rows-requires : goal.keep_rows-requires
keep_rows-requires c =
    let b = c.args.block.now in
    (sound_long b c.requires.0, omega (arith, c.requires.1, (tests b c.requires.0).1))

pub returns : goal.returns
returns c =
    let b = c.args.block.now in
    c.keep_rows.ensures ∙ rows-kept b c.requires.0 c.args.rows c.requires.1
    ∙ first_some c.args.rows b c.if-rows-eq0.false
