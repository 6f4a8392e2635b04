-- The goals that a search does not find.
use mathlib.Core.Path.{sym, ◌∙◌}
use native.Mathlib.Omega.{arith}
use borrow.Author.Count.{below_more}
use Rattle.base_lists.proofs.Choice.{both}
use Rattle.text_lines.proofs.are_digits.Goals as goal

pub loop-c-init : goal.loop-c-init
loop-c-init c = λ e j h. absurd (omega arith)

pub loop-c-preserved : goal.loop-c-preserved
loop-c-preserved c = λ e.
    let w = both _ _ e in
    below_more _ _ (c.loop-c.invariant w.0) (sym c.is_digit-all.ensures ∙ w.1)

pub returns : goal.returns
returns c = λ e k h. c.loop-c.invariant e k (omega arith)
