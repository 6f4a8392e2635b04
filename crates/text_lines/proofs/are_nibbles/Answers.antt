-- The goals that a search does not find.
use native.Mathlib.Omega.{arith}
use borrow.Author.Count.{below_more}
use borrow.Author.Tests.{ltb-true}
use Rattle.base_lists.proofs.Choice.{both}
use Rattle.text_lines.proofs.are_nibbles.Goals as goal

pub loop-x-init : goal.loop-x-init
loop-x-init c = λ e j h. absurd (omega arith)

pub loop-x-preserved : goal.loop-x-preserved
loop-x-preserved c = λ e.
    let w = both _ _ e in
    below_more _ _ (c.loop-x.invariant w.0) (ltb-true _ 16 w.1)

pub returns : goal.returns
returns c = λ e k h. c.loop-x.invariant e k (omega arith)
