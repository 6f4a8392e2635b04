-- `c_lines::skip_lines` meets its contract. The invariant: the characters up to `at` are whole lines, and they are counted.
-- The measure is how many may still be passed over.
use mathlib.Core.List.{List}
use Prim.Native.Nat.{ℕ, ◌-◌, ◌≤◌}
use lib.ListN.{length, take, replicate}
use Rattle.text_program.specs.Collect.{over}
use Rattle.text_program.specs.Buffer.{Fed}
use Rattle.text_collect.specs.Rows.{line_ticks}
use Rattle.c_lines.proofs.skip_lines.Given as goal

pub record Skipping (input : List ℕ) (most at left : ℕ) : Type 0 where
  pub inside : at ≤ length input
  pub few : left ≤ most
  pub ticks : Fed line_ticks over (take at input) (replicate most 0) over (replicate most 0) (most - left)

abbrev pub invariant-loop-left : goal.invariant-loop-left
invariant-loop-left l = Skipping l.input l.most l.at l.left

abbrev pub decreases-loop-left : goal.decreases-loop-left
decreases-loop-left l = l.left
