-- `text_print::take_lines` meets its contract. The invariant: the lines of the first `at` characters were taken, and what they give stands before `to`.
-- The measure is what is left of the input.
use mathlib.Core.Path.{◌≡◌}
use mathlib.Core.List.{List}
use Prim.Native.Nat.{ℕ, ◌-◌, ◌≤◌}
use lib.ListN.{length, take}
use Rattle.text_program.specs.Collect.{collect}
use Rattle.text_program.specs.Buffer.{Fed}
use Rattle.text_collect.specs.declared.Session.{Session}
use Rattle.text_collect.specs.Session.{model_collector, phase_of}
use Rattle.text_print.proofs.take_lines.Given as goal

pub record Taking (input out₀ : List ℕ) (s₀ : Session) (out : List ℕ) (s : Session) (at to : ℕ) : Type 0 where
  pub inside : at ≤ length input
  pub long : length out ≡ length out₀
  pub fed : Fed (collect model_collector) (phase_of s₀) (take at input) out₀ (phase_of s) out to

abbrev pub invariant-loop-at : goal.invariant-loop-at
invariant-loop-at l = Taking l.input l.initial.out l.initial.s l.out l.s l.at l.to

abbrev pub decreases-loop-at : goal.decreases-loop-at
decreases-loop-at l = length l.input - l.at
