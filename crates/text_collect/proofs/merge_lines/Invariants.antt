-- `text_collect::merge_lines` meets its contract. The invariant: the lines up to `at` were taken, what they give stands before `to`, and the test of
-- the state says what it said. The measure is what is left of the input.
use mathlib.Core.Path.{◌≡◌}
use mathlib.Core.Bool.{Bool}
use mathlib.Core.List.{List}
use Prim.Native.Nat.{ℕ, ◌-◌, ◌≤◌}
use lib.ListN.{length, take}
use Rattle.collector_model.specs.View.{View}
use Rattle.collector_state.specs.Collector.{columns_lent, view_in, SameArrays}
use Rattle.collector_state.specs.Admission.{Tested}
use Rattle.text_program.specs.Collect.{collect}
use Rattle.text_program.specs.Buffer.{Fed}
use Rattle.text_collect.specs.Session.{model_collector, running_at}
use Rattle.text_collect.proofs.merge_lines.Given as goal

pub record Merging (fit : Bool) (setting : ℕ) (v₀ : View) (input out₀ : List ℕ)
    (v : View) (out : List ℕ) (at to : ℕ) : Type 0 where
  pub inside : at ≤ length input
  pub room : to ≤ length out
  pub long : length out ≡ length out₀
  pub tested : Tested fit v
  pub fed : Fed (collect model_collector) (running_at setting v₀) (take at input) out₀ (running_at setting v) out to

abbrev pub invariant-loop-out : goal.invariant-loop-out
invariant-loop-out l =
    Merging l.fit l.setting (view_in (columns_lent l.fn.state) l.fn.state.summary) l.input l.fn.out
    (view_in (columns_lent l.state) l.state.summary) l.out l.at l.to
    × SameArrays l.fn.state l.state

abbrev pub decreases-loop-out : goal.decreases-loop-out
decreases-loop-out l =
    length l.input - l.at
