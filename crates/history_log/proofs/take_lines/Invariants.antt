-- `history_log::take_lines` meets its contract. The invariant: what the input up to `at` says stands in the outputs, and the collector's state is good.
-- The measure is what is left of the input.
use mathlib.Core.Bool.{Bool}
use mathlib.Core.List.{List}
use Prim.Native.Nat.{ℕ, ◌-◌}
use lib.ListN.{length}
use Rattle.collector_model.proofs.Invariant.{Good}
use Rattle.c_collector.specs.State.{Arrays, arrays_in, state_at}
use Rattle.history_log.specs.Private.{Outputs, outputs, phase_at}
use Rattle.history_log.proofs.Turning.{Going}
use Rattle.history_log.proofs.take_lines.Given as goal

pub record Taking (write : Bool) (s₀ : Arrays) (setting : ℕ) (input : List ℕ) (o₀ : Outputs) (s : Arrays) (at : ℕ)
    (o : Outputs) : Type 0 where
  pub going : Going write (phase_at setting s₀) input o₀ (phase_at setting s) at o
  pub good : Good (state_at s)

abbrev pub invariant-loop-t : goal.invariant-loop-t
invariant-loop-t l =
    Taking l.write (arrays_in l.initial.state) l.setting l.input (outputs l.initial.archive l.n l.initial.heard l.m)
    (arrays_in l.state) l.at (outputs l.archive l.rows l.heard l.closings)

abbrev pub decreases-loop-t : goal.decreases-loop-t
decreases-loop-t l = length l.input - l.at
