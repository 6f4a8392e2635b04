-- `c_burst::deliver` meets its contract. The invariant: the first i receptions are taken and answered, and what is left leads to the end; the measure:
-- the receptions left.
use mathlib.Core.List.{List}
use Prim.Native.Nat.{ℕ, ◌-◌, ◌≤◌}
use lib.ListN.{length}
use Rattle.collector_model.specs.View.{View}
use Rattle.collector_model.specs.Burst.{max_burst}
use Rattle.collector_state.specs.Collector.{Columns, columns_lent, SameArrays, view_in}
use Rattle.c_burst.specs.Bytes.{receptions_in}
use Rattle.c_burst.proofs.Turns.{Going}
use Rattle.c_burst.proofs.deliver.Given as goal

pub record Delivering (setting : ℕ) (v : View) (a₀ : Columns) (moments records old : List ℕ)
    (i : ℕ) (here : View) (a : Columns) (out : List ℕ) : Type 0 where
  pub bounded : i ≤ length moments
  pub few : length moments ≤ max_burst
  pub going : Going setting v a₀ (receptions_in moments records) old i here a out

abbrev pub invariant-loop-i : goal.invariant-loop-i
invariant-loop-i l =
    Delivering l.setting (view_in (columns_lent l.fn.state) l.fn.state.summary) (columns_lent l.fn.state)
    l.moments l.records l.fn.replies l.i
    (view_in (columns_lent l.state) l.state.summary) (columns_lent l.state) l.replies
    × SameArrays l.fn.state l.state

abbrev pub decreases-loop-i : goal.decreases-loop-i
decreases-loop-i l =
    length l.moments - l.i
