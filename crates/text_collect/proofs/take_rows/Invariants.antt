-- `text_collect::take_rows` meets its contract. The invariant: the lines up to `at` were taken (`Taken`), and nobody asked what they close. The measure
-- is what is left of the input.
use mathlib.Core.Bool.{false}
use mathlib.Core.List.{[]}
use Prim.Native.Nat.{◌-◌}
use lib.ListN.{length}
use Rattle.collector_state.specs.Collector.{columns_lent, view_in, SameArrays}
use Rattle.text_program.specs.Collect.{collect}
use Rattle.text_collect.proofs.Turns.{Taken}
use Rattle.text_collect.specs.Session.{model_collector, running_at}
use Rattle.text_collect.specs.Stored.{Roomy}
use Rattle.text_collect.proofs.take_rows.Given as goal

abbrev pub invariant-loop-out : goal.invariant-loop-out
invariant-loop-out l =
    Taken (collect model_collector)
    (Roomy (running_at l.setting (view_in (columns_lent l.fn.state) l.fn.state.summary)) l.fn.out l.fn.moments)
    false l.fit l.setting l.input l.most
    (view_in (columns_lent l.fn.state) l.fn.state.summary) (columns_lent l.fn.state)
    l.fn.out l.fn.moments l.fn.rows []
    (view_in (columns_lent l.state) l.state.summary) (columns_lent l.state)
    l.out l.moments l.rows [] l.at l.to l.n 0 l.left
    × SameArrays l.fn.state l.state

abbrev pub decreases-loop-out : goal.decreases-loop-out
decreases-loop-out l =
    length l.input - l.at
