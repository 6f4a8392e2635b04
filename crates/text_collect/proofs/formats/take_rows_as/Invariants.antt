-- `text_collect::formats::take_rows_as` meets its contract. The invariant: the lines up to `at` were taken (`Taken`). The measure is what is left of
-- the input.
use Prim.Native.Nat.{◌-◌}
use lib.ListN.{length}
use Rattle.collector_state.specs.Collector.{columns_lent, view_in, SameArrays}
use Rattle.text_collect.specs.Formats.{collect_in}
use Rattle.text_collect.specs.Heard.{is_asked, RoomyIn}
use Rattle.text_collect.specs.Session.{running_at}
use Rattle.text_collect.proofs.Turns.{Taken}
use Rattle.text_collect.proofs.formats.take_rows_as.Given as goal

abbrev pub invariant-loop-out : goal.invariant-loop-out
invariant-loop-out l =
    Taken (collect_in l.format)
    (RoomyIn l.format (running_at l.setting (view_in (columns_lent l.fn.state) l.fn.state.summary))
    l.fn.out l.fn.moments l.fn.closed)
    (is_asked l.fn.closed) l.fit l.setting l.input l.most
    (view_in (columns_lent l.fn.state) l.fn.state.summary) (columns_lent l.fn.state)
    l.fn.out l.fn.moments l.fn.rows l.fn.closed
    (view_in (columns_lent l.state) l.state.summary) (columns_lent l.state)
    l.out l.moments l.rows l.closed l.at l.to l.n l.k l.left
    × SameArrays l.fn.state l.state

abbrev pub decreases-loop-out : goal.decreases-loop-out
decreases-loop-out l =
    length l.input - l.at
