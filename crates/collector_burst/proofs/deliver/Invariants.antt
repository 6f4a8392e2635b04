-- The receptions before `i` are taken, and what is left leads to the whole list's end.
use Rattle.std.proofs.Common.{true}
use Rattle.collector_state.specs.Collector.{columns_lent, SameArrays}
use Rattle.collector_burst.proofs.Turn.{Going}
use Rattle.collector_burst.proofs.deliver.Given as goal

abbrev pub invariant-loop-i : goal.invariant-loop-i
invariant-loop-i l =
    Going l.setting true (columns_lent l.fn.state) l.fn.state.summary l.receptions
    l.fn.replies l.i (columns_lent l.state) l.state.summary l.replies
    × SameArrays l.fn.state l.state
