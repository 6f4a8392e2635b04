-- `collector_state::acceptable::are_timely` meets its contract. The loop's invariant: the times rise from the maturity before the latest up to
-- it, if those that are left rise from the one before them.
use Rattle.std.proofs.Common.{◌≡◌, ◌-◌, drop}
use Rattle.collector_model.specs.View.{maturity}
use Rattle.collector_state.proofs.Times.{rising}
use Rattle.collector_state.proofs.acceptable.are_timely.Given as goal

abbrev pub invariant-loop-time : goal.invariant-loop-time
invariant-loop-time l =
    rising l.earliest l.latest (drop l.time-index l.time-items) ≡ rising (l.latest - maturity) l.latest l.time-items
