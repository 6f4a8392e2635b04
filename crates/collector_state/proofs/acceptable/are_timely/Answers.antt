-- `collector_state::acceptable::are_timely` meets its contract, whatever the other columns are.
use Rattle.std.proofs.Common.{◌≡◌, List, ℕ, ◌≤◌, ◌-◌, length, take, sym, ◌∙◌}
use Rattle.collector_model.specs.View.{maturity}
use Rattle.collector_state.specs.Collector.{Columns, entries_at}
use Rattle.collector_state.specs.Private.{are_timely}
use Rattle.collector_state.proofs.Times.{rising, timely_by, rising-not, rising-more, rising_end}
use Rattle.collector_state.proofs.acceptable.are_timely.Goals as goal

timely : (a : Columns) {times : List ℕ} → a.times ≡ times → (count latest : ℕ) → count ≤ length times
    → rising (latest - maturity) latest (take count times) ≡ are_timely latest (entries_at a count)
timely a e count latest h = rw (← e) (timely_by a count latest (rw e h))

pub loop-time-init : goal.loop-time-init
loop-time-init c = rw c.saturating_sub-earliest.ensures

pub returns-then-time-earliest : goal.returns-then-time-earliest
returns-then-time-earliest c table e =
    sym (rising-not _ _ c.loop-time.earliest c.args.latest c.loop-time-test.true c.if-time-earliest.true)
    ∙ c.loop-time.invariant ∙ timely table e c.args.count c.args.latest c.requires

pub loop-time-preserved : goal.loop-time-preserved
loop-time-preserved c =
    sym (rising-more _ _ c.loop-time.earliest c.args.latest c.loop-time-test.true c.if-time-earliest.false)
    ∙ c.loop-time.invariant

pub returns : goal.returns
returns c table e =
    sym (rising_end _ _ c.loop-time.earliest c.args.latest c.loop-time-test.false)
    ∙ c.loop-time.invariant ∙ timely table e c.args.count c.args.latest c.requires
