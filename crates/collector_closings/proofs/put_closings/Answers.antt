-- `collector_closings::put_closings` meets its contract: where nothing is taken nothing closes; an acceptable state can be written.
use mathlib.Core.Path.{◌≡◌, refl, sym, ◌∙◌}
use mathlib.Core.Bool.{true}
use native.Mathlib.Omega.{arith}
use Rattle.base_lists.proofs.Choice.{both}
use Rattle.collector_model.specs.View.{View, Reception}
use Rattle.collector_model.specs.Acceptable.{acceptable}
use Rattle.collector_state.specs.Collector.{columns_held, view_in}
use Rattle.collector_checkpoint.proofs.Writing.{writable_state}
use Rattle.collector_closings.specs.Cells.{is_taken}
use Rattle.collector_closings.proofs.Cells.{none_closed, some_closed}
use Rattle.collector_closings.proofs.put_closings.Goals.{Start, After-will_take}
use Rattle.collector_closings.proofs.put_closings.Goals as goal

abbrev view : Start → View
view s = view_in (columns_held s.args.state) s.args.state.summary

abbrev heard : Start → Reception
heard s = record { bytes = s.args.received.now; time = s.args.time }

-- what was answered of the state and the reception
said : (c : After-will_take)
    → (
    let v = view_in (columns_held c.args.state) c.args.state.summary in
    c.will_take.result ≡ is_taken (acceptable v) v.totals.received v.latest c.args.received.now c.args.time)
said c = rw c.requires.0.said at c.will_take.ensures

pub returns-then-not-will_take : goal.returns-then-not-will_take
returns-then-not-will_take c =
    let at = goal.at.returns-then-not-will_take c in
    let e = sym (said at.After-will_take) ∙ c.if-not-will_take.true in
    rw (← none_closed (view at.Start) (heard at.Start) e)
    (record { bytes = refl; next = omega arith; short = omega arith })

pub put_past-requires : goal.put_past-requires
put_past-requires c =
    let at = goal.at.put_past-requires c in
    let ok : acceptable (view at.Start) ≡ true =
    (both (acceptable (view at.Start)) _ (sym (said at.After-will_take) ∙ c.if-not-will_take.false)).0 in
    (writable_state (columns_held c.args.state) c.args.state.summary ok, c.requires.1)

pub returns : goal.returns
returns c =
    let at = goal.at.returns c in
    rw (← some_closed (view at.Start) (heard at.Start)
    (sym (said at.After-will_take) ∙ c.if-not-will_take.false)) c.put_past.ensures
