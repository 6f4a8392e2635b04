-- `history_replay::calls::totals_of` meets its contract: by what `totals` ensures, and of a state that it refuses by computation.
use mathlib.Core.Path.{ap}
use Rattle.collector_state.specs.declared.Summary.{Summary}
use Rattle.c_collector.specs.State.{arrays_in}
use Rattle.history_replay.proofs.Called.{totals-done}
use Rattle.history_replay.proofs.calls.totals_of.Goals as goal

pub returns-then-number-ne0 : goal.returns-then-number-ne0
returns-then-number-ne0 c = ap (λ (s : Summary). s.totals) c.summary_in-summary.ensures.0

pub returns : goal.returns
returns c =
    totals-done (arrays_in c.args.state.now) _ _ _ _ _ c.held.ensures c.totals-number.ensures
    c.if-number-ne0.false c.totals_in.ensures
