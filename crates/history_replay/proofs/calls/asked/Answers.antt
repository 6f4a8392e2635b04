-- `history_replay::calls::asked` meets its contract: by what `copies_of` ensures.
use mathlib.Core.Path.{ap, ◌∙◌}
use Rattle.c_collector.specs.State.{Arrays, arrays_in, state_at}
use Rattle.c_collector.specs.Calls.{copies_call}
use Rattle.history_replay.specs.Calls.{asked_entry}
use Rattle.history_replay.proofs.Called.{heard}
use Rattle.history_replay.proofs.calls.asked.Goals.{Start}
use Rattle.history_replay.proofs.calls.asked.Goals as goal

-- what is lent
abbrev lent : Start → Arrays
lent s = arrays_in s.args.state.now

pub returns : goal.returns
returns c =
    let s = lent (goal.at.returns c).Start in
    heard {s = s} (asked_entry c.args.r.now) _ _ _
    (c.copies_of-number.ensures
    ∙ ap (λ (a : Arrays). copies_call (state_at a) c.number_at-entry.result 0) c.held.ensures
    ∙ ap (λ k. copies_call (state_at s) k 0) c.number_at-entry.ensures)
    c.totals_of-totals.ensures c.put_body.ensures
