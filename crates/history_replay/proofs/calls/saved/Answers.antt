-- `history_replay::calls::saved` meets its contract: by what `checkpoint` ensures.
use mathlib.Core.Path.{ap, ◌∙◌}
use mathlib.Core.List.{List}
use Rattle.c_collector.specs.State.{Arrays, arrays_in, state_at}
use Rattle.history_replay_model.specs.Record.{seen_bytes}
use Rattle.history_replay.specs.Calls.{output_in}
use Rattle.history_replay.specs.Private.{wrote_of}
use Rattle.history_replay.proofs.Making.{output_is}
use Rattle.history_replay.proofs.Called.{saved}
use Rattle.history_replay.proofs.calls.saved.Goals.{Start}
use Rattle.history_replay.proofs.calls.saved.Goals as goal

-- what is lent
abbrev lent : Start → Arrays
lent s =
    let a = s.args in
    arrays_in a.state.now

pub returns : goal.returns
returns c =
    let c_back3 = c.before.before.before in
    let c_back6 = c_back3.before.before.before in
    let a = c.args in
    saved (output_in a.r.now)
    (c.put_wrote.ensures
    ∙ ap (λ (output : List _). seen_bytes
    (wrote_of (state_at (lent c_back6.before.before)) output))
    (output_is a.r.now a.out.now c.requires.1))
