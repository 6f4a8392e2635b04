-- `history_replay::value_calls::saved` meets its contract: by what `checkpoint` ensures.
use mathlib.Core.Path.{ap, ◌∙◌}
use mathlib.Core.List.{List}
use Rattle.collector_state.specs.Collector.{view_of}
use Rattle.history_replay_model.specs.Record.{seen_bytes}
use Rattle.history_replay.specs.Calls.{output_in}
use Rattle.history_replay.specs.Private.{wrote_of}
use Rattle.history_replay.proofs.Making.{output_is}
use Rattle.history_replay.proofs.Called.{saved}
use Rattle.history_replay.proofs.value_calls.saved.Goals as goal

pub returns : goal.returns
unfolding view_of
returns c =
    let a = c.args in
    saved (output_in a.r.now)
    (c.put_wrote.ensures
    ∙ ap (λ (output : List _). seen_bytes (wrote_of (view_of a.c) output))
    (output_is a.r.now a.out.now c.requires.1))
