-- `history_replay::value_calls::asked` meets its contract: by what `copies` ensures.
use mathlib.Core.Path.{ap, ◌∙◌}
use mathlib.Core.List.{◌++◌}
use Rattle.block_layout.specs.BigEndian.{be}
use Rattle.collector_model.specs.Heard.{copies_of}
use Rattle.collector_state.specs.Collector.{view_of}
use Rattle.history_replay_model.specs.Operation.{asking}
use Rattle.history_replay_model.specs.Record.{head_of}
use Rattle.history_replay.specs.Calls.{asked_entry}
use Rattle.history_replay.proofs.Called.{heard-value}
use Rattle.history_replay.proofs.value_calls.asked.Goals as goal

pub returns : goal.returns
returns c =
    let a = c.args in
    heard-value (asked_entry a.r.now) c.copies-heard.result
    (c.copies-heard.ensures ∙ ap (copies_of (view_of a.c)) c.number_at-entry.ensures)
    (c.put_body.ensures
    ∙ λ i. head_of asking (c.heard_number-number.ensures i) a.c.summary.totals
    ++ be 8 ((c.from.ensures ∙ c.heard_copies-copies.ensures) i))
