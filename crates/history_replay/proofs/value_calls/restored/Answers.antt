-- `history_replay::value_calls::restored` meets its contract: by what `restore` ensures.
use mathlib.Core.Path.{◌∙◌}
use Rattle.history_replay_model.specs.Operation.{restoring}
use Rattle.history_replay_model.specs.Record.{head_of}
use Rattle.history_replay.proofs.Called.{at-next, restored_as_value, restored-value}
use Rattle.history_replay.proofs.value_calls.restored.Goals as goal

pub returns : goal.returns
returns c =
    let a = c.args in
    at-next c.next_in-next.ensures
    (restored-value {c = a.c} (restored_as_value c.lent_in.ensures c.restore-restored.ensures)
    (c.put_head.ensures
    ∙ λ i. head_of restoring (c.next_number-number.ensures i) (c.next_in-next.ensures i).summary.totals))
