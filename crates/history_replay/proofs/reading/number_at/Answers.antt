-- `history_replay::reading::number_at` meets its contract.
use mathlib.Core.Path.{◌∙◌}
use Rattle.history_replay.specs.Calls.{number_at}
use Rattle.history_replay.proofs.Records.{number_is}
use Rattle.history_replay.proofs.reading.number_at.Goals as goal

pub returns : goal.returns
unfolding number_at
returns c =
    let a = c.args in
    c.read_number.ensures ∙ number_is a.r.now a.at
