-- `history_replay::values::replay` meets its contract: what any collector shows, of one started fresh.
use Rattle.history_calls.proofs.Elements.{fresh-value}
use Rattle.history_replay.proofs.Called.{state_of}
use Rattle.history_replay.proofs.Running.{replays}
use Rattle.history_replay.proofs.values.replay.Goals as goal

pub returns : goal.returns
returns c =
    let f = c.fresh.ensures in
    replays _ _ _ (fresh-value f) (state_of f) c.resume.ensures
