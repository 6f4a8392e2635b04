-- `history_replay::reading::window` meets its contract.
use Rattle.history_replay.proofs.Records.{window_is}
use Rattle.history_replay.proofs.reading.window.Goals as goal

pub returns : goal.returns
returns c =
    let a = c.args in
    window_is a.s.now a.a a.n _ _ c.min-start.ensures c.min-end.ensures
