-- `history_replay::replay` meets its contract: what any collector shows, of one started fresh.
use Rattle.history_replay.proofs.Running.{replays}
use Rattle.history_replay.proofs.replay.Goals as goal

pub returns-clause-replays : goal.returns-clause-replays
returns-clause-replays c =
    let f = c.clear.ensures.fresh in
    replays _ _ _ f.zero f.state c.resume.ensures.resumes
