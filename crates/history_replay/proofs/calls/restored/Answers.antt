-- `history_replay::calls::restored` meets its contract: by what `restore` ensures.
use Rattle.history_replay.proofs.Called.{restored_as, restored}
use Rattle.history_replay.proofs.calls.restored.Goals as goal

pub returns-clause-called : goal.returns-clause-called
returns-clause-called c =
    restored c.totals_of-totals.ensures
    (restored_as c.lent_in.ensures c.restore-number.ensures.restores) c.put_head.ensures
