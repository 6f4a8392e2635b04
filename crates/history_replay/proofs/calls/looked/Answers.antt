-- `history_replay::calls::looked` meets its contract.
use Rattle.history_replay.proofs.Called.{looked}
use Rattle.history_replay.proofs.calls.looked.Goals as goal

pub returns : goal.returns
returns c =
    looked _ c.totals_of-totals.ensures c.put_head.ensures
