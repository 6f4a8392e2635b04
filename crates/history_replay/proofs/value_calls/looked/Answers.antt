-- `history_replay::value_calls::looked` meets its contract.
use mathlib.Core.Path.{refl}
use Rattle.history_replay.proofs.Called.{looked}
use Rattle.history_replay.proofs.value_calls.looked.Goals as goal

pub returns : goal.returns
returns c =
    looked _ refl c.put_head.ensures
