-- `history_replay::value_lists::reception_in` meets its contract.
use mathlib.Core.Path.{◌∙◌}
use native.Mathlib.Omega.{arith}
use lib.ListN.{get_or}
use Rattle.base_buffers.specs.Buffer.{resized}
use Rattle.history_replay.proofs.Records.{field_lent}
use Rattle.history_replay.proofs.value_lists.reception_in.Goals as goal

pub returns : goal.returns
returns c =
    let r = c.args.r.now in
    λ i. record {
      bytes = resized (get_or r 9 0) ((c.put_bytes.ensures ∙ field_lent r 10 (omega arith)) i);
      time = c.number_at-time.ensures i;
    }
