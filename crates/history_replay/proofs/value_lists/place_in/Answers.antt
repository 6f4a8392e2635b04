-- `history_replay::value_lists::place_in` meets its contract.
use mathlib.Core.Path.{◌∙◌}
use native.Mathlib.Omega.{arith}
use Rattle.history_replay.proofs.Records.{field_lent}
use Rattle.history_replay.proofs.value_lists.place_in.Goals as goal

pub returns : goal.returns
returns c =
    let r = c.args.r.now in
    λ i. record {
      answer = c.form_in-answer.ensures i;
      sent = record {
        len = c.usize_of_byte-len.ensures.0 i;
        bytes = (c.put_bytes.ensures ∙ field_lent r 27 (omega arith)) i;
      };
    }
