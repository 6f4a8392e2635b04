-- `collector_checkpoint::totals_in` meets its contract, field by field.
use Rattle.collector_model.specs.Image.{totals_in}
use Rattle.collector_checkpoint.proofs.totals_in.Goals as goal

pub returns : goal.returns
unfolding totals_in
returns c =
    λ i. record {
      received = c.second_in-received.ensures i;
      kept = c.first_in-kept.ensures i;
      copies = c.second_in-copies.ensures i;
      loose = c.first_in-loose.ensures i;
      damaged = c.second_in-damaged.ensures i;
      late = c.first_in-late.ensures i;
    }
