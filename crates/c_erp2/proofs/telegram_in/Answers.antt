-- `c_erp2::telegram_in` meets its contract.
use Rattle.c_erp2.specs.Fields.{telegram_in}
use Rattle.radio_erp2.proofs.Parts.{then_cond}
use Rattle.c_erp2.proofs.telegram_in.Goals as goal

pub returns : goal.returns
unfolding telegram_in
returns c =
    let payload = (rw c.unwrap.ensures at c.try_into.ensures.1).same in
    let optional = (rw c.unwrap-2.ensures at c.try_into-2.ensures.1).same in
    simp (
      c.then_some.ensures,
      c.then_some-2.ensures,
      c.then_some-3.ensures,
      then_cond,
      payload,
      optional,
      c.from.ensures,
    )
