-- `radio_telegram::fields::plain_fields` meets its contract.
use native.Mathlib.Omega.{arith}
use Rattle.radio_erp1.proofs.Checks.{status_at}
use Rattle.radio_telegram.proofs.fields.plain_fields.Goals as goal

pub returns : goal.returns
returns c =
    let status =
    status_at c.args.s.now
    (omega (arith, c.requires.0)) in
    cc
