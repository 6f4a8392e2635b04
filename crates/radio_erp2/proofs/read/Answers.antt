-- `radio_erp2::read` meets its contract: what the check says is what reading the fields asks for.
use mathlib.Core.Path.{sym}
use Rattle.std.proofs.lemmas.Result.{err_from_is_err_and}
use Rattle.radio_erp2_model.proofs.Sound.{check_facts}
use Rattle.radio_erp2.proofs.Answers.{read_valid, read_refused}
use Rattle.radio_erp2.proofs.read.Goals as goal

pub returns-in_err-check : goal.returns-in_err-check
returns-in_err-check c =
    let p = err_from_is_err_and c.from_residual.result c.from_residual.ensures.1 in
    rw (p.1, p.2) (read_refused _ _ c.in_err-check.ensures)

pub fields-requires : goal.fields-requires
fields-requires c =
    let v = check_facts _ (sym c.in_ok-check.ensures) in
    record { long = v.long; fits = v.fits }

pub returns : goal.returns
returns c = read_valid _ _ (sym c.in_ok-check.ensures) c.fields.ensures
