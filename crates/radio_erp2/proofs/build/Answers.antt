-- `radio_erp2::build` meets its contract: what is not refused is written.
use mathlib.Core.Path.{sym}
use Rattle.std.proofs.lemmas.Result.{err_from_is_err_and}
use Rattle.radio_erp2.proofs.Admitting.{admitted}
use Rattle.radio_erp2.proofs.Emitting.{build_refused}
use Rattle.radio_erp2.proofs.build.Goals as goal

pub returns-in_err-admission : goal.returns-in_err-admission
returns-in_err-admission c =
    let p = err_from_is_err_and c.from_residual.result c.from_residual.ensures.1 in
    rw (p.1, p.2) (build_refused _ _ _ c.in_err-admission.ensures)

pub emit-requires : goal.emit-requires
emit-requires c = admitted _ (sym c.in_ok-admission.ensures)
