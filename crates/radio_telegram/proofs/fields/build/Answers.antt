-- `radio_telegram::fields::build` meets its contract: what is admitted fits a frame, which is then written.
use mathlib.Core.Path.{sym, ◌∙◌}
use native.Mathlib.Omega.{arith}
use Rattle.std.proofs.lemmas.Result.{err_from_is_err_and}
use Rattle.radio_telegram.proofs.Frames.{frame-len}
use Rattle.radio_telegram.proofs.Building.{buildable, build_refused, build_put}
use Rattle.radio_telegram.proofs.fields.build.Goals as goal

pub returns-in_err-admission : goal.returns-in_err-admission
returns-in_err-admission c =
    let p = err_from_is_err_and c.from_residual.result c.from_residual.ensures.1 in
    rw (p.1, p.2) (build_refused _ _ _ c.in_err-admission.ensures)

pub frame_of-requires : goal.frame_of-requires
frame_of-requires c = buildable _ (sym c.in_ok-admission.ensures)

pub emit-requires : goal.emit-requires
emit-requires c =
    omega (arith, frame-len _ _ c.frame_of.ensures, (buildable _ (sym c.in_ok-admission.ensures)).fits)

pub returns : goal.returns
returns c = c.emit.ensures _ c.frame_of.ensures ∙ build_put _ _ (sym c.in_ok-admission.ensures)
