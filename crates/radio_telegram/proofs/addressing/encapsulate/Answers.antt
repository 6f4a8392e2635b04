-- `radio_telegram::addressing::encapsulate` meets its contract: the fields that were read are built again, addressed.
use mathlib.Core.Path.{◌∙◌, refl, sym}
use Rattle.std.proofs.lemmas.Result.{err_from_is_err_and}
use Rattle.radio_telegram.proofs.Reading.{reads_valid, reads_refused, reads_fields, reads_flag}
use Rattle.radio_telegram.proofs.Addressed.{encapsulate_refused, encapsulate_nested, encapsulate_built}
use Rattle.radio_telegram.proofs.addressing.encapsulate.Goals as goal

pub returns-in_err-t : goal.returns-in_err-t
returns-in_err-t c =
    let p = err_from_is_err_and c.from_residual.result c.from_residual.ensures.1 in
    rw (p.1, p.2) (encapsulate_refused _ _ _ (reads_refused c.args.bytes.now _ c.in_err-t.ensures) _)

pub returns-then-is_some : goal.returns-then-is_some
returns-then-is_some c =
    let s = c.args.bytes.now in
    encapsulate_nested _ _ (reads_valid s c.in_ok-t.t c.in_ok-t.ensures) _
    (reads_flag s c.in_ok-t.t c.in_ok-t.ensures ∙ sym c.if-is_some.ensures)

pub returns : goal.returns
returns c =
    let s = c.args.bytes.now in
    c.build.ensures
    ∙ encapsulate_built _ _ (reads_valid s c.in_ok-t.t c.in_ok-t.ensures) _ _
    (reads_fields s c.in_ok-t.t c.in_ok-t.ensures) _ refl
    (reads_flag s c.in_ok-t.t c.in_ok-t.ensures ∙ sym c.if-is_some.ensures)
