-- `radio_telegram::addressing::decapsulate` meets its contract: the fields that were read are built again, with no address.
use mathlib.Core.Path.{◌∙◌, refl}
use Rattle.std.proofs.lemmas.Result.{err_from_is_err_and}
use Rattle.radio_telegram.proofs.Reading.{reads_valid, reads_refused, reads_fields, reads_flag}
use Rattle.radio_telegram.proofs.Addressed.{decapsulate_refused, decapsulate_plain, decapsulate_built}
use Rattle.radio_telegram.proofs.addressing.decapsulate.Goals as goal

pub returns-in_err-t : goal.returns-in_err-t
returns-in_err-t c =
    let p = err_from_is_err_and c.from_residual.result c.from_residual.ensures.1 in
    rw (p.1, p.2) (decapsulate_refused _ _ _ (reads_refused c.args.bytes.now _ c.in_err-t.ensures))

pub returns-then-is_none : goal.returns-then-is_none
returns-then-is_none c =
    let s = c.args.bytes.now in
    decapsulate_plain _ _ (reads_valid s c.in_ok-t.t c.in_ok-t.ensures)
    (reads_flag s c.in_ok-t.t c.in_ok-t.ensures ∙ c.if-is_none.ensures)

pub returns : goal.returns
returns c =
    let s = c.args.bytes.now in
    c.build.ensures
    ∙ decapsulate_built _ _ (reads_valid s c.in_ok-t.t c.in_ok-t.ensures) _ _
    (reads_fields s c.in_ok-t.t c.in_ok-t.ensures) refl
    (reads_flag s c.in_ok-t.t c.in_ok-t.ensures ∙ c.if-is_none.ensures)
