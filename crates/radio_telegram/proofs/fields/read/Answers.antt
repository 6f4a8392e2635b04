-- `radio_telegram::fields::read` meets its contract: what the check says gives the lengths that reading the fields asks for.
use mathlib.Core.Path.{◌∙◌, sym}
use native.Mathlib.Omega.{arith}
use Rattle.std.proofs.lemmas.Result.{err_from_is_err_and}
use Rattle.radio_erp1.proofs.Checks.{check_facts}
use Rattle.radio_telegram.proofs.Reading.{fields-plain, fields-addressed, read_valid, read_refused}
use Rattle.radio_telegram.proofs.fields.read.Goals as goal

pub returns-in_err-check : goal.returns-in_err-check
returns-in_err-check c =
    let p = err_from_is_err_and c.from_residual.result c.from_residual.ensures.1 in
    rw (p.1, p.2) (read_refused _ _ c.in_err-check.ensures)

pub bounds-bytes-0 : goal.bounds-bytes-0
bounds-bytes-0 c = omega (arith, (check_facts _ (sym c.in_ok-check.ensures)).low)

pub addressed_fields-requires : goal.addressed_fields-requires
addressed_fields-requires c =
    let valid = check_facts _ (sym c.in_ok-check.ensures) in
    ((valid.inner c.if-bytes.true).0, valid.high)

pub plain_fields-requires : goal.plain_fields-requires
plain_fields-requires c =
    let valid = check_facts _ (sym c.in_ok-check.ensures) in
    (valid.low, valid.high)

pub returns-then-bytes : goal.returns-then-bytes
returns-then-bytes c =
    read_valid _ _ (sym c.in_ok-check.ensures)
    (c.addressed_fields.ensures ∙ fields-addressed _ c.if-bytes.true)

pub returns : goal.returns
returns c =
    read_valid _ _ (sym c.in_ok-check.ensures)
    (c.plain_fields.ensures ∙ fields-plain _ c.if-bytes.false)
