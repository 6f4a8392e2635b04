-- `c_erp2::read` meets its contract: beside a refusal nothing is written, and data that is read fits a byte's length.
use mathlib.Core.Path.{refl, ◌∙◌, ap, sym}
use Prim.Native.Nat.{◌<◌}
use native.Mathlib.Omega.{arith}
use Rattle.std.specs.Prelude.{unwrap_or}
use Rattle.base_refusal.proofs.Numbers.{refused-number}
use Rattle.radio_erp2_model.specs.Reading.{Read, length_byte}
use Rattle.c_erp2.specs.Fields.{fields_bytes}
use Rattle.c_erp2.specs.Calls.{reading}
use Rattle.c_erp2.proofs.Calls.{read_other, read_not, read_done, read_len}
use Rattle.c_erp2.proofs.read.Goals as goal

pub returns-then-fields-ne-FIELDS_LENGTH : goal.returns-then-fields-ne-FIELDS_LENGTH
returns-then-fields-ne-FIELDS_LENGTH c =
    let a = c.args in
    read_other a.bytes.now a.fields.now a.originator.now a.destination.now c.if-fields-ne-FIELDS_LENGTH.true

pub put_fields-requires : goal.put_fields-requires
put_fields-requires c =
    let s = c.args.bytes.now in
    let low : length_byte s < 256 = omega (arith, c.type_inv.bytes 0) in
    let short = read_len s low in
    let is = ap (λ (r : Read). r.telegram.len) c.in-Ok.ensures in
    (c.if-fields-ne-FIELDS_LENGTH.false, omega (arith, short, is))

pub returns-in-Err : goal.returns-in-Err
returns-in-Err c =
    let a = c.args in
    let is = ap (λ (r : Read). r.number) c.in-Err.ensures in
    read_not a.bytes.now a.fields.now a.originator.now a.destination.now
    c.number.result c.if-fields-ne-FIELDS_LENGTH.false (c.number.ensures ∙ is)
    (λ z. refused-number c.in-Err.why (sym c.number.ensures ∙ z))

pub returns-in-Ok : goal.returns-in-Ok
returns-in-Ok c =
    let a = c.args in
    let is = ap (λ (r : Read). r.number) c.in-Ok.ensures in
    rw (c.put_fields.ensures, c.unwrap_or.ensures)
    (ap (λ (r : Read). reading 0 (fields_bytes r.telegram) r.telegram.originator (unwrap_or r.telegram.destination 0))
    c.in-Ok.ensures
    ∙ read_done a.bytes.now a.fields.now a.originator.now a.destination.now
    0 c.if-fields-ne-FIELDS_LENGTH.false is refl)
