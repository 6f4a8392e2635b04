-- `c_codec::read` meets its contract: beside a refusal nothing is written, and DATA that is read fits a byte's length.
use Rattle.std.proofs.Common.{◌∙◌, [], ap, sym, refl, arith}
use Rattle.radio_telegram.specs.Fields.{Read, read_of}
use Rattle.c_codec.specs.Fields.{fields_bytes}
use Rattle.base_refusal.proofs.Numbers.{refused-number}
use Rattle.c_codec.proofs.Calls.{read_other, read_done, read_len, answered-not, answered_is}
use Rattle.c_codec.proofs.read.Goals as goal

pub returns-then-fields-ne-FIELDS_LENGTH : goal.returns-then-fields-ne-FIELDS_LENGTH
returns-then-fields-ne-FIELDS_LENGTH c =
    read_other c.args.bytes.now c.args.fields.now c.if-fields-ne-FIELDS_LENGTH.true

pub put_fields-requires : goal.put_fields-requires
put_fields-requires c =
    let e = ap (λ (r : Read). r.telegram.len) c.in-Ok.ensures in
    (c.if-fields-ne-FIELDS_LENGTH.false, omega (arith, read_len c.args.bytes.now, e))

pub returns-in-Ok : goal.returns-in-Ok
returns-in-Ok c =
    let a = c.args in
    let told = read_of a.bytes.now in
    answered_is 0 told.number c.put_fields.new.out (fields_bytes told.telegram) a.fields.now
    (ap (λ (r : Read). r.number) c.in-Ok.ensures) refl
    (c.put_fields.ensures ∙ ap (λ (r : Read). fields_bytes r.telegram) c.in-Ok.ensures)
    ∙ read_done a.bytes.now a.fields.now c.if-fields-ne-FIELDS_LENGTH.false

pub returns-in-Err : goal.returns-in-Err
returns-in-Err c =
    let a = c.args in
    let told = read_of a.bytes.now in
    answered-not c.number.result told.number [] (fields_bytes told.telegram) a.fields.now
    (c.number.ensures ∙ ap (λ (r : Read). r.number) c.in-Err.ensures)
    (λ z. refused-number c.in-Err.unread (sym c.number.ensures ∙ z))
    ∙ read_done a.bytes.now a.fields.now c.if-fields-ne-FIELDS_LENGTH.false
