-- `c_codec::build` meets its contract.
use mathlib.Core.Path.{◌∙◌, ap}
use Rattle.radio_telegram.specs.declared.fields.Telegram.{Telegram}
use Rattle.radio_telegram.specs.Output.{Result}
use Rattle.radio_telegram.specs.Fields.{build_of}
use Rattle.c_layout.specs.Lent.{settled}
use Rattle.c_codec.proofs.Calls.{build_other, build_done}
use Rattle.c_codec.proofs.build.Goals as goal

pub returns-then-fields-ne-FIELDS_LENGTH : goal.returns-then-fields-ne-FIELDS_LENGTH
returns-then-fields-ne-FIELDS_LENGTH c =
    let a = c.args in
    build_other a.fields.now a.length.now a.out.now c.if-fields-ne-FIELDS_LENGTH.true

pub returns : goal.returns
returns c =
    let a = c.args in
    let is = c.build.ensures ∙ ap (λ (x : Telegram). build_of x a.out.now) c.telegram_in.ensures in
    c.settle.ensures _ ∙ ap (λ (r : Result). settled r a.length.now) is
    ∙ build_done a.fields.now a.length.now a.out.now c.if-fields-ne-FIELDS_LENGTH.false
