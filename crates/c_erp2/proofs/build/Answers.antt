-- `c_erp2::build` meets its contract.
use mathlib.Core.Path.{◌∙◌, ap}
use Rattle.radio_erp2_model.specs.declared.Telegram.{Telegram}
use Rattle.radio_erp2_model.specs.Building.{build_of}
use Rattle.radio_telegram.specs.Output.{Result}
use Rattle.c_layout.specs.Lent.{settled}
use Rattle.c_erp2.proofs.Calls.{build_other, build_done}
use Rattle.c_erp2.proofs.build.Goals as goal

pub returns-then-fields-ne-FIELDS_LENGTH : goal.returns-then-fields-ne-FIELDS_LENGTH
returns-then-fields-ne-FIELDS_LENGTH c =
    let a = c.args in
    build_other a.fields.now a.originator a.destination a.length.now a.out.now c.if-fields-ne-FIELDS_LENGTH.true

pub returns : goal.returns
returns c =
    let a = c.args in
    let is = c.build.ensures ∙ ap (λ (x : Telegram). build_of x a.out.now) c.telegram_in.ensures in
    c.settle.ensures _ ∙ ap (λ (r : Result). settled r a.length.now) is
    ∙ build_done a.fields.now a.originator a.destination a.length.now a.out.now c.if-fields-ne-FIELDS_LENGTH.false
