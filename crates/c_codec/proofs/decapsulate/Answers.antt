-- `c_codec::decapsulate` meets its contract.
use mathlib.Core.Path.{◌∙◌, ap}
use Rattle.radio_telegram.specs.Output.{Result}
use Rattle.c_layout.specs.Lent.{settled}
use Rattle.c_codec.proofs.decapsulate.Goals as goal

pub returns : goal.returns
returns c =
    let a = c.args in
    c.settle.ensures _ ∙ ap (λ (r : Result). settled r a.length.now) c.decapsulate.ensures
