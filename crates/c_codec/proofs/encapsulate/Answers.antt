-- `c_codec::encapsulate` meets its contract.
use mathlib.Core.Path.{◌∙◌, ap}
use mathlib.Core.List.{List}
use Prim.Native.Nat.{ℕ}
use Rattle.radio_telegram.specs.Addressing.{encapsulate_of}
use Rattle.radio_telegram.specs.Output.{Result}
use Rattle.c_layout.specs.Lent.{settled}
use Rattle.c_codec.proofs.encapsulate.Goals as goal

pub returns : goal.returns
returns c =
    let a = c.args in
    let is =
    c.encapsulate.ensures
    ∙ ap (λ (to : List ℕ). encapsulate_of a.bytes.now to a.out.now) c.id_bytes.ensures in
    c.settle.ensures _ ∙ ap (λ (r : Result). settled r a.length.now) is
