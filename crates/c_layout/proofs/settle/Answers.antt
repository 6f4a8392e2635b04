-- `c_layout::settle` meets its contract: each arm is what `result_of` says of it, and beside a refusal the length stays.
use Rattle.std.specs.Prelude.{Result as Answer}
use mathlib.Core.Path.{◌∙◌, ap, sym}
use mathlib.Core.List.{List}
use Prim.Native.Nat.{ℕ}
use Rattle.base_refusal.specs.Number.{number_of}
use Rattle.base_refusal.proofs.Numbers.{refused-number}
use Rattle.radio_telegram.specs.Output.{Result, result_of}
use Rattle.c_layout.specs.Lent.{settled}
use Rattle.c_layout.proofs.Lent.{done-not}
use Rattle.c_layout.proofs.settle.Goals as goal
use Rattle.base_refusal.specs.declared.Refusal.{Refusal}

abbrev answered : ℕ → ℕ → List ℕ → Result
answered number len output = record { number = number; len = len; output = output }

pub returns-in-Ok : goal.returns-in-Ok
returns-in-Ok c output =
    ap (λ (b : Answer ℕ Refusal). settled (result_of b output) c.args.length.now)
    (sym c.in-Ok.is)

pub returns-in-Err : goal.returns-in-Err
returns-in-Err c output =
    let why = c.in-Err.why in
    let old = c.args.length.now in
    ap (λ (n : ℕ). answered n old output) c.number.ensures
    ∙ ap (λ (n : ℕ). answered (number_of why) n output) (done-not (number_of why) 0 old (refused-number why))
    ∙ ap (λ (b : Answer ℕ Refusal). settled (result_of b output) old) (sym c.in-Err.is)
