-- What a call writes into lent memory. After a refusal it is unchanged, except for a position if the paper says that it
-- goes with the refusal (document 01).
use Rattle.std.specs.Prelude.{ℕ, cond, eqb}
use Rattle.base_refusal.specs.Number.{number_of}
use Rattle.base_refusal.specs.declared.Refusal.TheVariants.{Mismatch}
use Rattle.radio_telegram.specs.Output.{Result}

-- what a call returns if it is done; with any other number lent memory is unchanged
abbrev pub if_done : {A : Type 0} → ℕ → A → A → A
if_done number given old = cond (eqb number 0) given old

-- "12 with the position" (document 02, A2): with any other number, also with 0, the position is unchanged
abbrev pub if_mismatch : ℕ → ℕ → ℕ → ℕ
if_mismatch number position old = cond (eqb number (number_of Mismatch)) position old

-- a telegram that is written into an output, and its length
abbrev pub settled : Result → ℕ → Result
settled r old = record { number = r.number; len = if_done r.number r.len old; output = r.output }
