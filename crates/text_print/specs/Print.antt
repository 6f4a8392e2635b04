-- The answer of `print`, and the output after it (document 01, "Numbers a caller sees").
use Rattle.std.specs.Prelude.{ℕ, cond, List, ltb, length}
use Rattle.base_refusal.specs.Number.{number_of}
use Rattle.base_refusal.specs.declared.Refusal.TheVariants.{ShortOutput}
use Rattle.radio_telegram.specs.Output.{Result, refused, written}
use Rattle.text_collect.specs.Printed.{printed_of}

-- what `collect` prints for the input, with its length; 6 if the output is shorter, which is then unchanged
unfoldable pub print_result : List ℕ → List ℕ → Result
print_result input out =
    let text = printed_of input in
    cond (ltb (length out) (length text)) (refused (number_of ShortOutput) out) (written text out)
