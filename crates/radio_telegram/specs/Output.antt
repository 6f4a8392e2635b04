-- The answer of a call that writes a subtelegram into a lent output, and the output after it (document 01, "Numbers a
-- caller sees").
use Rattle.std.specs.Prelude.{ℕ, cond, List, ◌++◌, ltb, length, take, drop, Result as Answer, Ok, Err}
use Rattle.base_refusal.specs.Number.{number_of}
use Rattle.base_refusal.specs.declared.Refusal.TheVariants.{TooLong, ShortOutput}
use Rattle.radio_erp1.specs.Subtelegram.{max_length}
use Rattle.base_refusal.specs.declared.Refusal.{Refusal}

-- the number, the length written, and every byte of the output after the call
pub record Result : Type 0 where
  pub number : ℕ
  pub len : ℕ
  pub output : List ℕ

-- the result of an answer; with a refusal the length is 0
abbrev pub result_of : Answer ℕ Refusal → List ℕ → Result
result_of (Ok n) output = record { number = 0; len = n; output = output }
result_of (Err why) output = record { number = number_of why; len = 0; output = output }

-- a refusal: the output is unchanged
abbrev pub refused : ℕ → List ℕ → Result
refused n output = record { number = n; len = 0; output = output }

-- "bytes of an output past the result are untouched"
abbrev pub written : List ℕ → List ℕ → Result
written xs output = record { number = 0; len = length xs; output = xs ++ drop (length xs) output }

-- a subtelegram is put into an output: 5 if it has more than 21 bytes, 6 if the output is shorter
unfoldable pub put_of : List ℕ → List ℕ → Result
put_of xs output =
    cond (ltb max_length (length xs)) (refused (number_of TooLong) output)
    (cond (ltb (length output) (length xs)) (refused (number_of ShortOutput) output)
    (written xs output))

-- the bytes that were written
abbrev pub result_bytes : Result → List ℕ
result_bytes r = take r.len r.output
