-- The results of the calls, as the model names them.
use Rattle.std.specs.Prelude.{ℕ, List, Result, Ok, Err, ⊤}
use Rattle.archive_model.specs.Append.{Verdict, Appended}
use Rattle.base_refusal.specs.Number.{number_of}
use Rattle.archive_fill.specs.declared.FillError.{FillError}

abbrev pub verdict_of : Result ⊤ FillError → Verdict
verdict_of (Ok tt) = record { number = 0; position = 0 }
verdict_of (Err e) = record { number = number_of e.why; position = e.position }

abbrev pub put_rows_result : Result ⊤ FillError → List ℕ → Appended
put_rows_result (Ok tt) after = record { number = 0; position = 0; buffer = after }
put_rows_result (Err e) after = record { number = number_of e.why; position = e.position; buffer = after }
