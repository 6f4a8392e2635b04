-- New rows, compared with the leftovers at the positions where they go.
use Rattle.std.specs.Prelude.{ℕ, ◌*◌, cond, not, ◌&&◌, List, eqb, length, Result, Ok, Err}
use Rattle.base_refusal.specs.Number.{number_of}
use Rattle.base_refusal.specs.declared.Refusal.{Refusal}
use Rattle.base_refusal.specs.declared.Refusal.TheVariants.{Size}
use Rattle.archive_model.specs.Row.{Row}
use Rattle.archive_fill.specs.Fill.{row_length, rows_given}
use Rattle.journal_model.specs.Disk as disk
use Rattle.journal_calls.specs.declared.rows.Comparison.{Comparison}

-- the number, and both lent numbers after the call
pub record Compared : Type 0 where
  pub number : ℕ
  pub agreed : ℕ
  pub going : ℕ

-- an answer, where both numbers were lent: with a refusal they are unchanged
abbrev pub compared_of : Result Comparison Refusal → ℕ → ℕ → Compared
compared_of (Ok c) agreed going = record { number = 0; agreed = c.agreed; going = c.going }
compared_of (Err why) agreed going = record { number = number_of why; agreed = agreed; going = going }

-- how many rows agree, and how many of the leftovers must be put aside
abbrev pub compared_rows : List Row → List Row → Compared
compared_rows new left = record {
  number = 0;
  agreed = disk.agreeing new left;
  going = length (disk.going new left);
}

-- 16 if the records are not 23 bytes for each time
unfoldable pub compare_call : List ℕ → List ℕ → List ℕ → List ℕ → ℕ → ℕ → Compared
compare_call times records left_times left_records agreed going =
    cond (not (eqb (length records) (row_length * length times) && eqb (length left_records)
    (row_length * length left_times)))
    (record { number = number_of Size; agreed = agreed; going = going })
    (compared_rows (rows_given times records) (rows_given left_times left_records))
