-- What a call answers that takes lines and writes their rows in a format, with the telegrams that they close, and what
-- it writes into lent memory.
use Rattle.std.specs.Prelude.{ℕ, ◌≡◌, cond, not, ◌||◌, List, eqb, ltb, length, get_or}
use Rattle.base_refusal.specs.Number.{number_of}
use Rattle.base_refusal.specs.declared.Refusal.TheVariants.{NotAccepted, Argument}
use Rattle.collector_model.specs.Acceptable.{acceptable}
use Rattle.text_rows.specs.declared.formats.Format.{Format}
use Rattle.c_layout.specs.Frame.{wrong_size}
use Rattle.c_collector.specs.State.{Arrays, columns_at, state_at}
use Rattle.text_collect.specs.Session.{running_at}
use Rattle.text_collect.specs.Heard.{HeardIn}
use Rattle.c_lines.specs.Calls.{are_rows_sized}

-- a format by its number: 0 text, 1 comma-separated, 2 JSON
abbrev pub format_of : ℕ → Format
format_of n = cond (eqb n 0) Format.Text (cond (eqb n 1) Format.Csv Format.Json)

-- 11 first, then 255 for a wrong size, then 10 for a setting or a format over 2; 0 if none of these fits
abbrev pub lines_as_number : Arrays → (setting format : ℕ) → List ℕ → List ℕ → ℕ
lines_as_number s setting format moments rows =
    cond (not (acceptable (state_at s))) (number_of NotAccepted)
    (cond (not (are_rows_sized (length moments) (length rows))) wrong_size
    (cond (ltb 2 setting || ltb 2 format) (number_of Argument)
    0))

-- a call of `lines_as`: the arrays, and the five other lent outputs, before and after it. `done` has the numbers of
-- characters used, of characters written, of rows, of lines and of closings.
pub record LinesAs (s : Arrays) (setting format : ℕ) (input : List ℕ) (most : ℕ) (out moments rows closed done : List ℕ)
    (number : ℕ) (s' : Arrays) (out' moments' rows' closed' done' : List ℕ) : Type 0 where
  pub answer : number ≡ lines_as_number s setting format moments rows
  pub taken : number ≡ 0
      → HeardIn (format_of format) (running_at setting (state_at s)) (columns_at s) input most out moments rows closed
      out' moments' rows' closed' (running_at setting (state_at s')) (columns_at s')
      (get_or done' 0 0) (get_or done' 1 0) (get_or done' 2 0) (get_or done' 3 0) (get_or done' 4 0)
  -- if the number is not 0, everything is unchanged
  pub stays : (number ≡ 0 → ⊥)
      → (s' ≡ s) × (out' ≡ out) × (moments' ≡ moments) × (rows' ≡ rows) × (closed' ≡ closed) × (done' ≡ done)
