-- A report in two arrays of numbers, and what the calls write into them.
use Rattle.std.specs.Prelude.{ℕ, ◌≡◌, List, [], ◌∷◌, length, get_or, replicate, Result}
use Rattle.std.specs.Result.{result_unwrap_or}
use Rattle.archive_file.specs.declared.ArchiveError.{ArchiveError}
use Rattle.archive_report_model.specs.Report as model
use Rattle.archive_report.specs.Lines.{lines_length, lines_at, line_numbers}
use Rattle.archive_report.specs.declared.Report.{Report}
use Rattle.archive_report.specs.Report.{report_of, added_result, lines_added}
use Rattle.c_layout.specs.Lent.{if_done, if_mismatch}

-- archives added, lines, KEPT rows and LOOSE rows; and five numbers for each line
abbrev pub report_at : List ℕ → List ℕ → model.Report
report_at numbers lines = record {
  archives = get_or numbers 0 0;
  lines = lines_at lines (get_or numbers 1 0);
  kept = get_or numbers 2 0;
  loose = get_or numbers 3 0;
}

-- the numbers of a report
abbrev pub report_numbers : model.Report → List ℕ
report_numbers s = s.archives ∷ length s.lines ∷ s.kept ∷ s.loose ∷ []

-- the lines of a report without archives: 1,280 zeros
abbrev pub empty_lines : List ℕ
empty_lines = replicate lines_length 0

-- the array of lines after an archive: the lines, and after them what was there before
abbrev pub lines_with : model.Addition → List ℕ → List ℕ
lines_with a old = lines_added a old

-- what a call that adds to a report does with its two arrays; `done` is the array of lines if the call is not refused
pub record Adds (expected : model.Addition) (done numbers lines : List ℕ) (position number position' : ℕ)
    (numbers' lines' : List ℕ) : Type 0 where
  pub told : number ≡ expected.number
  -- the position goes with 12 only
  pub place : position' ≡ if_mismatch expected.number expected.position position
  pub next : report_at numbers' lines' ≡ expected.next
  -- if the number is not 0, every number of both arrays is unchanged
  pub numbers_stay : (number ≡ 0 → ⊥) → numbers' ≡ numbers
  pub lines_stay : (number ≡ 0 → ⊥) → lines' ≡ lines
  -- if it is 0, every number of both is known
  pub numbers_are : number ≡ 0 → numbers' ≡ report_numbers expected.next
  pub lines_are : number ≡ 0 → lines' ≡ done

-- what is done with an answer: a report is stored; with a refusal both arrays are unchanged
abbrev pub SettlesReport : Result Report ArchiveError → List ℕ → List ℕ → ℕ → ℕ → ℕ → List ℕ → List ℕ → Type 0
SettlesReport answer numbers lines position number position' numbers' lines' =
    (old : Report) → report_of old ≡ report_at numbers lines
    → Adds (added_result old answer) (result_unwrap_or answer old).lines numbers lines position number position' numbers'
    lines'

-- the number, and every number of the lent line after the call
pub record LineCall : Type 0 where
  pub number : ℕ
  pub values : List ℕ

abbrev pub answered_line : model.LineAnswer → List ℕ → LineCall
answered_line a old = record { number = a.number; values = if_done a.number (line_numbers a.line) old }

-- line i of a report in lent memory
abbrev pub line_call : model.Report → ℕ → List ℕ → LineCall
line_call r i old = answered_line (model.line_of_report r i) old

-- the number, and the share after the call
abbrev pub share_call : model.Share → ℕ → model.Share
share_call a old = record { number = a.number; thousandths = if_done a.number a.thousandths old }
