-- An archive that is added to a report in pieces: two arrays, in addition to the two of the report.
use Rattle.std.specs.Prelude.{ℕ, ◌≡◌, cond, not, List, [], ◌∷◌, ◌++◌, eqb, length, get_or}
use Rattle.archive_report_model.specs.Pieces.{Tally, Adding, adding, PieceAdded, piece_answer}
use Rattle.archive_report.specs.Lines.{lines_at}
use Rattle.archive_report.specs.Report.{lines_fed}
use Rattle.c_report.specs.Calls.{report_at}
use Rattle.c_pieces.specs.Scan.{scan_at, scan_numbers}

-- the first array: the four numbers of a scan, how many lines there are, KEPT rows, LOOSE rows, and a number that is
-- not 0 if there were more than 256 transmitters. The second array: five numbers for each line.
abbrev pub tally_at : List ℕ → List ℕ → Tally
tally_at numbers lines = record {
  lines = lines_at lines (get_or numbers 4 0);
  kept = get_or numbers 5 0;
  loose = get_or numbers 6 0;
  over = not (eqb (get_or numbers 7 0) 0);
  scan = scan_at numbers;
}

-- the numbers as they are written
abbrev pub tally_numbers : Tally → List ℕ
tally_numbers t =
    scan_numbers t.scan ++ (length t.lines ∷ t.kept ∷ t.loose ∷ cond t.over 1 0 ∷ [])

-- the same with the report, which is unchanged until the end
abbrev pub adding_at : List ℕ → List ℕ → List ℕ → List ℕ → Adding
adding_at numbers lines so_far tally = adding (report_at numbers lines) (tally_at so_far tally)

-- what a piece does with the two arrays
pub record Feeds (expected : PieceAdded) (numbers lines so_far tally : List ℕ) (number : ℕ)
    (so-far' tally' : List ℕ) : Type 0 where
  pub result : piece_answer number (adding_at numbers lines so-far' tally') ≡ expected
  -- if the number is not 0, every number of both arrays is unchanged
  pub numbers_stay : (number ≡ 0 → ⊥) → so-far' ≡ so_far
  pub lines_stay : (number ≡ 0 → ⊥) → tally' ≡ tally
  -- if it is 0, every number of both is known; after the lines comes what was there before
  pub numbers_are : number ≡ 0 → so-far' ≡ tally_numbers expected.next.tally
  pub lines_are : number ≡ 0 → tally' ≡ lines_fed expected tally
