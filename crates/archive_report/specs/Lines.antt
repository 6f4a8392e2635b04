-- The lines of a report in one array of numbers (document 02, A12): how they are read from it.
use Rattle.std.specs.Prelude.{ℕ, ◌+◌, ◌*◌, List, [], ◌∷◌, ◌++◌, map, length, get_or, drop}
use Rattle.base_lists.specs.Lists.{up_from}
use Rattle.archive_report_model.specs.Report.{Line, max_lines}

-- five numbers for each line
abbrev pub line_length : ℕ
line_length = 5

-- the length of the array: 256 lines
abbrev pub lines_length : ℕ
lines_length = line_length * max_lines

-- line i of an array
abbrev pub line_at : List ℕ → ℕ → Line
line_at xs i = record {
  identity = get_or xs (line_length * i) 0;
  kept = get_or xs (line_length * i + 1) 0;
  loose = get_or xs (line_length * i + 2) 0;
  earliest = get_or xs (line_length * i + 3) 0;
  latest = get_or xs (line_length * i + 4) 0;
}

-- n lines from line a on
unfoldable pub lines_from : List ℕ → ℕ → ℕ → List Line
lines_from xs a n = map (line_at xs) (up_from a n)

-- the first n lines
abbrev pub lines_at : List ℕ → ℕ → List Line
lines_at xs n = lines_from xs 0 n

-- ---- and how they are written into it

-- identity, KEPT rows, LOOSE rows, earliest and latest time
abbrev pub line_numbers : Line → List ℕ
line_numbers a = a.identity ∷ a.kept ∷ a.loose ∷ a.earliest ∷ a.latest ∷ []

-- the numbers of several lines
unfoldable pub lines_numbers : List Line → List ℕ
lines_numbers [] = []
lines_numbers (a ∷ lines) = line_numbers a ++ lines_numbers lines

-- an array after lines are written at its front; the rest is unchanged
unfoldable pub with_lines : List Line → List ℕ → List ℕ
with_lines lines old = lines_numbers lines ++ drop (line_length * length lines) old
