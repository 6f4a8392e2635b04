-- The rows that an archive keeps for an input, by the reference model: the receptions that it answers KEPT or LOOSE
-- (document 01, "One history, and the clerk who writes it down"; document 02, A2).
use Rattle.std.specs.Prelude.{ℕ, List, [], ◌∷◌, Option, Some, None}
use Rattle.text_lines.specs.Reading.{setting_of}
use Rattle.text_program.specs.Lines.{lines_of}
use Rattle.archive_model.specs.Row.{Row}
use Rattle.journal_model.specs.Rows.{model_rows}

-- the rows of the lines after a first line `level N`; any other first line ends the run
abbrev pub archived_with : Option ℕ → List (List ℕ) → List Row
archived_with (Some n) ls = model_rows [] ls
archived_with None ls = []

-- the same, also if there is no first line
abbrev pub archived_for : List (List ℕ) → List Row
archived_for [] = []
archived_for (l ∷ ls) = archived_with (setting_of l) ls

-- the rows that are kept for an input
unfoldable pub archived_of : List ℕ → List Row
archived_of input = archived_for (lines_of input)
