-- The claims on long lines. proofs/Long.antt proves them.
use Rattle.std.specs.Prelude.{◌≡◌, List, ℕ, ◌≤◌, length, take, None}
use Rattle.text_lines.specs.Reading.{bad, setting_of, line_reading, line_limit}

-- a line of 150 characters or more is BAD, as the first line and as a later line
pub record SaysNothing (l : List ℕ) : Type 0 where
  pub reading : line_reading l ≡ bad
  pub setting : setting_of l ≡ None

-- Long lines: this holds for every line of 150 characters or more.
abbrev pub LongLines : Type 0
LongLines = (l : List ℕ) → line_limit ≤ length l → SaysNothing l

-- the first 150 characters of a line decide what it says
pub record ToldByFront (l : List ℕ) : Type 0 where
  pub reading : line_reading (take line_limit l) ≡ line_reading l
  pub setting : setting_of (take line_limit l) ≡ setting_of l

-- Fronts tell: this holds for every line.
abbrev pub FrontsTell : Type 0
FrontsTell = (l : List ℕ) → ToldByFront l
