-- A program that reads lines, and what it writes for a whole text.
use Rattle.std.specs.Prelude.{ℕ, cond, List, [], ◌∷◌, ◌++◌, eqb}
use Rattle.text_lines.specs.Ascii.{newline}

-- a character is put before the first line
abbrev pub prepend : ℕ → List (List ℕ) → List (List ℕ)
prepend c [] = (c ∷ []) ∷ []
prepend c (l ∷ ls) = (c ∷ l) ∷ ls

-- the lines of a text: a newline ends a line, and a last line without a newline counts; any other character, also a
-- carriage return, belongs to its line
unfoldable pub lines_of : List ℕ → List (List ℕ)
lines_of [] = []
lines_of (c ∷ s) = cond (eqb c newline) ([] ∷ lines_of s) (prepend c (lines_of s))

-- What a program does, in any state: the state after a line, what it writes for the line, and what it writes at the
-- end.
pub record Program (S : Type 0) : Type 0 where
  pub next : S → List ℕ → S
  pub text : S → List ℕ → List ℕ
  pub end : S → List ℕ

module _ {S : Type 0} (p : Program S) where
  -- the state after lines, and what was written for them
  unfoldable pub state_after : S → List (List ℕ) → S
  state_after s [] = s
  state_after s (l ∷ ls) = state_after (p.next s l) ls

  -- what is written for lines
  unfoldable pub text_of : S → List (List ℕ) → List ℕ
  text_of s [] = []
  text_of s (l ∷ ls) = p.text s l ++ text_of (p.next s l) ls

  -- all that it writes for a text
  unfoldable pub output_of : S → List ℕ → List ℕ
  output_of s input = text_of s (lines_of input) ++ p.end (state_after s (lines_of input))
