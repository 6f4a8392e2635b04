-- How a text is written into a buffer from a position on, if it fits.
use Rattle.std.specs.Prelude.{◌≡◌, cond, List, [], ℕ, ◌+◌, ◌≤◌, leb, length}
use Rattle.std.proofs.lemmas.List.Edits.{sets}

-- the text, of at most `most` characters, is in the buffer from `at` on; all else is unchanged; r is the position after
-- it
pub record Printed (out : List ℕ) (at : ℕ) (text : List ℕ) (most : ℕ) (out' : List ℕ) (r : ℕ) : Type 0 where
  pub bytes : out' ≡ sets out at text
  pub next : r ≡ at + length text
  pub short : r ≤ at + most

-- the same, if the longest text of its kind fits from `at` on; else the buffer is unchanged and r is `at`
abbrev pub PrintedIfFits : (out : List ℕ) (at longest : ℕ) (text out' : List ℕ) (r : ℕ) → Type 0
PrintedIfFits out at longest text out' r =
    Printed out at (cond (leb (at + longest) (length out)) text []) longest out' r
