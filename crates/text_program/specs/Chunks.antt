-- The same program on a text in pieces. Between pieces, the part of a line that has not ended is kept.
use Rattle.std.specs.Prelude.{◌≡◌, ℕ, cond, List, [], ◌∷◌, ◌++◌, eqb, take}
use Rattle.text_lines.specs.Ascii.{newline}
use Rattle.text_program.specs.Lines.{Program}

-- the position of a run: its state, and what is kept of the line that has not ended
pub record Position (S : Type 0) : Type 0 where
  pub state : S
  pub line : List ℕ

-- for the program, the first `limit` characters of a line decide
pub record Bounded {S : Type 0} (p : Program S) (limit : ℕ) : Type 0 where
  pub next : (s : S) (l : List ℕ) → p.next s (take limit l) ≡ p.next s l
  pub text : (s : S) (l : List ℕ) → p.text s (take limit l) ≡ p.text s l

-- a position with a part of a line; and at the start of a line
abbrev pub in_line : {S : Type 0} → S → List ℕ → Position S
in_line s l = record { state = s; line = l }

abbrev pub at_line_start : {S : Type 0} → S → Position S
at_line_start s = in_line s []

module _ {S : Type 0} (p : Program S) (limit : ℕ) where
  -- the position after one character: a newline ends the line; any other is kept, up to `limit` characters of a line
  abbrev pub fed : Position S → ℕ → Position S
  fed a c =
      cond (eqb c newline) (at_line_start (p.next a.state a.line))
      (in_line a.state (take limit (a.line ++ (c ∷ []))))

  -- what is written for one character: the text of the line if it ends
  abbrev pub fed_text : Position S → ℕ → List ℕ
  fed_text a c = cond (eqb c newline) (p.text a.state a.line) []

  -- the position after a piece of text
  unfoldable pub feed : Position S → List ℕ → Position S
  feed a [] = a
  feed a (c ∷ s) = feed (fed a c) s

  -- what is written for a piece of text
  unfoldable pub feed_text : Position S → List ℕ → List ℕ
  feed_text a [] = []
  feed_text a (c ∷ s) = fed_text a c ++ feed_text (fed a c) s

  -- the position after several pieces
  unfoldable pub feed_all : Position S → List (List ℕ) → Position S
  feed_all a [] = a
  feed_all a (x ∷ xs) = feed_all (feed a x) xs

  -- what is written for several pieces
  unfoldable pub feed_all_text : Position S → List (List ℕ) → List ℕ
  feed_all_text a [] = []
  feed_all_text a (x ∷ xs) = feed_text a x ++ feed_all_text (feed a x) xs

-- what is written at the end: first the text of a last line without a newline, if there is one
unfoldable pub last_text : {S : Type 0} → Program S → S → List ℕ → List ℕ
last_text p s [] = p.end s
last_text p s (c ∷ l) = p.text s (c ∷ l) ++ p.end (p.next s (c ∷ l))

-- what is written at the end, from a position
abbrev pub end_text : {S : Type 0} → Program S → Position S → List ℕ
end_text p a = last_text p a.state a.line

-- pieces as one text
unfoldable pub joined : List (List ℕ) → List ℕ
joined [] = []
joined (x ∷ xs) = x ++ joined xs
