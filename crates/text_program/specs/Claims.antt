-- The claims on programs over lines whose input comes in pieces. proofs/Pieces.antt, proofs/Limit.antt and
-- proofs/Ended.antt prove them.
use Rattle.std.specs.Prelude.{◌≡◌, ℕ, ◌<◌, List, [], ◌++◌}
use Rattle.text_lines.specs.Reading.{line_limit}
use Rattle.text_program.specs.Lines.{Program, output_of}
use Rattle.text_program.specs.Chunks.{Bounded, in_line, at_line_start, feed, feed_text, feed_all, feed_all_text, end_text, joined}
use Rattle.text_program.specs.Collect.{AnyCollector, starting, over, collect, collected}

-- what is written for the pieces, and then at the end
abbrev pub pieces_text : {S : Type 0} → Program S → ℕ → S → List (List ℕ) → List ℕ
pieces_text p limit s xs = feed_all_text p limit (at_line_start s) xs ++ end_text p (feed_all p limit (at_line_start s) xs)

-- In pieces: if the front of each line decides, this is what the program writes for the whole text.
abbrev pub InPieces : {S : Type 0} → Program S → ℕ → Type 0
InPieces {S} p limit =
    0 < limit → Bounded p limit → (s : S) (xs : List (List ℕ))
    → pieces_text p limit s xs ≡ output_of p s (joined xs)

-- Collected in pieces: for `collect`, the first 150 characters decide. However the input is cut, the output is the
-- same.
abbrev pub CollectedInPieces : {C : Type 0} → AnyCollector C → Type 0
CollectedInPieces m = (xs : List (List ℕ)) → pieces_text (collect m) line_limit starting xs ≡ collected m (joined xs)

-- a run that a wrong first line has ended writes nothing more, for any further input, however it is cut. So reading may
-- stop there.
pub record Ended {C : Type 0} (m : AnyCollector C) (line input : List ℕ) : Type 0 where
  pub silent : feed_text (collect m) line_limit (in_line over line) input ≡ []
  pub no_end : end_text (collect m) (feed (collect m) line_limit (in_line over line) input) ≡ []

-- Stays ended: this holds for any input, also inside a line.
abbrev pub StaysEnded : {C : Type 0} → AnyCollector C → Type 0
StaysEnded m = (line input : List ℕ) → Ended m line input
