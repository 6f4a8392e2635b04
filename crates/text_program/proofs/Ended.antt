-- A run that is over writes nothing more: each character leaves it over.
use mathlib.Core.Path.{◌≡◌, refl}
use mathlib.Core.Bool.{Bool, true, false, cond}
use mathlib.Core.List.{List, [], ◌∷◌, ◌++◌}
use Prim.Native.Nat.{ℕ}
use lib.Dec.{eqb}
use lib.ListN.{take}
use Rattle.text_lines.specs.Ascii.{newline}
use Rattle.text_lines.specs.Reading.{line_limit}
use Rattle.text_program.specs.Chunks.{in_line, at_line_start, feed, feed_text, last_text, end_text}
use Rattle.text_program.specs.Collect.{AnyCollector, over, collect}
use Rattle.text_program.specs.Claims.{StaysEnded}

module _ {C : Type 0} (m : AnyCollector C) where
  over_silent : (x l : List ℕ) → feed_text (collect m) line_limit (in_line over l) x ≡ []
  unfolding feed_text
  over_silent [] l = refl
  over_silent (c ∷ x) l = go (eqb c newline) (over_silent x []) (over_silent x (take line_limit (l ++ (c ∷ []))))
    where
      go : (t : Bool) → feed_text (collect m) line_limit (at_line_start over) x ≡ []
          → feed_text (collect m) line_limit (in_line over (take line_limit (l ++ (c ∷ [])))) x ≡ []
          → cond t [] []
          ++ feed_text (collect m) line_limit
          (cond t (at_line_start over) (in_line over (take line_limit (l ++ (c ∷ []))))) x
          ≡ []
      go true e f = e
      go false e f = f

  last_silent : (l : List ℕ) → last_text (collect m) over l ≡ []
  unfolding last_text
  last_silent [] = refl
  last_silent (c ∷ l) = refl

  over_ends : (x l : List ℕ) → end_text (collect m) (feed (collect m) line_limit (in_line over l) x) ≡ []
  unfolding feed
  over_ends [] l = last_silent l
  over_ends (c ∷ x) l = go (eqb c newline) (over_ends x []) (over_ends x (take line_limit (l ++ (c ∷ []))))
    where
      go : (t : Bool) → end_text (collect m) (feed (collect m) line_limit (at_line_start over) x) ≡ []
          → end_text (collect m) (feed (collect m) line_limit (in_line over (take line_limit (l ++ (c ∷ [])))) x) ≡ []
          → end_text (collect m)
          (feed (collect m) line_limit (cond t (at_line_start over) (in_line over (take line_limit (l ++ (c ∷ []))))) x)
          ≡ []
      go true e f = e
      go false e f = f

pub stays-ended : {C : Type 0} (m : AnyCollector C) → StaysEnded m
stays-ended m line input = record { silent = over_silent m input line; no_end = over_ends m input line }
