-- Cutting the input into pieces changes nothing, and neither does keeping only the front of a long line.
use mathlib.Core.Path.{◌≡◌, refl, sym, ap, ◌∙◌}
use mathlib.Core.Bool.{Bool, true, false, cond}
use mathlib.Core.List.{List, [], ◌∷◌, ◌++◌, append_assoc, append-nil}
use Prim.Native.Nat.{ℕ, zero, suc}
use native.Mathlib.Omega.{arith}
use lib.Dec.{eqb}
use lib.ListN.{take}
use Rattle.text_lines.specs.Ascii.{newline}
use Rattle.text_program.specs.Lines.{prepend, lines_of, Program, state_after, text_of, output_of}
use Rattle.text_program.specs.Chunks.{Position, Bounded, at_line_start, fed, fed_text, feed, feed_text, feed_all, feed_all_text, last_text, end_text, joined, in_line}
use Rattle.text_program.specs.Claims.{InPieces}

-- ---- the lines of a text behind a part of a line

alone : List ℕ → List (List ℕ)
alone [] = []
alone (c ∷ r) = (c ∷ r) ∷ []

glued : List ℕ → List (List ℕ) → List (List ℕ)
glued r [] = alone r
glued r (l ∷ ls) = (r ++ l) ∷ ls

lines_from : List ℕ → List ℕ → List (List ℕ)
lines_from r [] = alone r
lines_from r (c ∷ s) = cond (eqb c newline) (r ∷ lines_from [] s) (lines_from (r ++ (c ∷ [])) s)

glued_none : (ls : List (List ℕ)) → glued [] ls ≡ ls
unfolding glued alone
glued_none [] = refl
glued_none (l ∷ ls) = refl

glued_prepend : (r : List ℕ) (c : ℕ) (ls : List (List ℕ)) → glued (r ++ (c ∷ [])) ls ≡ glued r (prepend c ls)
unfolding glued alone
glued_prepend [] c [] = refl
glued_prepend (x ∷ r) c [] = refl
glued_prepend r c (l ∷ ls) = rw (append_assoc r (c ∷ []) l)

lines-from : (s r : List ℕ) → lines_from r s ≡ glued r (lines_of s)
unfolding lines_from lines_of glued
lines-from [] r = refl
lines-from (c ∷ s) r =
    go (eqb c newline) (lines-from s [] ∙ glued_none (lines_of s))
    (lines-from s (r ++ (c ∷ [])) ∙ glued_prepend r c (lines_of s))
  where
    go : (t : Bool) → lines_from [] s ≡ lines_of s → lines_from (r ++ (c ∷ [])) s ≡ glued r (prepend c (lines_of s))
        → cond t (r ∷ lines_from [] s) (lines_from (r ++ (c ∷ [])) s)
        ≡ glued r (cond t ([] ∷ lines_of s) (prepend c (lines_of s)))
    go true e f = rw (e, append-nil r)
    go false e f = f

-- ---- the front of a line

pub front_more : (n : ℕ) (r : List ℕ) (c : ℕ) → take n (take n r ++ (c ∷ [])) ≡ take n (r ++ (c ∷ []))
front_more zero r c = refl
front_more (suc n) [] c = refl
front_more (suc n) (x ∷ r) c = ap (λ (l : List ℕ). x ∷ l) (front_more n r c)

-- ---- pieces

module _ {S : Type 0} (p : Program S) (limit : ℕ) where
  pub feed_append : (x y : List ℕ) (a : Position S) → feed p limit a (x ++ y) ≡ feed p limit (feed p limit a x) y
  unfolding feed
  feed_append [] y a = refl
  feed_append (c ∷ x) y a = feed_append x y (fed p limit a c)

  pub text_append : (x y : List ℕ) (a : Position S)
      → feed_text p limit a (x ++ y) ≡ feed_text p limit a x ++ feed_text p limit (feed p limit a x) y
  unfolding feed feed_text
  text_append [] y a = refl
  text_append (c ∷ x) y a =
      rw (text_append x y (fed p limit a c))
      (sym (append_assoc (fed_text p limit a c) (feed_text p limit (fed p limit a c) x)
      (feed_text p limit (feed p limit (fed p limit a c) x) y)))

  feed-joined : (xs : List (List ℕ)) (a : Position S) → feed_all p limit a xs ≡ feed p limit a (joined xs)
  unfolding feed_all joined feed
  feed-joined [] a = refl
  feed-joined (x ∷ xs) a = feed-joined xs (feed p limit a x) ∙ sym (feed_append x (joined xs) a)

  text-joined : (xs : List (List ℕ)) (a : Position S) → feed_all_text p limit a xs ≡ feed_text p limit a (joined xs)
  unfolding feed_all_text joined feed_text
  text-joined [] a = refl
  text-joined (x ∷ xs) a = rw (text-joined xs (feed p limit a x)) (sym (text_append x (joined xs) a))

-- ---- the front of each line is enough

module _ {S : Type 0} (p : Program S) (n : ℕ) (b : Bounded p (suc n)) where
  -- all that is written from a position on, and for lines
  from_position : Position S → List ℕ → List ℕ
  from_position a input = feed_text p (suc n) a input ++ end_text p (feed p (suc n) a input)

  for_lines : S → List (List ℕ) → List ℕ
  for_lines s ls = text_of p s ls ++ p.end (state_after p s ls)

  ends : (s : S) (r : List ℕ) → from_position (in_line s (take (suc n) r)) [] ≡ for_lines s (alone r)
  unfolding from_position for_lines feed feed_text last_text text_of state_after alone
  ends s [] = refl
  ends s (x ∷ r) = rw (b.next s (x ∷ r), b.text s (x ∷ r), append-nil (p.text s (x ∷ r)))

  position_next : (a : Position S) (c : ℕ) (input : List ℕ)
      → from_position a (c ∷ input) ≡ fed_text p (suc n) a c ++ from_position (fed p (suc n) a c) input
  unfolding from_position feed feed_text
  position_next a c input =
      let d = fed p (suc n) a c in
      append_assoc (fed_text p (suc n) a c) (feed_text p (suc n) d input) (end_text p (feed p (suc n) d input))

  lines_next : (s : S) (l : List ℕ) (ls : List (List ℕ))
      → for_lines s (l ∷ ls) ≡ p.text s l ++ for_lines (p.next s l) ls
  unfolding for_lines text_of state_after
  lines_next s l ls = append_assoc (p.text s l) (text_of p (p.next s l) ls) (p.end (state_after p (p.next s l) ls))

  whole : (input r : List ℕ) (s : S) → from_position (in_line s (take (suc n) r)) input
      ≡ for_lines s (lines_from r input)
  unfolding lines_from
  whole [] r s = ends s r
  whole (c ∷ input) r s =
      position_next (in_line s (take (suc n) r)) c input
      ∙ go (eqb c newline) (whole input [] (p.next s r)) (whole input (r ++ (c ∷ [])) s)
    where
      k : List ℕ
      k = take (suc n) r

      go : (t : Bool) → from_position (at_line_start (p.next s r)) input ≡ for_lines (p.next s r) (lines_from [] input)
          → from_position (in_line s (take (suc n) (r ++ (c ∷ [])))) input
          ≡ for_lines s (lines_from (r ++ (c ∷ [])) input)
          → cond t (p.text s k) []
          ++ from_position (cond t (at_line_start (p.next s k)) (in_line s (take (suc n) (k ++ (c ∷ []))))) input
          ≡ for_lines s (cond t (r ∷ lines_from [] input) (lines_from (r ++ (c ∷ [])) input))
      go true e f = rw (b.text s r, b.next s r, e) (sym (lines_next s r (lines_from [] input)))
      go false e f = rw (front_more (suc n) r c) f

  pub one_piece : (s : S) (input : List ℕ)
      → feed_text p (suc n) (at_line_start s) input ++ end_text p (feed p (suc n) (at_line_start s) input)
      ≡ output_of p s input
  unfolding output_of from_position for_lines
  one_piece s input = whole input [] s ∙ rw (lines-from input [], glued_none (lines_of input))

pub in_pieces : {S : Type 0} (p : Program S) (limit : ℕ) → InPieces p limit
in_pieces p zero h b s xs = absurd (omega arith)
in_pieces p (suc n) h b s xs =
    rw (text-joined p (suc n) xs (at_line_start s), feed-joined p (suc n) xs (at_line_start s))
    (one_piece p n b s (joined xs))
