-- Texts of whole lines, and how many they are: two fronts of one text that are whole lines, and as many, are equal.
--     newlines, isWhole     how many lines a text ends, and whether it ends with the end of one
--     ticks-count           `line_ticks` counts them, from any state on
--     fed-whole             what leads a program to the start of a line is whole lines
--     same-front            the two fronts
use Prim.Native.Nat.{ℕ, ◌+◌}
use native.Mathlib.Omega.{arith}
use mathlib.Core.Path.{◌≡◌, refl, sym, ap, ap₂, ◌∙◌}
use mathlib.Core.Bool.{Bool, true, false, cond, false≢true}
use mathlib.Core.List.{List, [], ◌∷◌, ◌++◌}
use lib.Dec.{eqb}
use lib.ListN.{length, get_or, take, drop, length-take, length-append}
use Rattle.text_lines.specs.Ascii.{newline}
use Rattle.text_lines.specs.Reading.{line_limit}
use Rattle.text_program.specs.Lines.{Program}
use Rattle.text_program.specs.Chunks.{Position, in_line, at_line_start, fed, feed, feed_text}
use Rattle.text_program.specs.Collect.{Phase}
use Rattle.text_program.specs.Buffer.{is_unended}
use Rattle.text_collect.specs.Session.{Receiver}
use Rattle.text_collect.specs.Rows.{line_ticks}

abbrev one : Bool → ℕ
one t = cond t 1 0

unfoldable pub newlines : List ℕ → ℕ
newlines [] = 0
newlines (c ∷ x) = one (eqb c newline) + newlines x

-- behind a start of a line, or not
unfoldable pub is_whole : Bool → List ℕ → Bool
is_whole b [] = b
is_whole b (c ∷ x) = is_whole (eqb c newline) x

-- ---- texts one after the other

pub newlines_append : (x y : List ℕ) → newlines (x ++ y) ≡ newlines x + newlines y
unfolding newlines
newlines_append [] y = omega arith
newlines_append (c ∷ x) y = omega (arith, newlines_append x y)

pub whole_append : (x y : List ℕ) (b : Bool) → is_whole b x ≡ true → is_whole true y ≡ true → is_whole b (x ++ y) ≡ true
unfolding is_whole
whole_append [] y b w v = rw w v
whole_append (c ∷ x) y b w v = whole_append x y (eqb c newline) w v

-- ---- what programs do with them

pub ticks-count : (x : List ℕ) (a : Position (Phase Receiver))
    → length (feed_text line_ticks line_limit a x) ≡ newlines x
unfolding feed_text newlines
ticks-count [] a = refl
ticks-count (c ∷ x) a =
    let b = fed line_ticks line_limit a c in
    go (eqb c newline) (feed_text line_ticks line_limit b x) (ticks-count x b)
  where
    go : (t : Bool) (l : List ℕ) → length l ≡ newlines x → length (cond t (0 ∷ []) [] ++ l) ≡ one t + newlines x
    go true l e = omega (arith, e)
    go false l e = omega (arith, e)

module _ {S : Type 0} (p : Program S) (s' : S) where
  fed-from : (x : List ℕ) (a : Position S) (b : Bool) → (length a.line ≡ 0 → b ≡ true)
      → feed p line_limit a x ≡ at_line_start s' → is_whole b x ≡ true
  unfolding feed is_whole
  fed-from [] a b start e = start (ap (λ (q : Position S). length q.line) e)
  fed-from (c ∷ x) a b start e = go (eqb c newline) (λ d t h f. fed-from x d t h f) e
    where
      go : (t : Bool)
          → ((d : Position S) (t : Bool) → (length d.line ≡ 0 → t ≡ true) → feed p line_limit d x ≡ at_line_start s'
          → is_whole t x ≡ true)
          → feed p line_limit
          (cond t (at_line_start (p.next a.state a.line))
          (in_line a.state (take line_limit (a.line ++ (c ∷ [])))))
          x ≡ at_line_start s'
          → is_whole t x ≡ true
      go true ih f = ih (at_line_start (p.next a.state a.line)) true (λ z. refl) f
      go false ih f =
          ih (in_line a.state (take line_limit (a.line ++ (c ∷ [])))) false
          (λ z.
          absurd
          (omega (arith, z, length-take line_limit (a.line ++ (c ∷ [])), length-append a.line (c ∷ []))))
          f

  pub fed_whole : (s : S) (x : List ℕ) → feed p line_limit (at_line_start s) x ≡ at_line_start s'
      → is_whole true x ≡ true
  fed_whole s x e = fed-from x (at_line_start s) true (λ z. refl) e

-- a text without a newline ends no line
pub open_none : (x : List ℕ) → is_unended x ≡ true → newlines x ≡ 0
unfolding is_unended newlines
open_none [] o = refl
open_none (c ∷ x) o = go (eqb c newline) o (open_none x)
  where
    go : (t : Bool) → cond t false (is_unended x) ≡ true → (is_unended x ≡ true → newlines x ≡ 0)
        → one t + newlines x ≡ 0
    go true o ih = absurd (false≢true o)
    go false o ih = omega (arith, ih o)

-- ---- two fronts of one text

-- behind a part of a line there is no whole line without a newline
no_line : (x : List ℕ) → is_whole false x ≡ true → newlines x ≡ 0 → ⊥
unfolding is_whole newlines
no_line [] w z = false≢true w
no_line (c ∷ x) w z = go (eqb c newline) w z (no_line x)
  where
    go : (t : Bool) → is_whole t x ≡ true → one t + newlines x ≡ 0 → (is_whole false x ≡ true → newlines x ≡ 0 → ⊥) → ⊥
    go true w z ih = omega arith
    go false w z ih = ih w (omega (arith, z))

some_line : (c : ℕ) (x : List ℕ) → is_whole (eqb c newline) x ≡ true → one (eqb c newline) + newlines x ≡ 0 → ⊥
some_line c x w z = go (eqb c newline) w z
  where
    go : (t : Bool) → is_whole t x ≡ true → one t + newlines x ≡ 0 → ⊥
    go true w z = omega arith
    go false w z = no_line x w (omega (arith, z))

pub same_front : (x y r s : List ℕ) (b : Bool) → x ++ r ≡ y ++ s → is_whole b x ≡ true → is_whole b y ≡ true
    → newlines x ≡ newlines y → x ≡ y
unfolding is_whole newlines
same_front [] [] r s b e w v n = refl
same_front [] (d ∷ y) r s b e w v n = absurd (some_line d y v (sym n))
same_front (c ∷ x) [] r s b e w v n = absurd (some_line c x w n)
same_front (c ∷ x) (d ∷ y) r s b e w v n =
    let h : c ≡ d = ap (λ (l : List ℕ). get_or l 0 0) e in
    let t : x ++ r ≡ y ++ s = ap (λ (l : List ℕ). drop 1 l) e in
    let u : is_whole (eqb c newline) y ≡ true = rw h v in
    let m : one (eqb c newline) + newlines x ≡ one (eqb c newline) + newlines y = n ∙ rw h in
    ap₂ ◌∷◌ h (same_front x y r s (eqb c newline) t w u (omega (arith, m)))
