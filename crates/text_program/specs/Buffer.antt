-- What a program does with its buffers: it takes whole lines from one, writes into another, and keeps a line that has
-- not ended.
use Rattle.std.specs.Prelude.{◌≡◌, Bool, true, false, cond, ◌&&◌, List, [], ◌∷◌, ℕ, ◌-◌, eqb, leb, length, take, drop}
use Rattle.std.proofs.lemmas.List.Edits.{sets}
use Rattle.text_lines.specs.Ascii.{newline}
use Rattle.text_lines.specs.Reading.{line_limit}
use Rattle.base_buffers.specs.Printed.{Printed}
use Rattle.text_program.specs.Lines.{Program}
use Rattle.text_program.specs.Chunks.{at_line_start, feed, feed_text}

-- a text has no newline
unfoldable pub is_unended : List ℕ → Bool
is_unended [] = true
is_unended (c ∷ l) = cond (eqb c newline) false (is_unended l)

-- A text of whole lines was taken, from the start of a line in state s: s' is the state after it, and the front of the
-- output has what the text gives, `count` characters.
pub record Fed {S : Type 0} (p : Program S) (s : S) (text out : List ℕ) (s' : S) (out' : List ℕ) (count : ℕ)
    : Type 0 where
  pub state : feed p line_limit (at_line_start s) text ≡ at_line_start s'
  pub output : Printed out 0 (feed_text p line_limit (at_line_start s) text) (length out) out' count

-- the first 150 characters of the part from `from` to `end`, if the buffer has such a part
unfoldable pub kept_line : List ℕ → ℕ → ℕ → List ℕ
kept_line buffer from end =
    cond (leb end (length buffer) && leb from end) (take line_limit (take (end - from) (drop from buffer))) []

-- this line is now at the front, all else is unchanged, and r is its length
pub record Carried (buffer : List ℕ) (from end : ℕ) (buffer' : List ℕ) (r : ℕ) : Type 0 where
  pub bytes : buffer' ≡ sets buffer 0 (kept_line buffer from end)
  pub count : r ≡ length (kept_line buffer from end)
