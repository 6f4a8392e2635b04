-- The contents of the lines that `collect` reads (document 01, "Cases").
use Rattle.std.specs.Prelude.{ℕ, suc, ◌+◌, cond, ◌&&◌, List, [], ◌∷◌, ltb, length, take, drop, replicate, Option, Some, None}
use Rattle.base_bytes.specs.Bytes.{index_of}
use Rattle.base_lists.specs.Lists.{equal, padded}
use Rattle.text_lines.specs.Ascii.{newline, space, digit0}
use Rattle.text_lines.specs.Decimal.{decimal_of, is_time}
use Rattle.text_lines.specs.Hex.{max_bytes, hex_bytes, is_hex}
use Rattle.text_lines.specs.declared.Line.{Line}

-- `level ` and a digit
abbrev pub level_line : ℕ → List ℕ
level_line n =
    let l : ℕ = 108 in
    let e : ℕ = 101 in
    let v : ℕ = 118 in
    l ∷ e ∷ v ∷ e ∷ l ∷ space ∷ (digit0 + n) ∷ []

-- the first line: level 0, 1 or 2; any other is BAD
unfoldable pub setting_of : List ℕ → Option ℕ
setting_of l =
    cond (equal l (level_line 0)) (Some 0)
    (cond (equal l (level_line 1)) (Some 1)
    (cond (equal l (level_line 2)) (Some 2)
    None))

-- the content of a later line
pub data Reading : Type 0 where
  reception : (time : ℕ) (bytes : List ℕ) → Reading
  bad : Reading

-- a later line: the time up to the first space, and the bytes after it; any other is BAD
unfoldable pub line_reading : List ℕ → Reading
line_reading l =
    let k = index_of space l in
    cond (ltb k (length l) && is_time (take k l) && is_hex (drop (suc k) l))
    (reception (decimal_of (take k l)) (hex_bytes (drop (suc k) l)))
    bad

-- a line of this length is always BAD: 20 digits, a space and 128 digits are 149 characters
abbrev pub line_limit : ℕ
line_limit = 150

-- the line at the start of a text: its length without the newline, and its content; or no newline ends it
pub data Front : Type 0 where
  ended : (n : ℕ) → Reading → Front
  unended : Front

-- the line up to the first newline
unfoldable pub front_of : List ℕ → Front
front_of text =
    let n = index_of newline text in
    cond (ltb n (length text)) (ended n (line_reading (take n text))) unended

-- the same for a line that is known to be BAD
unfoldable pub bad_front : List ℕ → Front
bad_front text =
    let n = index_of newline text in
    cond (ltb n (length text)) (ended n bad) unended

-- the result for a line: the time and the number of its bytes, and the number of its characters with the newline. A BAD
-- line has no time and no bytes; if no newline ends it, there is no line.
abbrev pub line_of : Front → Option Line
line_of (ended n (reception t bs)) = Some (record { heard = Some (record { time = t; len = length bs }); used = n + 1 })
line_of (ended n bad) = Some (record { heard = None; used = n + 1 })
line_of unended = None

-- the bytes that are written with it: those of the reception, zero filled to 64
abbrev pub bytes_in : Front → List ℕ
bytes_in (ended n (reception t bs)) = padded max_bytes bs
bytes_in (ended n bad) = replicate max_bytes 0
bytes_in unended = replicate max_bytes 0
