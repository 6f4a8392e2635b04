-- What the calls answer that take lines, read the first line, read one line or skip lines, and what they write into
-- lent memory.
use Rattle.std.specs.Prelude.{ℕ, ◌+◌, ◌*◌, ◌≤◌, ◌<◌, ◌≡◌, Bool, true, cond, not, List, [], ◌∷◌, eqb, ltb, length, get_or, take, drop, Option, Some, None}
use Rattle.base_bytes.specs.Bytes.{index_of}
use Rattle.base_refusal.specs.Number.{number_of}
use Rattle.base_refusal.specs.declared.Refusal.TheVariants.{NotAccepted, Argument}
use Rattle.collector_model.specs.Acceptable.{acceptable}
use Rattle.c_layout.specs.Frame.{wrong_size}
use Rattle.c_collector.specs.State.{Arrays, columns_at, state_at}
use Rattle.text_lines.specs.Ascii.{newline}
use Rattle.text_lines.specs.declared.Heard.{Heard}
use Rattle.text_lines.specs.declared.Line.{Line}
use Rattle.text_lines.specs.Reading.{setting_of, line_limit, front_of, line_of, bytes_in}
use Rattle.text_program.specs.Chunks.{at_line_start, feed, feed_text}
use Rattle.text_program.specs.Collect.{over}
use Rattle.text_program.specs.Buffer.{is_unended}
use Rattle.text_collect.specs.Rows.{line_ticks}
use Rattle.text_collect.specs.Session.{running_at}
use Rattle.text_collect.specs.Stored.{StoredTo}

-- a record of 23 bytes for each time
abbrev pub are_rows_sized : ℕ → ℕ → Bool
are_rows_sized moments rows = eqb rows (23 * moments)

-- 11 first, then 255 for a wrong size, then 10 for a setting over 2; 0 if none of these fits
abbrev pub lines_number : Arrays → ℕ → List ℕ → List ℕ → ℕ
lines_number s setting moments rows =
    cond (not (acceptable (state_at s))) (number_of NotAccepted)
    (cond (not (are_rows_sized (length moments) (length rows))) wrong_size
    (cond (ltb 2 setting) (number_of Argument)
    0))

-- a call of `lines`: the arrays, and the four other lent outputs, before and after it. `done` has the numbers of
-- characters used, of characters written, of rows and of lines.
pub record Lines (s : Arrays) (setting : ℕ) (input : List ℕ) (most : ℕ) (out moments rows done : List ℕ) (number : ℕ) (s' : Arrays)
    (out' moments' rows' done' : List ℕ) : Type 0 where
  pub answer : number ≡ lines_number s setting moments rows
  pub taken : number ≡ 0
      → StoredTo (running_at setting (state_at s)) (columns_at s) input most out moments rows out' moments' rows'
      (running_at setting (state_at s')) (columns_at s')
      (get_or done' 0 0) (get_or done' 1 0) (get_or done' 2 0) (get_or done' 3 0)
  -- if the number is not 0, everything is unchanged
  pub stays : (number ≡ 0 → ⊥) → (s' ≡ s) × (out' ≡ out) × (moments' ≡ moments) × (rows' ≡ rows) × (done' ≡ done)

-- ---- the first line

-- the level, or 3 for a line that says no level
abbrev pub level_number : Option ℕ → ℕ
level_number (Some n) = n
level_number None = 3

-- the level of the line up to the first newline, or 4 if there is no newline
abbrev pub first_number : List ℕ → ℕ
first_number input =
    let n = index_of newline input in
    cond (ltb n (length input)) (level_number (setting_of (take n input))) 4

-- how many characters that line has, with its newline
abbrev pub first_used : List ℕ → ℕ
first_used input =
    let n = index_of newline input in
    cond (ltb n (length input)) (n + 1) 0

-- ---- a single line

-- 0 for a reception, 3 for any other line
abbrev pub heard_number : Option Heard → ℕ
heard_number (Some h) = 0
heard_number None = 3

-- the same, or 4 if no newline ends the line
abbrev pub line_number : Option Line → ℕ
line_number (Some l) = heard_number l.heard
line_number None = 4

-- the time and the length of a reception, else zeros
abbrev pub heard_values : Option Heard → ℕ → List ℕ
heard_values (Some h) used = h.time ∷ h.len ∷ used ∷ []
heard_values None used = 0 ∷ 0 ∷ used ∷ []

-- the same with the characters of the line, or zeros if no newline ends it
abbrev pub line_values : Option Line → List ℕ
line_values (Some l) = heard_values l.heard l.used
line_values None = 0 ∷ 0 ∷ 0 ∷ []

-- what the line at the start of a text says (`line_of`). Its bytes are filled with zeros. `done` has the time, the
-- length, and how many characters the line has with its newline.
pub record ReadLine (input : List ℕ) (number : ℕ) (bytes' done' : List ℕ) : Type 0 where
  pub answer : number ≡ line_number (line_of (front_of input))
  pub written : bytes' ≡ bytes_in (front_of input)
  pub told : done' ≡ line_values (line_of (front_of input))

-- ---- lines that are skipped

-- the first `used` characters are whole lines: `lines` of them, at most `most`. If there are fewer than `most`, no
-- further line has ended. The lines are counted as in a run that is over, because no line changes such a run.
pub record SkippedTo (input : List ℕ) (most used lines : ℕ) : Type 0 where
  pub within : used ≤ length input
  pub whole : feed line_ticks line_limit (at_line_start over) (take used input) ≡ at_line_start over
  pub ticks : lines ≡ length (feed_text line_ticks line_limit (at_line_start over) (take used input))
  pub few : lines ≤ most
  pub rest : lines < most → is_unended (drop used input) ≡ true

-- `done` has `used` and `lines`, and nothing else
pub record Skipped (input : List ℕ) (most : ℕ) (done' : List ℕ) : Type 0 where
  pub long : length done' ≡ 2
  pub skipped : SkippedTo input most (get_or done' 0 0) (get_or done' 1 0)
