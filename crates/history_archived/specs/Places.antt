-- The claims on the lines that calls of `lines` or `lines_as` took: `skip_lines` skips the same lines, and `read_line`
-- reads the same lines. proofs/Places.antt proves them. Of the code, the proofs use only the contracts of the calls.
use Rattle.std.specs.Prelude.{ℕ, ◌+◌, ◌-◌, ◌≤◌, ◌<◌, ◌≡◌, true, cond, List, [], ◌∷◌, ◌++◌, map, eqb, length, get_or, take, drop}
use Rattle.text_lines.specs.Reading.{Reading, reception, bad, line_reading}
use Rattle.text_program.specs.Lines.{lines_of}
use Rattle.text_program.specs.Chunks.{joined}
use Rattle.text_program.specs.Buffer.{is_unended}
use Rattle.text_collect.specs.Session.{longest_line}
use Rattle.text_collect.specs.Formats.{longest_line_in}
use Rattle.text_collect.specs.Heard.{has_room}
use Rattle.c_collector.specs.State.{Arrays, state_at}
use Rattle.c_lines.specs.Calls.{ReadLine, Skipped}
use Rattle.history_archived.specs.Runs.{LinesCall, lines_by, TakesLines, TakesAs, OfBoth, GoesOn, IsRun, used_in, lines_in}

-- ---- the position in a log

-- a text that was read from a position of the log on
abbrev pub IsFrom : (log : List ℕ) (place : ℕ) (text : List ℕ) → Type 0
IsFrom log place text = text ≡ take (length text) (drop place log)

-- calls of `skip_lines` skip `left` lines; each gets some text from where the call before stopped
pub data Passes (log : List ℕ) : (place left end : ℕ) → Type 0 where
  passed : {place left : ℕ} → left ≡ 0 → Passes log place left place
  skip : {place left end : ℕ} {text done' : List ℕ}
      → IsFrom log place text → Skipped text left done'
      → Passes log (place + get_or done' 0 0) (left - get_or done' 1 0) end → Passes log place left end

-- a call begins where the call before stopped; or, at a restart, it begins after as many lines from the start of the
-- log as were taken
pub data BeginsAt (log : List ℕ) (stopped lines : ℕ) : ℕ → Type 0 where
  here : BeginsAt log stopped lines stopped
  again : {place : ℕ} → Passes log 0 lines place → BeginsAt log stopped lines place

-- calls that begin in this way, from one position to another
pub data Walks (log : List ℕ) : (place lines : ℕ) → List LinesCall → (end : ℕ) → Type 0 where
  ended : {place lines : ℕ} → Walks log place lines [] place
  next : {place lines start end : ℕ} {c : LinesCall} {cs : List LinesCall}
      → BeginsAt log place lines start → IsFrom log start c.input
      → Walks log (start + get_or c.done' 0 0) (lines + lines_by c) cs end → Walks log place lines (c ∷ cs) end

-- THE CLAIM on `skip_lines`: all that such calls used is the front of the log. So no line is taken twice, and none is
-- left out.
abbrev pub Covers : (LinesCall → Type 0) → Type 0
Covers Is =
    (log : List ℕ) (a : Arrays) (cs : List LinesCall) (end : ℕ) → IsRun GoesOn Is a cs → Walks log 0 0 cs end
    → used_in cs ≡ take end log

-- Restarts cover: it holds for calls of `lines` and of `lines_as`.
abbrev pub RestartsCover : Type 0
RestartsCover = OfBoth Covers

-- ---- one call

-- a call that left room for the row and the text of one more line
pub record LeavesRoom (longest : ℕ) (c : LinesCall) : Type 0 where
  pub rows : get_or c.done' 2 0 < length c.moments
  pub text : get_or c.done' 1 0 + longest ≤ length c.out

-- Skips as taken: in the same text, with the same limit of lines, `skip_lines` skips exactly what such a call takes.
pub record SkipsAsTaken : Type 0 where
  pub lines : (setting : ℕ) (c : LinesCall) (done' : List ℕ) → TakesLines setting c → LeavesRoom longest_line c
      → Skipped c.input c.most done' → done' ≡ get_or c.done' 0 0 ∷ lines_by c ∷ []
  pub lines_as : (setting format : ℕ) (c : LinesCall) (done' : List ℕ) → TakesAs setting format c
      → LeavesRoom longest_line_in c
      → has_room (length c.closed) (get_or c.done' 4 0) ≡ true
      → Skipped c.input c.most done' → done' ≡ get_or c.done' 0 0 ∷ lines_by c ∷ []

-- two calls on the same state, with the same text and limit, and with outputs of the same lengths
pub record SameArguments (c d : LinesCall) : Type 0 where
  pub state : state_at c.before ≡ state_at d.before
  pub input : c.input ≡ d.input
  pub most : c.most ≡ d.most
  pub text : length c.out ≡ length d.out
  pub rows : length c.moments ≡ length d.moments
  pub closings : length c.closed ≡ length d.closed

-- such calls take the same lines. With the setting and the format, what they are lent decides where they stop.
abbrev pub TakenAlike : (LinesCall → Type 0) → Type 0
TakenAlike Is = (c d : LinesCall) → Is c → Is d → SameArguments c d → get_or c.done' 0 0 ≡ get_or d.done' 0 0

-- Stops decided: this holds for calls of `lines` and of `lines_as`.
abbrev pub StopsDecided : Type 0
StopsDecided = OfBoth TakenAlike

-- ---- line by line

-- a call of `read_line`: its input, its number, and what it left
pub record LineRead : Type 0 where
  pub input : List ℕ
  pub number : ℕ
  pub bytes : List ℕ
  pub told : List ℕ

-- the call read a line; 4 means that no line has ended
pub record IsRead (r : LineRead) : Type 0 where
  pub call : ReadLine r.input r.number r.bytes r.told
  pub some : r.number ≡ 4 → ⊥

-- calls of `read_line`, each of which read a line
pub data AreRead : List LineRead → Type 0 where
  none : AreRead []
  one : {r : LineRead} {rs : List LineRead} → IsRead r → AreRead rs → AreRead (r ∷ rs)

-- the characters of its line, and what the call says of the line
abbrev pub line_by : LineRead → List ℕ
line_by r = take (get_or r.told 2 0) r.input

abbrev pub said_by : LineRead → Reading
said_by r = cond (eqb r.number 0) (reception (get_or r.told 0 0) (take (get_or r.told 1 0) r.bytes)) bad

-- THE CLAIM on `read_line`: as many calls of it, from the start of the same text on, read each line as the calls took
-- it
abbrev pub ReadAlike : (LinesCall → Type 0) → Type 0
ReadAlike Is =
    (a : Arrays) (cs : List LinesCall) (rs : List LineRead) (rest rest' : List ℕ) → IsRun GoesOn Is a cs → AreRead rs
    → used_in cs ++ rest ≡ joined (map line_by rs) ++ rest' → lines_in cs ≡ length rs
    → map line_reading (lines_of (used_in cs)) ≡ map said_by rs

-- Reads agree: it holds for calls of `lines` and of `lines_as`.
abbrev pub ReadsAgree : Type 0
ReadsAgree = OfBoth ReadAlike

-- None read: if `read_line` answers 4, no line has ended.
abbrev pub NoneRead : Type 0
NoneRead = (input bytes done : List ℕ) → ReadLine input 4 bytes done → is_unended input ≡ true
