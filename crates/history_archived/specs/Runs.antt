-- The claims on the calls `lines` and `lines_as` on a collector in arrays, as other languages make them, with restarts
-- between them. proofs/Runs.antt proves them. Of the code, the proofs use only the contracts of the calls. Closed.antt
-- has what `lines_as` closes.
use Rattle.std.specs.Prelude.{ℕ, ◌+◌, ◌*◌, ◌≤◌, ◌≡◌, List, [], ◌∷◌, ◌++◌, map, length, get_or, take, Some}
use Rattle.collector_model.specs.View.{fresh}
use Rattle.collector_model.specs.Image.{image_length, checkpoint_of}
use Rattle.text_rows.specs.Formats.{heading_in}
use Rattle.text_program.specs.Lines.{lines_of}
use Rattle.text_program.specs.Chunks.{joined}
use Rattle.archive_fill.specs.Fill.{row_length, rows_given}
use Rattle.text_collect.specs.Printed.{totals_line, printed_with}
use Rattle.text_collect.specs.Session.{running_at}
use Rattle.text_collect.specs.Elements.{ElementsAfter}
use Rattle.text_collect.specs.Formats.{totals_text_in}
use Rattle.text_collect.specs.PrintedIn.{printed_with_in}
use Rattle.c_collector.specs.State.{Arrays, columns_at, state_at}
use Rattle.c_checkpoint.specs.Calls.{Restores}
use Rattle.c_lines.specs.Calls.{Lines}
use Rattle.c_lines.specs.Formats.{format_of, LinesAs}
use Rattle.journal_model.specs.Rows.{model_rows}

-- a call that was answered 0: the collector and what else was lent to it, and what it left; `lines` gets no `closed`
pub record LinesCall : Type 0 where
  pub before : Arrays
  pub input : List ℕ
  pub most : ℕ
  pub out : List ℕ
  pub moments : List ℕ
  pub rows : List ℕ
  pub closed : List ℕ
  pub done : List ℕ
  pub after : Arrays
  pub out' : List ℕ
  pub moments' : List ℕ
  pub rows' : List ℕ
  pub closed' : List ℕ
  pub done' : List ℕ

-- of a call: the characters that it used, the text that it wrote, the times and the records of its rows, and how many
-- lines it took
abbrev pub used_by : LinesCall → List ℕ
used_by c = take (get_or c.done' 0 0) c.input

abbrev pub text_by : LinesCall → List ℕ
text_by c = take (get_or c.done' 1 0) c.out'

abbrev pub times_by : LinesCall → List ℕ
times_by c = take (get_or c.done' 2 0) c.moments'

abbrev pub records_by : LinesCall → List ℕ
records_by c = take (row_length * get_or c.done' 2 0) c.rows'

abbrev pub lines_by : LinesCall → ℕ
lines_by c = get_or c.done' 3 0

-- a call of `lines` with a setting; and a call of `lines_as` with a setting and a format
abbrev pub TakesLines : ℕ → LinesCall → Type 0
TakesLines setting c =
    Lines c.before setting c.input c.most c.out c.moments c.rows c.done 0
    c.after c.out' c.moments' c.rows' c.done'

abbrev pub TakesAs : (setting format : ℕ) → LinesCall → Type 0
TakesAs setting format c =
    LinesAs c.before setting format c.input c.most c.out c.moments c.rows c.closed c.done 0
    c.after c.out' c.moments' c.rows' c.closed' c.done'

-- a claim that holds for calls of `lines` and for calls of `lines_as`
pub record OfBoth (Claim : (LinesCall → Type 0) → Type 0) : Type 0 where
  pub lines : (setting : ℕ) → Claim (TakesLines setting)
  pub lines_as : (setting format : ℕ) → Claim (TakesAs setting format)

-- the second arrays continue the first: they are the same; or a checkpoint was written and restored into arrays with
-- any acceptable state, any number of times (document 01, "Parked collector")
pub data GoesOn : Arrays → Arrays → Type 0 where
  same : {a : Arrays} → GoesOn a a
  restarted : {a b c d : Arrays} (out : List ℕ) {out' : List ℕ}
      → GoesOn a b → record { number = 0; output = out' } ≡ checkpoint_of (state_at b) out
      → Restores c (take image_length out') 0 d → GoesOn a d

-- calls one after the other, each on arrays that continue those of the call before
unfoldable pub IsRun : (Arrays → Arrays → Type 0) → (LinesCall → Type 0) → Arrays → List LinesCall → Type 0
IsRun Follow Is a [] = a ≡ a
IsRun Follow Is a (c ∷ cs) = Follow a c.before × Is c × IsRun Follow Is c.after cs

-- the arrays after them
unfoldable pub arrays_at_end : Arrays → List LinesCall → Arrays
arrays_at_end a [] = a
arrays_at_end a (c ∷ cs) = arrays_at_end c.after cs

-- all that they used, and the lines that they took
abbrev pub used_in : List LinesCall → List ℕ
used_in cs = joined (map used_by cs)

-- how many lines the calls took
unfoldable pub lines_in : List LinesCall → ℕ
lines_in [] = 0
lines_in (c ∷ cs) = lines_by c + lines_in cs

-- what holds for both calls: their rows are the reference model's, and the lines that they counted are those of the log
pub record FollowsModel (cs : List LinesCall) : Type 0 where
  pub rows : rows_given (joined (map times_by cs)) (joined (map records_by cs)) ≡ model_rows [] (lines_of (used_in cs))
  pub lines : lines_in cs ≡ length (lines_of (used_in cs))

-- THE CLAIM on `lines`: however a log is cut into calls, with restarts between them, this holds; and their texts with
-- the totals are what `collect` prints after its first line. The collector starts fresh.
pub record Follows (setting : ℕ) (a : Arrays) (cs : List LinesCall) : Type 0 where
  pub text : joined (map text_by cs) ++ totals_line (state_at (arrays_at_end a cs)).totals
      ≡ printed_with (Some setting) (lines_of (used_in cs))
  pub agrees : FollowsModel cs

abbrev pub CallsFollow : Type 0
CallsFollow =
    (setting : ℕ) (a : Arrays) (cs : List LinesCall) → setting ≤ 2 → state_at a ≡ fresh
    → IsRun GoesOn (TakesLines setting) a cs
    → Follows setting a cs

-- THE CLAIM on `lines_as`: the same in a format. After the heading, which no call writes, their texts are what the
-- model prints in that format, with the totals if the format has them.
pub record FollowsAs (setting format : ℕ) (a : Arrays) (cs : List LinesCall) : Type 0 where
  pub text : heading_in (format_of format)
      ++ (joined (map text_by cs) ++ totals_text_in (format_of format) (state_at (arrays_at_end a cs)).totals)
      ≡ printed_with_in (format_of format) (Some setting) (lines_of (used_in cs))
  pub agrees : FollowsModel cs

abbrev pub CallsFollowAs : Type 0
CallsFollowAs =
    (setting format : ℕ) (a : Arrays) (cs : List LinesCall) → setting ≤ 2 → state_at a ≡ fresh
    → IsRun GoesOn (TakesAs setting format) a cs → FollowsAs setting format a cs

-- without a restart, from any arrays on: every element of the arrays is what the lines make of it
abbrev pub Lays : ℕ → Arrays → List LinesCall → Type 0
Lays setting a cs =
    ElementsAfter (running_at setting (state_at a)) (columns_at a) (used_in cs)
    (running_at setting (state_at (arrays_at_end a cs))) (columns_at (arrays_at_end a cs))

-- Calls lay: this holds for calls of `lines`.
abbrev pub CallsLay : Type 0
CallsLay = (setting : ℕ) (a : Arrays) (cs : List LinesCall) → IsRun ◌≡◌ (TakesLines setting) a cs → Lays setting a cs

-- Calls lay as: the same for calls of `lines_as`.
abbrev pub CallsLayAs : Type 0
CallsLayAs =
    (setting format : ℕ) (a : Arrays) (cs : List LinesCall) → IsRun ◌≡◌ (TakesAs setting format) a cs
    → Lays setting a cs
