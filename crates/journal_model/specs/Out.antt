-- The file of `--out`, which has the rows as text. The state has its length and the number of lines that were taken, so
-- both are replaced in one step.
use Rattle.std.specs.Prelude.{ℕ, ◌+◌, ◌≤◌, ◌≡◌, cond, not, ◌&&◌, List, [], ◌∷◌, ◌++◌, eqb, length, take, drop, Option, Some, None}
use Rattle.collector_model.specs.Reference.{log_of, model_view}
use Rattle.text_lines.specs.Reading.{line_reading, setting_of}
use Rattle.text_rows.specs.declared.formats.Format.{Format}
use Rattle.text_rows.specs.Formats.{heading_in}
use Rattle.text_collect.specs.Printed.{past_after_lines}
use Rattle.text_collect.specs.Formats.{line_in}

-- how many lines the state has taken, how many bytes of the file it counts, and the file
pub record Out : Type 0 where
  pub lines : ℕ
  pub size : ℕ
  pub file : List ℕ

-- what can happen to the file
pub data OutEvent : Type 0 where
  -- a batch of `count` lines
  Print : (count : ℕ) → OutEvent
  -- a crash that leaves this, and then a start
  Stop : (left : Out) → OutEvent

-- `text`: what a line prints after other lines; `heading`: what comes before the first row. Both depend on the format.
-- `log`: the lines of a log.
module _ (text : List (List ℕ) → List ℕ → List ℕ) (heading : List ℕ) (log : List (List ℕ)) where
  -- what lines print after other lines
  unfoldable pub text_behind : List (List ℕ) → List (List ℕ) → List ℕ
  text_behind before [] = []
  text_behind before (l ∷ ls) = text before l ++ text_behind (before ++ (l ∷ [])) ls

  -- the lines of the next batch
  abbrev pub next_of : Out → ℕ → List (List ℕ)
  next_of o count = take count (drop o.lines log)

  -- what a batch prints; the heading first, if the file is empty
  abbrev pub batch_text : Out → ℕ → List ℕ
  batch_text o count = cond (eqb o.size 0) heading [] ++ text_behind (take o.lines log) (next_of o count)

  -- the rows of a batch are written after the bytes that the state counts; then the state is replaced
  abbrev pub print_batch : Out → ℕ → Out
  print_batch o count =
      let new = batch_text o count in
      record {
        lines = o.lines + length (next_of o count);
        size = o.size + length new;
        file = take o.size o.file ++ (new ++ drop (o.size + length new) o.file);
      }

  -- a start of the tool cuts off what the state does not count
  abbrev pub cut_out : Out → Out
  cut_out o = record { lines = o.lines; size = o.size; file = take o.size o.file }

  -- what a crash may leave, or a start that is cut short: the old state, with the bytes that it counts unchanged and
  -- any bytes after them; or the new state, because the rows were synced before it
  pub data OutLeft (o : Out) : Out → Type 0 where
    early : (file : List ℕ) → o.size ≤ length file → take o.size file ≡ take o.size o.file
        → OutLeft o (record { lines = o.lines; size = o.size; file = file })
    late : (count : ℕ) → OutLeft o (print_batch o count)

  -- the file after an event
  abbrev pub out_next : Out → OutEvent → Out
  out_next o (Print count) = print_batch o count
  out_next o (Stop left) = cut_out left

  -- the file after all events
  abbrev pub out_run : Out → List OutEvent → Out
  out_run o [] = o
  out_run o (e ∷ es) = out_run (out_next o e) es

  -- an event is possible
  abbrev pub OutMay : Out → OutEvent → Type 0
  OutMay o (Print count) = Unit {0}
  OutMay o (Stop left) = OutLeft o left

  -- every event is possible, each after the one before
  abbrev pub IsOutRun : Out → List OutEvent → Type 0
  IsOutRun o [] = Unit {0}
  IsOutRun o (e ∷ es) = OutMay o e × IsOutRun (out_next o e) es

  -- what comes before the rows: the heading, if the file was empty before the run and is not empty now
  abbrev pub top_of : List ℕ → Out → List ℕ
  top_of old o = cond (eqb (length old) 0 && not (eqb o.size 0)) heading []

  -- after what was in the file before: the heading, and each row of the lines that were taken, once and in order
  pub record RowsOnce (old : List ℕ) (o : Out) : Type 0 where
    pub is : o.file ≡ old ++ (top_of old o ++ text_behind [] (take o.lines log))
    pub counted : o.size ≡ length o.file

-- Once in file: after batches of any size and crashes at any time with any outcome, each row of the lines that the
-- state has taken is in the file once.
abbrev pub OnceInFile : Type 0
OnceInFile =
    (text : List (List ℕ) → List ℕ → List ℕ) (heading : List ℕ) (log : List (List ℕ)) (old : List ℕ)
    (es : List OutEvent)
    → let o : Out = record { lines = 0; size = length old; file = old } in
    IsOutRun text heading log o es → RowsOnce text heading log old (out_run text heading log o es)

-- ---- the formats

-- a first line that says a level prints nothing; any other prints what a later line prints
abbrev pub unless_level : Option ℕ → List ℕ → List ℕ
unless_level (Some n) row = []
unless_level None row = row

-- what a line prints after other lines in a format, by the reference model
abbrev pub row_after_lines : Format → (setting : ℕ) → List (List ℕ) → List ℕ → List ℕ
row_after_lines f setting before l =
    let view = model_view (log_of (past_after_lines [] before)) in
    let row = line_in f (record { setting = setting; view = view }) (line_reading l) in
    cond (eqb (length before) 0) (unless_level (setting_of l) row) row

-- First line silent: nothing is printed for a first line that says a level.
abbrev pub FirstLineSilent : Type 0
FirstLineSilent =
    (f : Format) (setting level : ℕ) (l : List ℕ) → setting_of l ≡ Some level
    → row_after_lines f setting [] l ≡ []

-- Once in format: the same for the rows of a format, with its heading.
abbrev pub OnceInFormat : Type 0
OnceInFormat =
    (f : Format) (setting : ℕ) (log : List (List ℕ)) (old : List ℕ) (es : List OutEvent)
    → let o : Out = record { lines = 0; size = length old; file = old } in
    let text = row_after_lines f setting in
    IsOutRun text (heading_in f) log o es → RowsOnce text (heading_in f) log old (out_run text (heading_in f) log o es)
