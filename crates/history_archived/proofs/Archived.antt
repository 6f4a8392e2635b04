use Rattle.std.specs.Prelude.{Option, Some, None}
-- The rows that `lines` gives are the reference model's: what is KEPT or LOOSE is valid, so that the length that `is_stored` asks for is always there.
use mathlib.Core.Path.{◌≡◌, refl, sym, ap, ap₂, ◌∙◌}
use mathlib.Core.Bool.{Bool, true, false, cond, ◌||◌}
use mathlib.Core.List.{List, [], ◌∷◌, ◌++◌, flatten, append-nil}
use Prim.Native.Nat.{ℕ, ◌*◌}
use native.Mathlib.Omega.{arith}
use lib.Dec.{leb}
use lib.ListN.{length, length-append}
use borrow.Author.Tests.{le-leb, leb-true}
use Rattle.base_lists.specs.Lists.{padded, all, up_from}
use Rattle.base_lists.proofs.Choice.{both}
use Rattle.base_lists.proofs.Tests.{all_parts}
use Rattle.base_buffers.proofs.Buffer.{padded-length}
use Rattle.radio_erp1.specs.Subtelegram.{max_length}
use Rattle.collector_model.specs.Answer.{Shown, Kept, Copy, Loose, Refused, is_kept, is_loose}
use Rattle.collector_model.specs.View.{Reception, View}
use Rattle.collector_model.specs.Step.{step}
use Rattle.collector_model.specs.Reference.{model_view, log_of}
use Rattle.collector_model.proofs.Invariant.{Good, good_fresh}
use Rattle.collector_model.proofs.Theorem.{fresh-model}
use Rattle.text_lines.specs.Reading.{Reading, reception, bad, setting_of, line_reading}
use Rattle.text_program.specs.Lines.{Program, lines_of, text_of, output_of}
use Rattle.text_program.specs.Collect.{Phase, starting, running, over, after_first, after_line}
use Rattle.archive_model.specs.Row.{Row}
use Rattle.archive_model.specs.Claims.{is_fit}
use Rattle.archive_fill.specs.Fill.{row_length, rows_given}
use Rattle.text_collect.specs.Printed.{reception_at, past_after_lines}
use Rattle.text_collect.specs.Session.{Receiver, model_collector, running_at}
use Rattle.text_collect.specs.Rows.{is_stored, stored_time, stored_record, time_of_line, record_of_line, row_times, row_records}
use Rattle.journal_model.specs.Rows.{row_for, view_after, rows_from, taken_rows, model_rows}
use Rattle.journal_model.proofs.Rows.{took_all}
use Rattle.history_archived.specs.Archived.{archived_for, archived_with, archived_of}
use Rattle.history_archived.specs.Claims.{LogArchived, LinesArchived, RecordsSized, ArchivedStorable}
use Rattle.history_archived.proofs.Given.{times_of, records_of, fit-short, given_back, times_append, records_append, none_refused}

-- ---- one line

module _ (t : ℕ) (bs : List ℕ) where
  abbrev heard : Reception
  heard = reception_at t bs

  record Stored (a : Shown) : Type 0 where
    time : stored_time a t bs ≡ times_of (row_for a heard)
    bytes : stored_record a bs ≡ records_of (row_for a heard)

  answered : (a : Shown) → all is_fit (row_for a heard) ≡ true → Stored a
  unfolding flatten
  answered Kept e =
      let short =
      le-leb (length bs) max_length (fit-short (record { bytes = bs; time = t; loose = false }) (both _ _ e).0) in
      record { time = rw short; bytes = rw short (sym (append-nil _)) }
  answered Copy e = record { time = refl; bytes = refl }
  answered Loose e =
      let short =
      le-leb (length bs) max_length (fit-short (record { bytes = bs; time = t; loose = true }) (both _ _ e).0) in
      record { time = rw short; bytes = rw short (sym (append-nil _)) }
  answered (Refused n) e = record { time = refl; bytes = refl }

record OfLine (c : Receiver) (a : Reading) : Type 0 where
  time : time_of_line c a ≡ times_of (rows_from c.view a)
  bytes : record_of_line c a ≡ records_of (rows_from c.view a)

of_line : (c : Receiver) (a : Reading) → all is_fit (rows_from c.view a) ≡ true → OfLine c a
unfolding flatten
of_line c (reception t bs) e =
    let w = answered t bs (step c.view (reception_at t bs)).answer e in
    record { time = w.time; bytes = w.bytes }
of_line c bad e = record { time = refl; bytes = refl }

-- ---- lines

record OfLines (setting : ℕ) (v : View) (ls : List (List ℕ)) : Type 0 where
  times : text_of row_times (running_at setting v) ls ≡ times_of (taken_rows v ls)
  records : text_of row_records (running_at setting v) ls ≡ records_of (taken_rows v ls)

next_line : (setting : ℕ) (v : View) (a : Reading)
    → after_line model_collector (record { setting = setting; view = v }) a
    ≡ record { setting = setting; view = view_after v a }
next_line setting v (reception t bs) = refl
next_line setting v bad = refl

of_lines : (setting : ℕ) (ls : List (List ℕ)) (v : View) → all is_fit (taken_rows v ls) ≡ true → OfLines setting v ls
unfolding text_of taken_rows flatten
of_lines setting [] v e = record { times = refl; records = refl }
of_lines setting (l ∷ ls) v e =
    let a = line_reading l in
    let c : Receiver = record { setting = setting; view = v } in
    let w = all_parts is_fit (rows_from v a) (taken_rows (view_after v a) ls) e in
    let one = of_line c a w.0 in
    let rest = of_lines setting ls (view_after v a) w.1 in
    record {
      times =
          ap₂ (λ (x : List ℕ) (y : Receiver). x ++ text_of row_times (running y) ls) one.time (next_line setting v a)
          ∙ ap (λ (x : List ℕ). times_of (rows_from v a) ++ x) rest.times
          ∙ sym (times_append (rows_from v a) (taken_rows (view_after v a) ls));
      records =
          ap₂ (λ (x : List ℕ) (y : Receiver). x ++ text_of row_records (running y) ls)
          one.bytes (next_line setting v a)
          ∙ ap (λ (x : List ℕ). records_of (rows_from v a) ++ x) rest.records
          ∙ sym (records_append (rows_from v a) (taken_rows (view_after v a) ls));
    }

-- what the two texts of lines say
abbrev said_by : Phase Receiver → List (List ℕ) → List Row
said_by s ls = rows_given (text_of row_times s ls ++ []) (text_of row_records s ls ++ [])

said-lines : (setting : ℕ) (past : List Reception) (ls : List (List ℕ)) → Good (model_view (log_of past))
    → said_by (running_at setting (model_view (log_of past))) ls ≡ model_rows past ls
said-lines setting past ls g =
    let t = took_all ls past g in
    let v = model_view (log_of past) in
    let w = of_lines setting ls v (rw t.rows t.fit) in
    rw (
      append-nil (text_of row_times (running_at setting v) ls),
      append-nil (text_of row_records (running_at setting v) ls),
      w.times,
      w.records,
      t.rows,
    )
    (given_back (model_rows past ls) t.fit)

good_start : Good (model_view (log_of []))
good_start = rw fresh-model at good_fresh

pub lines_archived : LinesArchived
unfolding output_of
lines_archived setting before input =
    said-lines setting (past_after_lines [] before) (lines_of input) (took_all before [] good_start).good

-- ---- a log

pub over_silent : (p : Program (Phase Receiver)) → ((l : List ℕ) → p.text over l ≡ [])
    → ((l : List ℕ) → p.next over l ≡ over) → (ls : List (List ℕ)) → text_of p over ls ≡ []
unfolding text_of
over_silent p t n [] = refl
over_silent p t n (l ∷ ls) = rw (t l, n l) (over_silent p t n ls)

behind_first : (x : (Option ℕ)) (ls : List (List ℕ)) → said_by (after_first model_collector x) ls ≡ archived_with x ls
unfolding rows_given up_from
behind_first (Some n) ls =
    ap (λ (v : View). said_by (running_at n v) ls) fresh-model ∙ said-lines n [] ls good_start
behind_first None ls =
    ap₂ (λ (x y : List ℕ). rows_given (x ++ []) (y ++ [])) (over_silent row_times (λ l. refl) (λ l. refl) ls)
    (over_silent row_records (λ l. refl) (λ l. refl) ls)

whole_log : (ls : List (List ℕ)) → said_by starting ls ≡ archived_for ls
unfolding text_of rows_given up_from
whole_log [] = refl
whole_log (l ∷ ls) = behind_first (setting_of l) ls

pub log_archived : LogArchived
unfolding output_of archived_of
log_archived input = whole_log (lines_of input)

-- ---- each is a row that an archive holds

fit_for : (x : (Option ℕ)) (ls : List (List ℕ)) → all is_fit (archived_with x ls) ≡ true
fit_for (Some n) ls = (took_all ls [] good_start).fit
fit_for None ls = refl

fit-lines : (ls : List (List ℕ)) → all is_fit (archived_for ls) ≡ true
fit-lines [] = refl
fit-lines (l ∷ ls) = fit_for (setting_of l) ls

pub archived_storable : ArchivedStorable
unfolding archived_of
archived_storable input = let e = fit-lines (lines_of input) in
    record { fit = e; checked = none_refused (archived_for (lines_of input)) 0 e }

-- ---- a record for each time

stored-sized : (a : Shown) (t : ℕ) (bs : List ℕ)
    → length (stored_record a bs) ≡ row_length * length (stored_time a t bs)
stored-sized a t bs = go (is_stored a bs) refl
  where
    go : (s : Bool) → is_stored a bs ≡ s
        → length (cond s (cond (is_loose a) 1 0 ∷ length bs ∷ padded max_length bs) [])
        ≡ row_length * length (cond s (t ∷ []) [])
    go true e =
        omega (
          arith,
          padded-length max_length bs
              (leb-true (length bs) max_length (both (is_kept a || is_loose a) (leb (length bs) max_length) e).1),
        )
    go false e = omega arith

line-sized : (c : Receiver) (a : Reading) → length (record_of_line c a) ≡ row_length * length (time_of_line c a)
line-sized c (reception t bs) = stored-sized (step c.view (reception_at t bs)).answer t bs
line-sized c bad = omega arith

text-sized : (s : Phase Receiver) (l : List ℕ)
    → length (row_records.text s l) ≡ row_length * length (row_times.text s l)
text-sized starting l = omega arith
text-sized (running c) l = line-sized c (line_reading l)
text-sized over l = omega arith

lines-sized : (ls : List (List ℕ)) (s : Phase Receiver)
    → length (text_of row_records s ls) ≡ row_length * length (text_of row_times s ls)
unfolding text_of
lines-sized [] s = omega arith
lines-sized (l ∷ ls) s =
    let n = row_times.next s l in
    omega (
      arith,
      text-sized s l,
      lines-sized ls n,
      length-append (row_records.text s l) (text_of row_records n ls),
      length-append (row_times.text s l) (text_of row_times n ls),
    )

pub records-sized : RecordsSized
unfolding output_of
records-sized s input =
    rw (append-nil (text_of row_records s (lines_of input)), append-nil (text_of row_times s (lines_of input)))
    (lines-sized (lines_of input) s)
