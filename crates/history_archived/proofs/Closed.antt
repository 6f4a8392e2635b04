use Rattle.std.specs.Prelude.{Option, Some, None}
-- What lines close, as bytes, line by line and call by call.
use Prim.Native.Nat.{ℕ, ◌*◌, ◌<◌}
use native.Mathlib.Omega.{arith}
use mathlib.Core.Path.{◌≡◌, refl, sym, ap, ◌∙◌}
use mathlib.Core.Bool.{Bool, true, false, cond}
use mathlib.Core.List.{List, [], ◌∷◌, ◌++◌, map, flatten, append-nil, map-append}
use lib.ListN.{length, length-append}
use borrow.Author.Tests.{ne_eqb, eqb-true}
use Rattle.base_lists.specs.Lists.{keep, all}
use Rattle.base_lists.proofs.Choice.{both}
use Rattle.base_lists.proofs.Parts.{flatten_append}
use Rattle.base_lists.proofs.Tests.{by_test}
use Rattle.radio_erp1.specs.Subtelegram.{check_of}
use Rattle.radio_erp1.proofs.Checks.{check_facts}
use Rattle.block_layout.specs.Cell.{cell_length}
use Rattle.block_layout.proofs.Cell.{cell_length_lem}
use Rattle.collector_model.specs.View.{Reception, Entry, View, fresh}
use Rattle.collector_model.specs.Answer.{is_accepted}
use Rattle.collector_model.specs.Acceptable.{is_entry}
use Rattle.collector_model.specs.Step.{step}
use Rattle.collector_model.specs.Reference.{past_after}
use Rattle.collector_model.specs.History.{Timely}
use Rattle.collector_model.specs.Image.{entry_cell}
use Rattle.collector_model.proofs.Invariant.{Good, good_fresh, good_advance, classified, entry-valid}
use Rattle.history_rows.specs.Closings.{closed_at, closed_from, closings_from}
use Rattle.history_rows.proofs.Closings.{views_closed_once}
use Rattle.collector_closings.specs.Cells.{entry_cells, closed_cells}
use Rattle.text_lines.specs.Reading.{Reading, reception, bad, setting_of, line_reading, line_limit}
use Rattle.text_program.specs.Lines.{lines_of, text_of, output_of}
use Rattle.text_program.specs.Chunks.{joined}
use Rattle.text_program.specs.Collect.{starting, running, after_first, after_line}
use Rattle.text_program.proofs.Segments.{Drained}
use Rattle.text_collect.specs.Printed.{reception_at, past_after_line, past_after_lines}
use Rattle.text_collect.specs.Session.{Receiver, model_collector, running_at}
use Rattle.text_collect.specs.Heard.{closed_by_line, line_closings, is_asked}
use Rattle.text_collect.proofs.Turns.{closings_bounded}
use Rattle.journal_model.proofs.Rows.{said-small}
use Rattle.c_collector.specs.State.{state_at}
use Rattle.history_archived.specs.Closed.{
  handed_by,
  handed_over,
  closed_with,
  closed_for,
  closed_of,
  LinesCloseOnce,
  LogClosed,
  LinesClosed,
  closed_by_call,
  AsksClosings,
  CallsClose,
}
use Rattle.history_archived.specs.Runs.{LinesCall, used_by, used_in}
use Rattle.history_archived.proofs.Archived.{over_silent}
use Rattle.history_archived.proofs.Runs.{gave_as, stays_good, fed_front, chain, given_whole}

-- ---- lines

cells_append : (xs ys : List Entry) → entry_cells (xs ++ ys) ≡ entry_cells xs ++ entry_cells ys
unfolding entry_cells
cells_append xs ys = ap flatten (map-append entry_cell xs ys) ∙ flatten_append (map entry_cell xs) (map entry_cell ys)

one_line : (c : Receiver) (a : Reading) (rs : List Reception) (rest : List ℕ)
    → rest ≡ entry_cells (closings_from (after_line model_collector c a).view rs)
    → closed_by_line c a ++ rest ≡ entry_cells (closings_from c.view (handed_by a ++ rs))
unfolding closed_cells
one_line c (reception t bs) rs rest e =
    let r = reception_at t bs in
    ap (λ (l : List ℕ). closed_cells c.view r ++ l) e
    ∙ sym (cells_append (closed_from c.view r (step c.view r).answer) (closings_from (step c.view r).next rs))
one_line c bad rs rest e = e

lines-text : (setting : ℕ) (ls : List (List ℕ)) (c : Receiver)
    → text_of (line_closings true) (running c) ls ≡ entry_cells (closings_from c.view (handed_over ls))
unfolding text_of handed_over entry_cells flatten
lines-text setting [] c = refl
lines-text setting (l ∷ ls) c =
    let next = after_line model_collector c (line_reading l) in
    one_line c (line_reading l) (handed_over ls) (text_of (line_closings true) (running next) ls)
    (lines-text setting ls next)

pub lines-closed : LinesClosed
unfolding output_of
lines-closed setting v input =
    append-nil (text_of (line_closings true) (running_at setting v) (lines_of input))
    ∙ lines-text setting (lines_of input) (record { setting = setting; view = v })

-- ---- a log

behind_first : (x : (Option ℕ)) (ls : List (List ℕ)) → text_of (line_closings true) (after_first model_collector x) ls
    ≡ entry_cells (closed_with x ls)
unfolding entry_cells flatten
behind_first (Some n) ls = lines-text n ls (record { setting = n; view = fresh })
behind_first None ls = over_silent (line_closings true) (λ l. refl) (λ l. refl) ls

whole_log : (ls : List (List ℕ)) → text_of (line_closings true) starting ls ≡ entry_cells (closed_for ls)
unfolding text_of entry_cells flatten
whole_log [] = refl
whole_log (l ∷ ls) = behind_first (setting_of l) ls

pub log_closed : LogClosed
unfolding output_of closed_of
log_closed input = append-nil (text_of (line_closings true) starting (lines_of input)) ∙ whole_log (lines_of input)

-- ---- each once

timely-line : (l : List ℕ) (a : Reading) → line_reading l ≡ a → (rs : List Reception) → Timely rs
    → Timely (handed_by a ++ rs)
timely-line l (reception t bs) e rs h = (said-small l e, h)
timely-line l bad e rs h = h

timely : (ls : List (List ℕ)) → Timely (handed_over ls)
unfolding handed_over
timely [] = tt
timely (l ∷ ls) = timely-line l (line_reading l) refl (handed_over ls) (timely ls)

past-line : (a : Reading) (past rs : List Reception) → past_after past (handed_by a ++ rs)
    ≡ past_after (past_after_line past a) rs
past-line (reception t bs) past rs = refl
past-line bad past rs = refl

past-lines : (ls : List (List ℕ)) (past : List Reception) → past_after past (handed_over ls) ≡ past_after_lines past ls
unfolding handed_over past_after_lines
past-lines [] past = refl
past-lines (l ∷ ls) past =
    past-line (line_reading l) past (handed_over ls) ∙ past-lines ls (past_after_line past (line_reading l))

pub lines_close_once : LinesCloseOnce
lines_close_once ls = rw (past-lines ls []) at (views_closed_once (handed_over ls) (timely ls))

-- ---- 32 bytes for each

cell_sized : (latest : ℕ) (e : Entry) → is_entry latest e ≡ true → length (entry_cell e) ≡ cell_length
cell_sized latest e k =
    let valid = eqb-true (check_of e.bytes) 0 (entry-valid latest e k) in
    cell_length_lem e.time e.bytes e.copies (check_facts e.bytes valid).high

some_sized : (latest : ℕ) (p : Entry → Bool) (l : List Entry) → all (is_entry latest) l ≡ true
    → length (entry_cells (keep p l)) ≡ cell_length * length (keep p l)
unfolding entry_cells flatten
some_sized latest p [] h = refl
some_sized latest p (e ∷ l) h =
    let w = both (is_entry latest e) (all (is_entry latest) l) h in
    let rest = some_sized latest p l w.1 in
    let long = length-append (entry_cell e) (entry_cells (keep p l)) in
    by_test (p e) (λ t. rw t (omega (arith, long, cell_sized latest e w.0, rest))) (λ f. rw f rest)

one_sized : (v : View) (r : Reception) → Good v → (b : Bool)
    → length (entry_cells (cond b (closed_at r.time v.entries) []))
    ≡ cell_length * length (cond b (closed_at r.time v.entries) [])
unfolding entry_cells flatten
one_sized v r g true = some_sized v.latest _ v.entries g.entries.each
one_sized v r g false = refl

from-sized : (rs : List Reception) (v : View) → Good v → Timely rs
    → length (entry_cells (closings_from v rs)) ≡ cell_length * length (closings_from v rs)
unfolding entry_cells flatten step
from-sized [] v g t = refl
from-sized (r ∷ rs) v g t =
    let first = closed_from v r (step v r).answer in
    let rest = closings_from (step v r).next rs in
    let next = good_advance v r g t.0 (classified v r) in
    ap length (cells_append first rest)
    ∙ omega (
      arith,
      length-append (entry_cells first) (entry_cells rest),
      length-append first rest,
      one_sized v r g (is_accepted (step v r).answer),
      from-sized rs (step v r).next next t.1,
    )

pub closed-sized : (input : List ℕ) → length (entry_cells (closed_of input)) ≡ cell_length * length (closed_of input)
unfolding closed_of entry_cells flatten
closed-sized input = go (lines_of input)
  where
    behind : (x : (Option ℕ)) (ls : List (List ℕ))
        → length (entry_cells (closed_with x ls)) ≡ cell_length * length (closed_with x ls)
    behind (Some n) ls = from-sized (handed_over ls) fresh good_fresh (timely ls)
    behind None ls = refl

    go : (ls : List (List ℕ)) → length (entry_cells (closed_for ls)) ≡ cell_length * length (closed_for ls)
    go [] = refl
    go (l ∷ ls) = behind (setting_of l) ls

-- ---- calls

asks : (closed : List ℕ) → 0 < length closed → is_asked closed ≡ true
asks closed h = rw (ne_eqb (length closed) 0 (λ z. omega arith))

one_call : (setting format : ℕ) (c : LinesCall) → AsksClosings setting format c
    → Drained (line_closings true) line_limit (running_at setting (state_at c.before)) (used_by c)
    (running_at setting (state_at c.after)) (closed_by_call c)
one_call setting format c k =
    let f = rw (asks c.closed k.asked) at (k.lines.taken refl).closes in
    fed_front (line_closings true) _ _ _ _ _ _ f

pub calls_close : CallsClose
calls_close setting format a cs e r =
    let good : (c : LinesCall) → AsksClosings setting format c → Good (state_at c.before)
    → Good (state_at c.after) =
    λ c k. stays_good _ setting c (gave_as setting format c k.lines)
    in
    let g : Good (state_at a) = rw e good_fresh in
    let one = one_call setting format in
    let d = chain (AsksClosings setting format) setting good (line_closings true) closed_by_call one cs a g r in
    sym (append-nil (joined (map closed_by_call cs))) ∙ given_whole (line_closings true) (closings_bounded true) d
    ∙ ap (λ (v : View). output_of (line_closings true) (running_at setting v) (used_in cs)) e
    ∙ lines-closed setting fresh (used_in cs)
