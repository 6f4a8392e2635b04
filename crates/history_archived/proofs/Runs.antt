use Rattle.std.specs.Prelude.{Some}
-- Calls of `lines`, and calls of `lines_as`, one after the other and with restarts between them, follow the reference
-- model.
use mathlib.Core.Path.{◌≡◌, refl, sym, ap, ap₂, subst, ◌∙◌}
use mathlib.Core.List.{List, [], ◌∷◌, ◌++◌, map, append_assoc, append-nil}
use Prim.Native.Nat.{ℕ, zero, suc, ◌+◌, ◌≤◌}
use native.Mathlib.Omega.{arith}
use native.Mathlib.Nat.{zero-add}
use lib.Dec.{lit<}
use lib.ListN.{length, take}
use Rattle.collector_model.specs.View.{View, fresh}
use Rattle.collector_model.proofs.Invariant.{Good, good_fresh}
use Rattle.collector_model.proofs.Theorem.{fresh-model}
use Rattle.text_lines.specs.Ascii.{newline}
use Rattle.text_lines.specs.Reading.{level_line, setting_of, line_limit}
use Rattle.text_rows.specs.declared.formats.Format.{Format}
use Rattle.text_rows.specs.Formats.{heading_in}
use Rattle.text_program.specs.Lines.{Program, lines_of, text_of, output_of}
use Rattle.text_program.specs.Chunks.{Position, Bounded, at_line_start, fed, feed, feed_text}
use Rattle.text_program.specs.Chunks.{feed_all, feed_all_text, last_text, joined}
use Rattle.text_program.specs.Collect.{Phase, starting, collect}
use Rattle.text_program.specs.Buffer.{Fed}
use Rattle.text_program.proofs.Pieces.{in_pieces}
use Rattle.text_program.proofs.Segments.{Drained, none, both}
use Rattle.archive_fill.specs.Fill.{rows_given}
use Rattle.text_collect.specs.Printed.{past_after_lines, totals_line, printed_with, printed_of}
use Rattle.text_collect.specs.PrintedIn.{printed_with_in, printed_in}
use Rattle.text_collect.specs.Session.{Receiver, model_collector, running_at}
use Rattle.text_collect.specs.Rows.{row_times, row_records, line_ticks}
use Rattle.text_collect.specs.Elements.{PhaseColumns, held, line_columns}
use Rattle.text_collect.specs.Formats.{totals_text_in, collect_in}
use Rattle.text_collect.proofs.Storing.{times_bounded, records_bounded, ticks_bounded}
use Rattle.text_collect.proofs.Formatting.{format_bounded}
use Rattle.text_collect.proofs.PrintedIn.{formats_in_pieces, formats_print}
use Rattle.text_print.proofs.Whole.{printed_whole}
use Rattle.text_print.proofs.Turning.{front_there}
use Rattle.journal_model.specs.Rows.{model_rows}
use Rattle.c_collector.specs.State.{Arrays, columns_at, state_at}
use Rattle.c_lines.specs.Formats.{format_of}
use Rattle.history_archived.specs.Runs.{LinesCall, used_by, text_by, times_by, records_by, lines_by, TakesLines, TakesAs}
use Rattle.history_archived.specs.Runs.{GoesOn, IsRun, arrays_at_end, used_in, lines_in, FollowsModel, CallsFollow, CallsFollowAs}
use Rattle.history_archived.specs.Runs.{Lays, CallsLay, CallsLayAs}
use Rattle.history_archived.specs.Claims.{rows_said}
use Rattle.history_archived.proofs.Archived.{lines_archived}
use Rattle.history_archived.proofs.Newlines.{newlines, newlines_append, ticks-count}
use Rattle.history_archived.proofs.Restarts.{good_fed, goes_on}

-- what stands at the front of an output after lines
pub fed_front : {S : Type 0} (p : Program S) (s s' : S) (x out out' : List ℕ) (n : ℕ) → Fed p s x out s' out' n
    → Drained p line_limit s x s' (take n out')
fed_front p s s' x out out' n f =
    let t = feed_text p line_limit (at_line_start s) x in
    let n = f.output.next ∙ zero-add (length t) in
    record { state = f.state; text = sym (front_there out t n (omega (arith, f.output.short)) f.output.bytes) }

-- ---- calls, one after the other

abbrev pub phase : ℕ → Arrays → Phase Receiver
phase setting a = running_at setting (state_at a)

abbrev pub laid : ℕ → Arrays → PhaseColumns
laid setting a = held (phase setting a) (columns_at a)

-- what a call gave, where its text is that of a program
pub record Gave (p : Program (Phase Receiver)) (setting : ℕ) (c : LinesCall) : Type 0 where
  pub text : Drained p line_limit (phase setting c.before) (used_by c) (phase setting c.after) (text_by c)
  pub times : Drained row_times line_limit (phase setting c.before) (used_by c) (phase setting c.after) (times_by c)
  pub records : Drained row_records line_limit (phase setting c.before) (used_by c) (phase setting c.after)
      (records_by c)
  pub elements : Drained line_columns line_limit (laid setting c.before) (used_by c) (laid setting c.after) []
  pub ticks : lines_by c ≡ length (feed_text line_ticks line_limit (at_line_start (phase setting c.before)) (used_by c))

pub gave : (setting : ℕ) (c : LinesCall) → TakesLines setting c → Gave (collect model_collector) setting c
gave setting c k =
    let t = k.taken refl in
    record {
      text = fed_front _ _ _ _ _ _ _ t.text;
      times = fed_front _ _ _ _ _ _ _ t.times;
      records = fed_front _ _ _ _ _ _ _ t.records;
      elements = fed_front _ _ _ _ [] [] 0 t.elements;
      ticks = t.ticks;
    }

pub gave_as : (setting format : ℕ) (c : LinesCall) → TakesAs setting format c
    → Gave (collect_in (format_of format)) setting c
gave_as setting format c k =
    let t = k.taken refl in
    record {
      text = fed_front _ _ _ _ _ _ _ t.text;
      times = fed_front _ _ _ _ _ _ _ t.times;
      records = fed_front _ _ _ _ _ _ _ t.records;
      elements = fed_front _ _ _ _ [] [] 0 t.elements;
      ticks = t.ticks;
    }

-- a state that is good stays so
pub stays_good : (p : Program (Phase Receiver)) (setting : ℕ) (c : LinesCall) → Gave p setting c
    → Good (state_at c.before)
    → Good (state_at c.after)
stays_good p setting c g =
    good_fed (record { setting = setting; view = state_at c.before })
    (record { setting = setting; view = state_at c.after }) (used_by c) g.times.state

-- what calls give from a good state on, whenever they are restarted
module _ (Is : LinesCall → Type 0) (setting : ℕ)
    (good : (c : LinesCall) → Is c → Good (state_at c.before) → Good (state_at c.after)) where
  pub chain : (p : Program (Phase Receiver)) (given : LinesCall → List ℕ)
      → ((c : LinesCall) → Is c
      → Drained p line_limit (phase setting c.before) (used_by c) (phase setting c.after) (given c))
      → (cs : List LinesCall) (a : Arrays) → Good (state_at a) → IsRun GoesOn Is a cs
      → Drained p line_limit (phase setting a) (used_in cs) (phase setting (arrays_at_end a cs)) (joined (map given cs))
  unfolding IsRun arrays_at_end joined
  chain p given one [] a g r = none p line_limit (phase setting a)
  chain p given one (c ∷ cs) a g r =
      let e = goes_on r.0 g in
      let h : Good (state_at c.before) = rw e g in
      let d = subst
      (λ (v : View). Drained p line_limit (running_at setting v) (used_by c) (phase setting c.after) (given c)) e
      (one c r.1)
      in
      both p line_limit d (chain p given one cs c.after (good c r.1 h) r.2)

-- all that a program gives for such a text
pub given_whole : (p : Program (Phase Receiver)) → Bounded p line_limit
    → {s s' : Phase Receiver} {x t : List ℕ} → Drained p line_limit s x s' t → t ++ p.end s' ≡ output_of p s x
unfolding feed_all_text feed_all joined last_text
given_whole p b {s} {s'} {x} {t} d =
    let e = in_pieces p line_limit (lit< tt) b s (x ∷ []) in
    rw (append-nil x, append-nil (feed_text p line_limit (at_line_start s) x), d.text, d.state) at e

columns-fed : {h h' : PhaseColumns} (x : List ℕ) → Drained line_columns line_limit h x h' []
    → Fed line_columns h x [] h' [] 0
columns-fed x d = record {
  state = d.state;
  output = rw d.text (record { bytes = refl; next = refl; short = omega arith });
}

-- ---- lines, counted

-- the count goes through the same states as the times
ticks-state : (x : List ℕ) (b : Position (Phase Receiver))
    → feed line_ticks line_limit b x ≡ feed row_times line_limit b x
unfolding feed
ticks-state [] b = refl
ticks-state (c ∷ x) b = ticks-state x (fed row_times line_limit b c)

ticks_of : (ls : List (List ℕ)) (s : Phase Receiver) → length (text_of line_ticks s ls) ≡ length ls
unfolding text_of
ticks_of [] s = refl
ticks_of (l ∷ ls) s = omega (arith, ticks_of ls (line_ticks.next s l))

ticks_whole : (s s' : Phase Receiver) (x t : List ℕ) → Drained row_times line_limit s x s' t
    → length (feed_text line_ticks line_limit (at_line_start s) x) ≡ length (lines_of x)
unfolding output_of
ticks_whole s s' x t d =
    let n = feed_text line_ticks line_limit (at_line_start s) x in
    let e : Drained line_ticks line_limit s x s' n =
    record { state = ticks-state x (at_line_start s) ∙ d.state; text = refl }
    in
    ap length (sym (append-nil n) ∙ given_whole line_ticks ticks_bounded e
    ∙ append-nil (text_of line_ticks s (lines_of x)))
    ∙ ticks_of (lines_of x) s

-- ---- a run of calls

module _ (Is : LinesCall → Type 0) (setting : ℕ) (p : Program (Phase Receiver))
    (one : (c : LinesCall) → Is c → Gave p setting c) where
  columns-run : (cs : List LinesCall) (a : Arrays) → IsRun ◌≡◌ Is a cs
      → Drained line_columns line_limit (laid setting a) (used_in cs) (laid setting (arrays_at_end a cs)) []
  unfolding IsRun arrays_at_end joined
  columns-run [] a r = none line_columns line_limit (laid setting a)
  columns-run (c ∷ cs) a r =
      let d = subst
      (λ (b : Arrays). Drained line_columns line_limit (laid setting b) (used_by c) (laid setting c.after) [])
      (sym r.0) (one c r.1).elements
      in
      both line_columns line_limit d (columns-run cs c.after r.2)

  lays : (a : Arrays) (cs : List LinesCall) → IsRun ◌≡◌ Is a cs → Lays setting a cs
  lays a cs r = columns-fed (used_in cs) (columns-run cs a r)

  pub counted : (cs : List LinesCall) (a : Arrays) → IsRun GoesOn Is a cs → lines_in cs ≡ newlines (used_in cs)
  unfolding IsRun lines_in joined newlines
  counted [] a r = refl
  counted (c ∷ cs) a r =
      let g = one c r.1 in
      let n = ticks-count (used_by c) (at_line_start (phase setting c.before)) in
      ap₂ ◌+◌ (g.ticks ∙ n) (counted cs c.after r.2) ∙ sym (newlines_append (used_by c) (used_in cs))

  good : (c : LinesCall) → Is c → Good (state_at c.before) → Good (state_at c.after)
  good c k = stays_good p setting c (one c k)

  module _ (a : Arrays) (cs : List LinesCall) (e : state_at a ≡ fresh) (r : IsRun GoesOn Is a cs) where
    abbrev last : Phase Receiver
    last = phase setting (arrays_at_end a cs)

    begins_good : Good (state_at a)
    begins_good = rw e good_fresh

    texts : Drained p line_limit (running_at setting fresh) (used_in cs) last (joined (map text_by cs))
    texts =
        subst (λ (v : View). Drained p line_limit (running_at setting v) (used_in cs) last (joined (map text_by cs))) e
        (chain Is setting good p text_by (λ c k. (one c k).text) cs a begins_good r)

    times : Drained row_times line_limit (phase setting a) (used_in cs) last (joined (map times_by cs))
    times = chain Is setting good row_times times_by (λ c k. (one c k).times) cs a begins_good r

    records : Drained row_records line_limit (phase setting a) (used_in cs) last (joined (map records_by cs))
    records = chain Is setting good row_records records_by (λ c k. (one c k).records) cs a begins_good r

    same_rows : rows_given (joined (map times_by cs)) (joined (map records_by cs))
        ≡ model_rows [] (lines_of (used_in cs))
    unfolding past_after_lines
    same_rows =
        let t = sym (append-nil (joined (map times_by cs))) ∙ given_whole row_times times_bounded times in
        let b = sym (append-nil (joined (map records_by cs))) ∙ given_whole row_records records_bounded records in
        ap₂ rows_given t b ∙ ap (λ (v : View). rows_said (running_at setting v) (used_in cs)) (e ∙ fresh-model)
        ∙ lines_archived setting [] (used_in cs)

    agree : FollowsModel cs
    agree = record {
      rows = same_rows;
      lines =
          counted cs a r ∙ sym (ticks-count (used_in cs) (at_line_start (phase setting a)))
          ∙ ticks_whole (phase setting a) last (used_in cs) (joined (map times_by cs)) times;
    }

-- ---- the first line

abbrev level_text : ℕ → List ℕ
level_text setting = level_line setting ++ (newline ∷ [])

first : (setting : ℕ) → setting ≤ 2
    → Drained (collect model_collector) line_limit starting (level_text setting) (running_at setting fresh) []
unfolding feed feed_text setting_of
first zero h = record { state = refl; text = refl }
first (suc zero) h = record { state = refl; text = refl }
first (suc (suc zero)) h = record { state = refl; text = refl }
first (suc (suc (suc n))) h = absurd (omega arith)

first_in_lem : (f : Format) (setting : ℕ) → setting ≤ 2
    → Drained (collect_in f) line_limit starting (level_text setting) (running_at setting fresh) (heading_in f)
unfolding feed feed_text setting_of
first_in_lem f zero h = record { state = refl; text = append-nil (heading_in f) }
first_in_lem f (suc zero) h = record { state = refl; text = append-nil (heading_in f) }
first_in_lem f (suc (suc zero)) h = record { state = refl; text = append-nil (heading_in f) }
first_in_lem f (suc (suc (suc n))) h = absurd (omega arith)

-- what is printed for it and lines behind it
level-printed : (setting : ℕ) → setting ≤ 2 → (x : List ℕ)
    → printed_of (level_text setting ++ x) ≡ printed_with (Some setting) (lines_of x)
unfolding printed_of lines_of setting_of
level-printed zero h x = refl
level-printed (suc zero) h x = refl
level-printed (suc (suc zero)) h x = refl
level-printed (suc (suc (suc n))) h x = absurd (omega arith)

level-printed_in : (f : Format) (setting : ℕ) → setting ≤ 2 → (x : List ℕ)
    → printed_in f (level_text setting ++ x) ≡ printed_with_in f (Some setting) (lines_of x)
unfolding printed_in lines_of setting_of
level-printed_in f zero h x = refl
level-printed_in f (suc zero) h x = refl
level-printed_in f (suc (suc zero)) h x = refl
level-printed_in f (suc (suc (suc n))) h x = absurd (omega arith)

-- ---- the claims

follows_text : (setting : ℕ) → setting ≤ 2 → (v : View) (x t : List ℕ)
    → Drained (collect model_collector) line_limit (running_at setting fresh) x (running_at setting v) t
    → t ++ totals_line v.totals ≡ printed_with (Some setting) (lines_of x)
unfolding last_text
follows_text setting few v x t d =
    let w = both (collect model_collector) line_limit (first setting few) d in
    sym (rw (w.text, w.state) at (printed_whole (level_text setting ++ x))) ∙ level-printed setting few x

-- by pieces, of which there is one
output-printed : (f : Format) (y : List ℕ) → output_of (collect_in f) starting y ≡ printed_in f y
unfolding joined
output-printed f y =
    rw (append-nil y) at (sym (formats_in_pieces f starting (y ∷ [])) ∙ formats_print f (y ∷ []))

follows_in : (f : Format) (setting : ℕ) → setting ≤ 2 → (v : View) (x t : List ℕ)
    → Drained (collect_in f) line_limit (running_at setting fresh) x (running_at setting v) t
    → heading_in f ++ (t ++ totals_text_in f v.totals) ≡ printed_with_in f (Some setting) (lines_of x)
follows_in f setting few v x t d =
    let w = both (collect_in f) line_limit (first_in_lem f setting few) d in
    let y = level_text setting ++ x in
    sym (append_assoc (heading_in f) t (totals_text_in f v.totals))
    ∙ given_whole (collect_in f) (format_bounded f) w ∙ output-printed f y ∙ level-printed_in f setting few x

pub calls_follow : CallsFollow
calls_follow setting a cs few e r =
    let t = texts (TakesLines setting) setting (collect model_collector) (gave setting) a cs e r in
    record {
      text = follows_text setting few (state_at (arrays_at_end a cs)) (used_in cs) (joined (map text_by cs)) t;
      agrees = agree (TakesLines setting) setting (collect model_collector) (gave setting) a cs e r;
    }

pub calls_follow_as : CallsFollowAs
calls_follow_as setting format a cs few e r =
    let f = format_of format in
    let t = texts (TakesAs setting format) setting (collect_in f) (gave_as setting format) a cs e r in
    record {
      text = follows_in f setting few (state_at (arrays_at_end a cs)) (used_in cs) (joined (map text_by cs)) t;
      agrees = agree (TakesAs setting format) setting (collect_in f) (gave_as setting format) a cs e r;
    }

pub calls_lay : CallsLay
calls_lay setting a cs r = lays (TakesLines setting) setting (collect model_collector) (gave setting) a cs r

pub calls_lay_as : CallsLayAs
calls_lay_as setting format a cs r =
    lays (TakesAs setting format) setting (collect_in (format_of format)) (gave_as setting format) a cs r
