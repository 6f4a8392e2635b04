use Rattle.std.specs.Prelude.{Option, Some, None}
-- What a text gives in parts: whole lines first, a last line without a newline, the first line of a log.
--     out-more, out-last            a program over whole lines and what is behind them; over a last line
--     said_more, said-last, no_more the same of the rows
--     closed-more, closed-last, none-closes  and of what closes
--     all-used                      a line with its newline is taken whole
--     first_out, none_out           a program over a log behind its first line; over one that has no right first line
--     first_said, none_said         the same of the rows
--     first-closed, none-closed     and of what closes
use mathlib.Core.Path.{◌≡◌, refl, sym, ap, ap₂, ◌∙◌}
use mathlib.Core.Bool.{Bool, true, false, cond}
use mathlib.Core.List.{List, [], ◌∷◌, ◌++◌, append_assoc, append-nil}
use Prim.Native.Nat.{ℕ, ◌+◌, ◌*◌, ◌≤◌, ◌<◌}
use native.Mathlib.Omega.{arith}
use lib.Dec.{lit<, eqb, ltb, leb}
use lib.ListN.{length, take, drop, length-take, length-append, take-append-drop}
use lib.Seq.{take-nil, take-append-le, length-take-le}
use borrow.Author.Tests.{leb-true, leb-false, ltb-true, ltb-false}
use Rattle.base_bytes.specs.Bytes.{index_of}
use Rattle.base_lists.specs.Lists.{equal, up_from}
use Rattle.base_lists.proofs.Tests.{branch, by_test}
use Rattle.collector_model.specs.View.{fresh}
use Rattle.collector_closings.specs.Cells.{entry_cells}
use Rattle.text_lines.specs.Ascii.{newline}
use Rattle.text_lines.specs.Reading.{level_line, setting_of, line_limit}
use Rattle.text_program.specs.Lines.{Program, lines_of, state_after, text_of, output_of}
use Rattle.text_program.specs.Chunks.{
  Position,
  Bounded,
  at_line_start,
  feed,
  feed_text,
  feed_all,
  feed_all_text,
  last_text,
  end_text,
  joined,
}
use Rattle.text_program.specs.Collect.{Phase, starting, over, after_first}
use Rattle.text_program.specs.Buffer.{is_unended}
use Rattle.text_program.proofs.Pieces.{in_pieces, feed_append, text_append}
use Rattle.text_program.proofs.Segments.{
  Drained,
  none,
  more,
  left,
  feed_open,
  open_front,
  open_before,
  open_whole,
  up_to_newline,
}
use Rattle.archive_fill.specs.Fill.{row_length, rows_given}
use Rattle.text_collect.specs.Session.{Receiver, model_collector, running_at}
use Rattle.text_collect.specs.Rows.{row_times, row_records}
use Rattle.text_collect.specs.Heard.{line_closings}
use Rattle.text_collect.proofs.Storing.{times_bounded, records_bounded}
use Rattle.text_collect.proofs.Turns.{closings_bounded}
use Rattle.c_lines.specs.Calls.{level_number, first_number, first_used}
use Rattle.history_archived.specs.Archived.{archived_of}
use Rattle.history_archived.specs.Closed.{closed_of}
use Rattle.history_archived.specs.Claims.{rows_said}
use Rattle.history_archived.proofs.Given.{given_append}
use Rattle.history_archived.proofs.Archived.{over_silent, log_archived}
use Rattle.history_archived.proofs.Closed.{log_closed}
use Rattle.history_log.specs.Private.{cells_given, cells_said}

-- ---- a program over a text in parts

module _ (p : Program (Phase Receiver)) (b : Bounded p line_limit) where
  all_given : (s : Phase Receiver) (x : List ℕ) → feed_text p line_limit (at_line_start s) x ++ end_text p
      (feed p line_limit (at_line_start s) x) ≡ output_of p s x
  unfolding feed_all_text feed_all joined
  all_given s x = rw (append-nil x, append-nil (feed_text p line_limit (at_line_start s) x)) at
      (in_pieces p line_limit (lit< tt) b s (x ∷ []))

  pub out-more : {s s' : Phase Receiver} {x t : List ℕ} (y : List ℕ) → Drained p line_limit s x s' t
      → output_of p s (x ++ y) ≡ t ++ output_of p s' y
  out-more {s} {s'} {x} {t} y d =
      let f = feed_text p line_limit (at_line_start s') y in
      sym (all_given s (x ++ y))
      ∙ rw (
        text_append p line_limit x y (at_line_start s),
        feed_append p line_limit x y
            (at_line_start s),
        d.state,
        d.text,
      )
      (append_assoc t f (end_text p (feed p line_limit (at_line_start s') y)))
      ∙ ap (λ (l : List ℕ). t ++ l) (all_given s' y)

  pub out_none : (s : Phase Receiver) → output_of p s [] ≡ p.end s
  unfolding output_of text_of state_after lines_of
  out_none s = refl

  -- a text without a newline is a last line
  pub out_open : (s : Phase Receiver) (y : List ℕ) → is_unended y ≡ true
      → output_of p s y ≡ last_text p s (take line_limit y)
  out_open s y o =
      let l = left p line_limit (none p line_limit s) y o in
      sym (all_given s y) ∙ rw (l.0, l.1)

  pub last_full : (s : Phase Receiver) (l : List ℕ) → 0 < length l
      → last_text p s l ≡ p.text s l ++ p.end (p.next s l)
  unfolding last_text
  last_full s [] h = absurd (omega arith)
  last_full s (c ∷ l) h = refl

  -- and gives what it gives with a newline
  pub out_last : (s : Phase Receiver) (y : List ℕ) → is_unended y ≡ true → 0 < length y
      → output_of p s y ≡ output_of p s (take line_limit y ++ (newline ∷ []))
  out_last s y o some =
      let l = take line_limit y in
      let d = more p line_limit b (none p line_limit s) l (open_front line_limit y o) in
      let e = out-more [] d ∙ ap (λ (r : List ℕ). p.text s l ++ r) (out_none (p.next s l)) in
      let f = rw (append-nil (l ++ (newline ∷ []))) at e in
      out_open s y o ∙ last_full s l (omega (arith, length-take line_limit y)) ∙ sym f

-- ---- rows

module _ {s s' : Phase Receiver} {x t r : List ℕ} where
  pub said_more : (y : List ℕ) → Drained row_times line_limit s x s' t → Drained row_records line_limit s x s' r
      → length r ≡ row_length * length t
      → rows_said s (x ++ y) ≡ rows_given t r ++ rows_said s' y
  said_more y d e sized =
      ap₂ rows_given (out-more row_times times_bounded y d) (out-more row_records records_bounded y e)
      ∙ given_append t r (output_of row_times s' y) (output_of row_records s' y) sized

pub said_last : (s : Phase Receiver) (y : List ℕ) → is_unended y ≡ true → 0 < length y
    → rows_said s y ≡ rows_said s (take line_limit y ++ (newline ∷ []))
said_last s y o some = ap₂ rows_given (out_last row_times times_bounded s y o some)
    (out_last row_records records_bounded s y o some)

pub no_more : (s : Phase Receiver) → rows_said s [] ≡ []
unfolding rows_given up_from
no_more s = ap₂ rows_given (out_none row_times times_bounded s) (out_none row_records records_bounded s)

-- ---- what closes

pub closed-more : (s s' : Phase Receiver) (x y : List ℕ)
    → feed (line_closings true) line_limit (at_line_start s) x ≡ at_line_start s'
    → cells_said s (x ++ y) ≡ cells_given s x ++ cells_said s' y
closed-more s s' x y e = out-more (line_closings true) (closings_bounded true) y (record { state = e; text = refl })

pub closed_last : (s : Phase Receiver) (y : List ℕ) → is_unended y ≡ true → 0 < length y
    → cells_said s y ≡ cells_said s (take line_limit y ++ (newline ∷ []))
closed_last s y o some = out_last (line_closings true) (closings_bounded true) s y o some

pub none_closes : (s : Phase Receiver) → cells_said s [] ≡ []
none_closes s = out_none (line_closings true) (closings_bounded true) s

-- ---- a line with its newline

not_open : (l : List ℕ) → is_unended (l ++ (newline ∷ [])) ≡ false
unfolding is_unended
not_open [] = refl
not_open (c ∷ l) = go (eqb c newline) (not_open l)
  where
    go : (t : Bool) → is_unended (l ++ (newline ∷ [])) ≡ false → cond t false (is_unended (l ++ (newline ∷ []))) ≡ false
    go true e = refl
    go false e = e

module _ (p : Program (Phase Receiver)) (s s' : Phase Receiver) where
  part_is_none : (l : List ℕ) → is_unended l ≡ true → feed p line_limit (at_line_start s) l ≡ at_line_start s'
      → length l ≡ 0
  part_is_none l o e =
      let f = rw (take-nil {A = ℕ} line_limit) at (feed_open p line_limit l [] s o) in
      let k : take line_limit l ≡ [] = ap (λ (a : Position (Phase Receiver)). a.line) (sym f ∙ e) in
      let n = ap length k in
      omega (arith, length-take line_limit l)

  pub all_used : (l : List ℕ) (used : ℕ) → is_unended l ≡ true → used ≤ length (l ++ (newline ∷ []))
      → feed p line_limit (at_line_start s) (take used (l ++ (newline ∷ []))) ≡ at_line_start s'
      → (used ≡ 0 → is_unended (l ++ (newline ∷ [])) ≡ true)
      → used ≡ length (l ++ (newline ∷ []))
  all_used l used o within d rest = go (leb used (length l)) refl
    where
      go : (t : Bool) → leb used (length l) ≡ t → used ≡ length (l ++ (newline ∷ []))
      go true e =
          let h = leb-true used (length l) e in
          let n = part_is_none (take used l) (open_front used l o) (rw (take-append-le used l (newline ∷ []) h) at d) in
          let u : used ≡ 0 = omega (arith, length-take-le used l h) in
          let z : ◌≡◌ {A = Bool} true false = sym (rest u) ∙ not_open l in
          let y : ◌≡◌ {A = ℕ} 0 1 = cc in
          absurd (omega arith)
      go false e = let h = leb-false used (length l) e in omega (arith, within, length-append l (newline ∷ []))

-- ---- the first line of a log

pub level_few : (l : List ℕ) (n : ℕ) → setting_of l ≡ Some n → n ≤ 2
unfolding setting_of
level_few l n =
    branch (λ (x : (Option ℕ)). x ≡ Some n → n ≤ 2) (equal l (level_line 0))
    (λ _ e. let z : n ≡ 0 = cc in omega arith)
    λ _. branch (λ (x : (Option ℕ)). x ≡ Some n → n ≤ 2) (equal l (level_line 1))
    (λ _ e. let z : n ≡ 1 = cc in omega arith)
    λ _. branch (λ (x : (Option ℕ)). x ≡ Some n → n ≤ 2) (equal l (level_line 2))
    (λ _ e. let z : n ≡ 2 = cc in omega arith)
    λ _ e. let z : ◌≡◌ {A = ℕ} 0 1 = cc in absurd (omega arith)

pub first_level : (x : (Option ℕ)) (setting : ℕ) → setting ≡ level_number x → setting ≤ 2 → x ≡ Some setting
first_level (Some n) setting e h = ap Some (sym e)
first_level None setting e h = absurd (omega arith)

module _ (log : List ℕ) where
  abbrev end : ℕ
  end = index_of newline log

  abbrev line : List ℕ
  line = take end log

  pub first_within : first_used log ≤ length log
  first_within =
      by_test (ltb end (length log))
      (λ t. rw t (omega (arith, ltb-true end (length log) t)))
      (λ f. rw f (omega arith))

  -- a line ends in which a program is silent, and the rest is taken from where it leads
  pub behind_line : (p : Program (Phase Receiver)) → Bounded p line_limit → (s s' : Phase Receiver)
      → p.text s line ≡ [] → p.next s line ≡ s' → end < length log
      → output_of p s log ≡ output_of p s' (drop (end + 1) log)
  behind_line p b s s' silent steps h =
      let d = more p line_limit b (none p line_limit s) line (open_before log) in
      let up = up_to_newline log 0 end refl h in
      let n : 0 + end + 1 ≡ end + 1 = omega arith in
      let x : take (end + 1) log ≡ line ++ (newline ∷ []) = rw n at up in
      let split = sym (take-append-drop (end + 1) log) ∙ ap (λ (l : List ℕ). l ++ drop (end + 1) log) x in
      ap (output_of p s) split ∙ out-more p b (drop (end + 1) log) d
      ∙ ap₂ (λ (t : List ℕ) (q : Phase Receiver). t ++ output_of p q (drop (end + 1) log)) silent steps

  -- a program that is silent in the first line
  module _ (p : Program (Phase Receiver)) (b : Bounded p line_limit)
      (steps : (l : List ℕ) → p.next starting l ≡ after_first model_collector (setting_of l))
      (silent : (l : List ℕ) → p.text starting l ≡ []) where
    behind : end < length log
        → output_of p starting log ≡ output_of p (after_first model_collector (setting_of line)) (drop (end + 1) log)
    behind h = behind_line p b starting (after_first model_collector (setting_of line)) (silent line) (steps line) h

    pub first_out : (setting : ℕ) → setting ≡ first_number log → setting ≤ 2
        → output_of p starting log ≡ output_of p (running_at setting fresh) (drop (first_used log) log)
    first_out setting e h =
        by_test (ltb end (length log))
        (λ t.
        let l = first_level (setting_of line) setting (rw t at e) h in
        rw t (behind (ltb-true end (length log) t) ∙ rw l))
        (λ f. absurd (let q : setting ≡ 4 = rw f at e in omega arith))

    pub none_out : (x : List ℕ) → ((y : List ℕ) → output_of p over y ≡ x)
        → ((l : List ℕ) → last_text p starting l ≡ x)
        → 2 < first_number log → output_of p starting log ≡ x
    none_out x ended alone h =
        by_test (ltb end (length log))
        (λ t. behind (ltb-true end (length log) t) ∙ go (setting_of line) refl (rw t at h))
        (λ f. out_open p b starting log (open_whole log (ltb-false end (length log) f)) ∙ alone (take line_limit log))
      where
        go : (s : (Option ℕ)) → setting_of line ≡ s → 2 < level_number s
            → output_of p (after_first model_collector s) (drop (end + 1) log) ≡ x
        go (Some n) e k = absurd (omega (arith, level_few line n e))
        go None e k = ended (drop (end + 1) log)

  -- a program that gives nothing outside a run
  module _ (p : Program (Phase Receiver)) (b : Bounded p line_limit)
      (steps : (l : List ℕ) → p.next starting l ≡ after_first model_collector (setting_of l))
      (silent : (l : List ℕ) → p.text starting l ≡ []) (stays : (l : List ℕ) → p.next over l ≡ over)
      (ended : (l : List ℕ) → p.text over l ≡ []) (quiet : (s : Phase Receiver) → p.end s ≡ []) where
    alone : (l : List ℕ) → last_text p starting l ≡ []
    unfolding last_text
    alone [] = quiet starting
    alone (c ∷ l) = rw (silent (c ∷ l), quiet (p.next starting (c ∷ l)))

    out_over : (y : List ℕ) → output_of p over y ≡ []
    unfolding output_of
    out_over y = rw (over_silent p ended stays (lines_of y), quiet (state_after p over (lines_of y)))

    nothing-out : 2 < first_number log → output_of p starting log ≡ []
    nothing-out h = none_out p b steps silent [] out_over alone h

  pub first_said : (setting : ℕ) → setting ≡ first_number log → setting ≤ 2
      → archived_of log ≡ rows_said (running_at setting fresh) (drop (first_used log) log)
  first_said setting e h =
      sym (log_archived log)
      ∙ ap₂ rows_given (first_out row_times times_bounded (λ l. refl) (λ l. refl) setting e h)
      (first_out row_records records_bounded (λ l. refl) (λ l. refl) setting e h)

  pub none_said : 2 < first_number log → archived_of log ≡ []
  unfolding rows_given up_from
  none_said h =
      let t = nothing-out row_times times_bounded (λ l. refl) (λ l. refl) (λ l. refl) (λ l. refl) (λ s. refl) h in
      let r = nothing-out row_records records_bounded (λ l. refl) (λ l. refl) (λ l. refl) (λ l. refl) (λ s. refl) h in
      sym (log_archived log) ∙ ap₂ rows_given t r

  pub first_closed : (setting : ℕ) → setting ≡ first_number log → setting ≤ 2
      → entry_cells (closed_of log) ≡ cells_said (running_at setting fresh) (drop (first_used log) log)
  first_closed setting e h =
      sym (log_closed log)
      ∙ first_out (line_closings true) (closings_bounded true) (λ l. refl) (λ l. refl) setting e h

  pub none_closed : 2 < first_number log → entry_cells (closed_of log) ≡ []
  none_closed h =
      sym (log_closed log)
      ∙ nothing-out (line_closings true) (closings_bounded true) (λ l. refl) (λ l. refl) (λ l. refl) (λ l. refl)
      (λ s. refl) h
