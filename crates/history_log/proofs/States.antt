use Rattle.std.specs.Prelude.{Option, Some, None}
-- Where a text leads: the state after whole lines, after a last line, and after a whole log.
--     state-more, state-last, state-none     the image behind whole lines; behind a last line; where nothing is left
--     state-whole                            a log: the reference model's collector
--     first-state, none-state                behind the first line of a log; where that is not right
use Prim.Native.Nat.{ℕ, ◌≤◌, ◌<◌}
use mathlib.Core.Path.{◌≡◌, refl, ap, ◌∙◌}
use mathlib.Core.Bool.{Bool, true, false, cond}
use mathlib.Core.List.{List, [], ◌∷◌, ◌++◌}
use lib.Dec.{eqb}
use lib.ListN.{length, take, drop}
use Rattle.collector_model.specs.View.{View, fresh}
use Rattle.collector_model.specs.Image.{image_of}
use Rattle.collector_model.specs.Reference.{log_of, model_view}
use Rattle.collector_model.proofs.Invariant.{Good, good_fresh}
use Rattle.collector_model.proofs.Theorem.{fresh-model}
use Rattle.text_lines.specs.Ascii.{newline}
use Rattle.text_lines.specs.Reading.{Reading, reception, bad, setting_of, line_reading, line_limit}
use Rattle.text_program.specs.Lines.{lines_of, state_after, text_of, output_of}
use Rattle.text_program.specs.Chunks.{Position, Bounded, at_line_start, fed, feed, feed_text, last_text}
use Rattle.text_program.specs.Collect.{Phase, starting, running, over, after_first, after_line}
use Rattle.text_program.specs.Buffer.{is_unended}
use Rattle.text_program.proofs.Segments.{Drained}
use Rattle.text_collect.specs.Session.{Receiver, model_collector, running_at}
use Rattle.text_collect.specs.Rows.{row_times}
use Rattle.text_collect.proofs.Storing.{times_bounded}
use Rattle.journal_model.specs.Rows.{view_after, view_after_lines}
use Rattle.journal_model.proofs.Rows.{took_all}
use Rattle.c_lines.specs.Calls.{first_number, first_used}
use Rattle.history_log.specs.Keep.{past_with, past_for, state_after_log}
use Rattle.history_log.specs.Private.{image_at, states}
use Rattle.history_log.proofs.Said.{out-more, out_none, out_last, first_out, none_out}

-- ---- parts of a text

pub states_bounded : Bounded states line_limit
states_bounded = record { next = λ s l. times_bounded.next s l; text = λ s l. refl }

feed-states : (x : List ℕ) (a : Position (Phase Receiver)) → feed states line_limit a x ≡ feed row_times line_limit a x
unfolding feed
feed-states [] a = refl
feed-states (c ∷ x) a = feed-states x (fed row_times line_limit a c)

text-states : (x : List ℕ) (a : Position (Phase Receiver)) → feed_text states line_limit a x ≡ []
unfolding feed_text
text-states [] a = refl
text-states (c ∷ x) a = go (eqb c newline) (text-states x (fed states line_limit a c))
  where
    go : (t : Bool) {l : List ℕ} → l ≡ [] → cond {A = List ℕ} t [] [] ++ l ≡ []
    go true e = e
    go false e = e

pub state-more : (s s' : Phase Receiver) (x y : List ℕ)
    → feed row_times line_limit (at_line_start s) x ≡ at_line_start s'
    → output_of states s (x ++ y) ≡ output_of states s' y
state-more s s' x y e =
    let d : Drained states line_limit s x s' [] =
    record { state = feed-states x (at_line_start s) ∙ e; text = text-states x (at_line_start s) } in
    out-more states states_bounded y d

pub state_last : (s : Phase Receiver) (y : List ℕ) → is_unended y ≡ true → 0 < length y
    → output_of states s y ≡ output_of states s (take line_limit y ++ (newline ∷ []))
state_last s y o some = out_last states states_bounded s y o some

pub state_none : (s : Phase Receiver) → output_of states s [] ≡ image_at s
state_none s = out_none states states_bounded s

-- ---- lines

pub no_text : (ls : List (List ℕ)) (s : Phase Receiver) → text_of states s ls ≡ []
unfolding text_of
no_text [] s = refl
no_text (l ∷ ls) s = no_text ls (states.next s l)

over_after : (ls : List (List ℕ)) → state_after states over ls ≡ over
unfolding state_after
over_after [] = refl
over_after (l ∷ ls) = over_after ls

running_after : (setting : ℕ) (ls : List (List ℕ)) (v : View)
    → state_after states (running_at setting v) ls ≡ running_at setting (view_after_lines v ls)
unfolding state_after view_after_lines
running_after setting [] v = refl
running_after setting (l ∷ ls) v = go (line_reading l) (λ w. running_after setting ls w)
  where
    go : (a : Reading)
        → ((w : View) → state_after states (running_at setting w) ls ≡ running_at setting (view_after_lines w ls))
        → state_after states (running (after_line model_collector (record { setting = setting; view = v }) a)) ls
        ≡ running_at setting (view_after_lines (view_after v a) ls)
    go (reception t bs) ih = ih (view_after v (reception t bs))
    go bad ih = ih v

good_start : Good (model_view (log_of []))
good_start = rw fresh-model at good_fresh

pub first_after : (x : (Option ℕ)) (ls : List (List ℕ))
    → image_at (state_after states (after_first model_collector x) ls) ≡ image_of (model_view (log_of (past_with x ls)))
first_after (Some n) ls =
    ap image_at (running_after n ls fresh) ∙ ap (λ (v : View). image_of (view_after_lines v ls)) fresh-model
    ∙ ap image_of (took_all ls [] good_start).view
first_after None ls = ap image_at (over_after ls) ∙ ap image_of fresh-model

lines_after : (ls : List (List ℕ)) → image_at (state_after states starting ls)
    ≡ image_of (model_view (log_of (past_for ls)))
unfolding state_after
lines_after [] = ap image_of fresh-model
lines_after (l ∷ ls) = first_after (setting_of l) ls

pub state_whole : (log : List ℕ) → output_of states starting log ≡ image_of (state_after_log log)
unfolding output_of state_after_log
state_whole log = rw (no_text (lines_of log) starting) (lines_after (lines_of log))

-- ---- the first line of a log

over_state : (y : List ℕ) → output_of states over y ≡ image_of fresh
unfolding output_of
over_state y = rw (no_text (lines_of y) over, over_after (lines_of y))

module _ (log : List ℕ) where
  pub first_state : (setting : ℕ) → setting ≡ first_number log → setting ≤ 2
      → output_of states starting log ≡ output_of states (running_at setting fresh) (drop (first_used log) log)
  first_state setting e h = first_out log states states_bounded (λ l. refl) (λ l. refl) setting e h

  alone : (l : List ℕ) → last_text states starting l ≡ image_of fresh
  unfolding last_text
  alone [] = refl
  alone (c ∷ l) = go (setting_of (c ∷ l))
    where
      go : (x : (Option ℕ)) → image_at (after_first model_collector x) ≡ image_of fresh
      go (Some n) = refl
      go None = refl

  pub none_state : 2 < first_number log → output_of states starting log ≡ image_of fresh
  none_state h = none_out log states states_bounded (λ l. refl) (λ l. refl) (image_of fresh) over_state alone h
