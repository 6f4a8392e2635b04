-- A whole input, gone through piece by piece.
use mathlib.Core.Path.{◌≡◌, refl, sym, ap, ◌∙◌}
use mathlib.Core.Bool.{true}
use mathlib.Core.List.{List, [], ◌∷◌, ◌++◌, append-nil}
use Prim.Native.Nat.{ℕ, ◌+◌, ◌≤◌}
use native.Mathlib.Omega.{arith}
use lib.ListN.{length, take, drop, take-append-drop, length-append}
use lib.Seq.{take-add, take_all}
use Rattle.text_lines.specs.Reading.{line_limit}
use Rattle.text_program.specs.Chunks.{Position, in_line, at_line_start, feed, feed_text, feed_all, feed_all_text, end_text, joined}
use Rattle.text_program.specs.Collect.{Phase, starting, running, over, collect}
use Rattle.text_program.specs.Buffer.{is_unended}
use Rattle.text_program.proofs.Pieces.{feed_append, text_append}
use Rattle.text_program.proofs.Segments.{feed-kept, text-kept}
use Rattle.text_program.proofs.Ended.{stays-ended}
use Rattle.text_collect.specs.Printed.{printed_of}
use Rattle.text_collect.specs.Session.{Receiver, model_collector}
use Rattle.text_collect.proofs.Printed.{collect_prints}
use Rattle.text_print.specs.Step.{position_after, is_over}

abbrev pub place_after : List ℕ → Position (Phase Receiver)
place_after text = position_after starting text

abbrev pub text_after : List ℕ → List ℕ
text_after text = feed_text (collect model_collector) line_limit (at_line_start starting) text

-- all that is printed: what the input gives, and the end
pub printed_whole : (input : List ℕ)
    → printed_of input ≡ text_after input ++ end_text (collect model_collector) (place_after input)
unfolding feed_all_text feed_all joined
printed_whole input = sym (rw (append-nil input, append-nil (text_after input)) at (collect_prints (input ∷ [])))

-- ---- one piece more, behind what is kept of a line

module _ (x y : List ℕ) (s : Phase Receiver) (kept : List ℕ) (here : place_after x ≡ in_line s kept)
    (o : is_unended kept ≡ true) (few : length kept ≤ line_limit) where
  pub more-stands : place_after (x ++ y) ≡ position_after s (kept ++ y)
  more-stands =
      rw (feed_append (collect model_collector) line_limit x y (at_line_start starting), here)
      (sym (feed-kept (collect model_collector) line_limit kept y s o few))

  pub more-printed : text_after (x ++ y)
      ≡ text_after x ++ feed_text (collect model_collector) line_limit (at_line_start s) (kept ++ y)
  more-printed =
      rw (text_append (collect model_collector) line_limit x y (at_line_start starting), here)
      (rw (text-kept (collect model_collector) line_limit kept y s o few))

module _ (input : List ℕ) (at n : ℕ) (s : Phase Receiver)
    (kept : List ℕ) (here : place_after (take at input) ≡ in_line s kept)
    (o : is_unended kept ≡ true) (few : length kept ≤ line_limit) where
  pub then_stands : place_after (take (at + n) input) ≡ position_after s (kept ++ take n (drop at input))
  then_stands = rw (take-add at n input) (more-stands (take at input) (take n (drop at input)) s kept here o few)

  pub then_printed : text_after (take (at + n) input)
      ≡ text_after (take at input)
      ++ feed_text (collect model_collector) line_limit (at_line_start s) (kept ++ take n (drop at input))
  then_printed = rw (take-add at n input) (more-printed (take at input) (take n (drop at input)) s kept here o few)

-- ---- the end

-- nothing is left
pub at_end : (input : List ℕ) (at : ℕ) → length input ≤ at
    → printed_of input ≡ text_after (take at input) ++ end_text (collect model_collector) (place_after (take at input))
at_end input at h = rw (take_all at input h) (printed_whole input)

-- a wrong first line ended the run
is_over_lem : (s : Phase Receiver) → is_over s ≡ true → s ≡ over
is_over_lem starting e = cc
is_over_lem (running c) e = cc
is_over_lem over e = refl

module _ (input : List ℕ) (at : ℕ) where
  abbrev rest : List ℕ
  rest = drop at input

  split-printed : text_after input
      ≡ text_after (take at input) ++ feed_text (collect model_collector) line_limit (place_after (take at input)) rest
  split-printed =
      ap text_after (sym (take-append-drop at input))
      ∙ text_append (collect model_collector) line_limit (take at input) rest (at_line_start starting)

  pub at_over : is_over (place_after (take at input)).state ≡ true → printed_of input ≡ text_after (take at input)
  at_over e =
      let line = (place_after (take at input)).line in
      let q : place_after (take at input) ≡ in_line over line =
      ap (λ (s : Phase Receiver). in_line s line) (is_over_lem (place_after (take at input)).state e) in
      let ends : place_after input ≡ feed (collect model_collector) line_limit (in_line over line) rest =
      ap place_after (sym (take-append-drop at input))
      ∙ feed_append (collect model_collector) line_limit (take at input) rest (at_line_start starting)
      ∙ ap (λ (a : Position (Phase Receiver)). feed (collect model_collector) line_limit a rest) q
      in
      let none = stays-ended model_collector line rest in
      let text : text_after input ≡ text_after (take at input) =
      split-printed ∙ rw (q, none.silent) (append-nil (text_after (take at input)))
      in
      printed_whole input ∙ rw (text, ends, none.no_end) (append-nil (text_after (take at input)))

  -- no front is longer than all
  pub front_short : length (text_after (take at input)) ≤ length (printed_of input)
  front_short =
      let x = ap length (printed_whole input) in
      let y = ap length split-printed in
      omega (
        arith,
        x,
        y,
        length-append (text_after input) (end_text (collect model_collector) (place_after input)),
        length-append (text_after (take at input))
            (feed_text (collect model_collector) line_limit (place_after (take at input)) rest),
      )
