-- The turns of a run, one after the other, write what the reference model says of all that was read.
use mathlib.Core.Path.{◌≡◌, refl, sym, ap, ◌∙◌}
use mathlib.Core.Bool.{Bool, true, false}
use mathlib.Core.List.{List, [], ◌∷◌, ◌++◌, append_assoc, append-nil}
use Prim.Native.Nat.{ℕ, ◌≤◌}
use native.Mathlib.Omega.{arith}
use native.Mathlib.Nat.{zero-add}
use lib.Dec.{eqb}
use lib.ListN.{length, take}
use lib.Seq.{take-length}
use Rattle.text_lines.specs.Reading.{line_limit}
use Rattle.text_program.specs.Chunks.{in_line, at_line_start, feed, feed_text, end_text, joined}
use Rattle.text_program.specs.Collect.{Phase, starting, collect}
use Rattle.text_program.specs.Buffer.{is_unended}
use Rattle.text_collect.specs.Printed.{printed_of}
use Rattle.text_collect.specs.Session.{Receiver, model_collector, phase_of}
use Rattle.text_print.specs.Step.{position_after, printed_from, is_over}
use Rattle.text_print.specs.Claims.{Moment, Made, IsWholeRun, read_in, written_in, RunsPrint}
use Rattle.text_print.proofs.Whole.{place_after, text_after, printed_whole, more-stands, more-printed, at_over}
use Rattle.text_print.proofs.Turning.{front_there, or-false, or-true}

module _ (x : List ℕ) (s : Phase Receiver) (kept : List ℕ) (here : place_after x ≡ in_line s kept)
    (o : is_unended kept ≡ true) (few : length kept ≤ line_limit) (m : Moment)
    (k : Made s kept m) where
  abbrev y : List ℕ
  y = m.piece

  abbrev given : List ℕ
  given = feed_text (collect model_collector) line_limit (at_line_start s) (kept ++ y)

  wrote : take m.turn.written m.out' ≡ printed_from s (kept ++ y) (eqb (length y) 0)
  wrote =
      let p = k.step.output in
      front_there m.out (printed_from s (kept ++ y) (eqb (length y) 0))
      (p.next ∙ zero-add _) (omega (arith, p.short, k.out_long)) p.bytes

  stands : place_after (x ++ y) ≡ position_after s (kept ++ y)
  stands = more-stands x y s kept here o few

  printed : text_after (x ++ y) ≡ text_after x ++ given
  printed = more-printed x y s kept here o few

  -- the last turn
  ends : m.turn.ended ≡ true → text_after x ++ take m.turn.written m.out' ≡ printed_of (x ++ y)
  ends d = rw wrote (go (eqb (length y) 0) refl)
    where
      go : (t : Bool) → eqb (length y) 0 ≡ t → text_after x ++ printed_from s (kept ++ y) t ≡ printed_of (x ++ y)
      go true e =
          sym (printed_whole (x ++ y)
          ∙ rw (printed, stands)
          (append_assoc (text_after x) given (end_text (collect model_collector) (position_after s (kept ++ y)))))
      go false e =
          let over =
          or-true (eqb (length y) 0) (is_over (position_after s (kept ++ y)).state) (sym k.step.ended ∙ d) e in
          let all = take-length (x ++ y) in
          let q = rw all at (at_over (x ++ y) (length (x ++ y)) (rw (all, stands) over)) in
          rw (append-nil given) (sym (q ∙ printed))

  -- a turn before it
  module _ (d : m.turn.ended ≡ false) where
    not_last : eqb (length y) 0 ≡ false
    not_last = or-false (eqb (length y) 0) (is_over (position_after s (kept ++ y)).state) (sym k.step.ended ∙ d)

    goes_on : text_after x ++ take m.turn.written m.out' ≡ text_after (x ++ y)
    goes_on = rw (wrote, not_last, append-nil given) (sym printed)

    kept_then : take m.turn.kept m.buffer' ≡ (position_after s (kept ++ y)).line
    kept_then =
        front_there m.buffer (position_after s (kept ++ y)).line k.step.kept
        (omega (arith, k.step.few, k.buffer_long)) k.step.line

    stands_then : place_after (x ++ y) ≡ in_line (phase_of m.turn.session) (take m.turn.kept m.buffer')
    stands_then = rw (kept_then, k.step.state) stands

    unended_then : is_unended (take m.turn.kept m.buffer') ≡ true
    unended_then = rw kept_then k.step.unended

    few_then : length (take m.turn.kept m.buffer') ≤ line_limit
    few_then = rw kept_then (omega (arith, k.step.kept, k.step.few))

from_here : (ms : List Moment) (x : List ℕ) (s : Phase Receiver) (kept : List ℕ)
    → place_after x ≡ in_line s kept → is_unended kept ≡ true → length kept ≤ line_limit → IsWholeRun s kept ms
    → text_after x ++ written_in ms ≡ printed_of (x ++ read_in ms)
unfolding IsWholeRun joined
from_here [] x s kept here o few r = absurd r
from_here (m ∷ []) x s kept here o few r =
    rw (append-nil m.piece, append-nil (take m.turn.written m.out'))
    (ends x s kept here o few m r.0 r.1)
from_here (m ∷ n ∷ ms) x s kept here o few r =
    let k = r.0 in
    let d = r.1 in
    let rest =
    from_here (n ∷ ms) (x ++ m.piece) (phase_of m.turn.session)
    (take m.turn.kept m.buffer') (stands_then x s kept here o few m k d)
    (unended_then x s kept here o few m k d) (few_then x s kept here o few m k d) r.2
    in
    sym (append_assoc (text_after x) (take m.turn.written m.out') (written_in (n ∷ ms)))
    ∙ ap (λ (t : List ℕ). t ++ written_in (n ∷ ms)) (goes_on x s kept here o few m k d)
    ∙ rest ∙ ap printed_of (append_assoc x m.piece (read_in (n ∷ ms)))

pub runs_print : RunsPrint
unfolding feed feed_text is_unended
runs_print ms r = from_here ms [] starting [] refl refl (omega arith) r
