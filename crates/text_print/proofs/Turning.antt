-- One turn through an input: a piece is put behind what is kept, a step is made, and what it gives is written.
use Rattle.std.specs.Prelude.{Ok, Err}
use Rattle.base_refusal.specs.declared.Refusal.TheVariants.{ShortOutput}
use mathlib.Core.Path.{◌≡◌, refl, sym, ap, ◌∙◌}
use mathlib.Core.Bool.{Bool, true, false, cond, ◌||◌, false≢true, true≢false}
use mathlib.Core.List.{List, [], ◌++◌, append_assoc, append-nil}
use Prim.Native.Nat.{ℕ, ◌+◌, ◌-◌, ◌≤◌, ◌<◌, min}
use native.Mathlib.Omega.{arith}
use native.Mathlib.Nat.{zero-add}
use lib.Dec.{eqb}
use lib.ListN.{length, take, drop, length-append, length-drop}
use lib.Seq.{sets, sets-eq, length-sets, take-append_seam, length-take-le}
use borrow.Author.Tests.{le-leb, lt-leb, eqb-true, eqb-false}
use Rattle.text_lines.specs.Reading.{line_limit}
use Rattle.base_buffers.specs.Printed.{Printed}
use Rattle.base_buffers.proofs.Stores.{then}
use Rattle.text_program.specs.Chunks.{in_line, at_line_start, feed, feed_text, end_text}
use Rattle.text_program.specs.Collect.{Phase, starting, collect}
use Rattle.text_program.specs.Buffer.{is_unended}
use Rattle.text_collect.specs.Printed.{printed_of}
use Rattle.text_collect.specs.Session.{Receiver, model_collector, phase_of}
use Rattle.text_print.specs.declared.Turn.{Turn}
use Rattle.text_print.specs.Step.{chunk, output_capacity, position_after, printed_from, is_over, SteppedOver}
use Rattle.text_print.specs.Private.{Passed}
use Rattle.text_print.proofs.Whole.{place_after, text_after, then_stands, then_printed, at_end, at_over, front_short}

-- the input up to `at` was gone through, what it gives has `to` characters and was written where it was to be, and `kept` is left of a line
pub record Passing (write : Bool) (input out₀ out : List ℕ)
    (s : Phase Receiver) (kept : List ℕ) (at to : ℕ) : Type 0 where
  pub inside : at ≤ length input
  pub stands : place_after (take at input) ≡ in_line s kept
  pub unended : is_unended kept ≡ true
  pub few : length kept ≤ line_limit
  pub count : to ≡ length (text_after (take at input))
  pub room : to ≤ length out₀
  pub text : out ≡ cond write (sets out₀ 0 (text_after (take at input))) out₀

pub begins : (write : Bool) (input out₀ : List ℕ) {s : Phase Receiver}
    → s ≡ starting → Passing write input out₀ out₀ s [] 0 0
unfolding feed feed_text is_unended
begins true input out₀ e =
    record {
      inside = omega arith;
      stands = rw e;
      unended = refl;
      few = omega arith;
      count = refl;
      room = omega arith;
      text = refl;
    }
begins false input out₀ e =
    record {
      inside = omega arith;
      stands = rw e;
      unended = refl;
      few = omega arith;
      count = refl;
      room = omega arith;
      text = refl;
    }

-- the piece stands behind what is kept
pub chunk_there : (buffer input : List ℕ) (kept at n : ℕ) {buffer' : List ℕ}
    → kept + n ≤ chunk → length buffer ≡ chunk → at + n ≤ length input
    → buffer' ≡ take kept buffer ++ (take n (drop at input) ++ drop (kept + n) buffer)
    → take (min (kept + n) chunk) buffer' ≡ take kept buffer ++ take n (drop at input)
chunk_there buffer input kept at n fits size within e =
    let k = take kept buffer in
    let x = take n (drop at input) in
    let long : length (k ++ x) ≡ kept + n =
    omega (
      arith,
      length-append k x,
      length-take-le kept buffer (omega arith),
      length-take-le n (drop at input) (omega (arith, length-drop at input)),
    ) in
    let m : min (kept + n) chunk ≡ length (k ++ x) = omega (arith, long) in
    rw (e, m, sym (append_assoc k x (drop (kept + n) buffer))) (take-append_seam (k ++ x) (drop (kept + n) buffer))

-- what a step keeps stands at the front of the buffer
pub front_there : (buffer line : List ℕ) {buffer' : List ℕ} {kept : ℕ} → kept ≡ length line
    → kept ≤ length buffer → buffer' ≡ sets buffer 0 line → take kept buffer' ≡ line
front_there buffer line e fits f =
    rw (e, f, sets-eq line buffer 0 (omega arith)) (take-append_seam line (drop (0 + length line) buffer))

pub or-false : (a b : Bool) → (a || b) ≡ false → a ≡ false
or-false true b e = absurd (true≢false e)
or-false false b e = refl

pub or-true : (a b : Bool) → (a || b) ≡ true → a ≡ false → b ≡ true
or-true true b e f = absurd (true≢false f)
or-true false b e f = e

module _ (write : Bool) (input out₀ : List ℕ) {out : List ℕ} {s : Phase Receiver}
    {kept : List ℕ} {at to : ℕ} (i : Passing write input out₀ out s kept at to) (n : ℕ)
    (size : n ≡ min (length input - at) (chunk - length kept)) {buffer text buffer' text' : List ℕ} (r : Turn)
    (k : SteppedOver s (kept ++ take n (drop at input)) buffer (eqb n 0) text buffer' text' r)
    (long : length text ≡ output_capacity) where
  abbrev taken : List ℕ
  taken = kept ++ take n (drop at input)

  abbrev given : List ℕ
  given = feed_text (collect model_collector) line_limit (at_line_start s) taken

  abbrev all : List ℕ
  all = printed_from s taken (eqb n 0)

  within : at + n ≤ length input
  within = omega (arith, size, i.inside)

  stands_then : place_after (take (at + n) input) ≡ position_after s taken
  stands_then = then_stands input at n s kept i.stands i.unended i.few

  printed_then : text_after (take (at + n) input) ≡ text_after (take at input) ++ given
  printed_then = then_printed input at n s kept i.stands i.unended i.few

  pub text-fits : r.written ≤ length text'
  text-fits = omega (arith, k.output.short, long, ap length k.output.bytes, length-sets text 0 all)

  text_front : take r.written text' ≡ all
  text_front =
      front_there text all (k.output.next ∙ zero-add (length all))
      (omega (arith, k.output.short, long)) k.output.bytes

  -- what is printed up to here: the end is printed where the input ends
  to_end : n ≡ 0
      → printed_of input
      ≡ text_after (take at input) ++ (given ++ end_text (collect model_collector) (position_after s taken))
  to_end z =
      at_end input (at + n) (omega (arith, size, i.few, i.inside))
      ∙ rw (printed_then, stands_then)
      (append_assoc (text_after (take at input)) given (end_text (collect model_collector) (position_after s taken)))

  reach : to + r.written ≤ length (printed_of input)
  reach = go (eqb n 0) refl
    where
      go : (t : Bool) → eqb n 0 ≡ t → to + r.written ≤ length (printed_of input)
      go true e =
          let w = rw e at k.output.next in
          omega (
            arith,
            w,
            i.count,
            ap length (to_end (eqb-true n 0 e)),
            length-append (text_after (take at input))
                (given ++ end_text (collect model_collector) (position_after s taken)),
          )
      go false e =
          let w = rw (e, append-nil given) at k.output.next in
          omega (
            arith,
            w,
            i.count,
            front_short input (at + n),
            ap length printed_then,
            length-append (text_after (take at input)) given,
          )

  whole : r.ended ≡ true → printed_of input ≡ text_after (take at input) ++ all
  whole d = go (eqb n 0) refl
    where
      go : (t : Bool) → eqb n 0 ≡ t → printed_of input ≡ text_after (take at input) ++ printed_from s taken t
      go true e = to_end (eqb-true n 0 e)
      go false e =
          let o = or-true (eqb n 0) (is_over (position_after s taken).state) (sym k.ended ∙ d) e in
          rw (append-nil given) (at_over input (at + n) (rw stands_then o) ∙ printed_then)

  -- what was written before, and what is not written, is as it was
  quiet_so_far : write ≡ false → out ≡ out₀
  quiet_so_far e = rw e at i.text

  pub too_short : length out₀ - to < r.written → Passed write input out₀ out (Err ShortOutput)
  too_short h = record {
    answer = rw (lt-leb (length (printed_of input)) (length out₀) (omega (arith, reach, i.room)));
    quiet = quiet_so_far;
    text = λ e f. absurd (false≢true f);
  }

  module _ {out' : List ℕ} (room : to + r.written ≤ length out₀)
      (put : out' ≡ cond write (sets out to (take r.written text')) out) where
    quiet-still : write ≡ false → out' ≡ out₀
    quiet-still e = (rw e at put) ∙ quiet_so_far e

    -- what was written before and what is written now are one text
    written_on : write ≡ true → out' ≡ sets out₀ 0 (text_after (take at input) ++ all)
    written_on e =
        let before : Printed out₀ 0 (text_after (take at input)) to out to =
        record { bytes = rw e at i.text; next = omega (arith, i.count); short = omega arith } in
        let now : Printed out to all r.written out' (to + r.written) =
        record { bytes = rw (e, text_front) at put; next = omega (arith, k.output.next); short = omega arith }
        in
        (then before now).bytes

    pub done : r.ended ≡ true → Passed write input out₀ out' (Ok (to + r.written))
    done d =
        let size-all : length (printed_of input) ≡ to + r.written =
        omega (
          arith,
          ap length (whole d),
          length-append (text_after (take at input)) all,
          i.count,
          k.output.next,
        ) in
        record {
          answer = rw (size-all, le-leb (to + r.written) (length out₀) room);
          quiet = quiet-still;
          text = λ e f. rw (whole d) (written_on e);
        }

    pub goes_on : r.ended ≡ false
        → Passing write input out₀ out' (phase_of r.session) (position_after s taken).line (at + n) (to + r.written)
    goes_on d =
        let more = or-false (eqb n 0) (is_over (position_after s taken).state) (sym k.ended ∙ d) in
        let w = rw (more, append-nil given) at k.output.next in
        record {
          inside = within;
          stands = stands_then ∙ ap (λ (x : Phase Receiver). in_line x (position_after s taken).line) (sym k.state);
          unended = k.unended;
          few = omega (arith, k.few, k.kept);
          count = omega (arith, w, i.count, ap length printed_then, length-append (text_after (take at input)) given);
          room = room;
          text = go write refl more;
        }
      where
        go : (t : Bool) → write ≡ t → eqb n 0 ≡ false
            → out' ≡ cond t (sets out₀ 0 (text_after (take (at + n) input))) out₀
        go true e f = (rw (f, append-nil given) at (written_on e)) ∙ rw printed_then
        go false e f = quiet-still e

    pub more_read : r.ended ≡ false → 0 < n
    more_read d =
        let z = eqb-false n 0 (or-false (eqb n 0) (is_over (position_after s taken).state) (sym k.ended ∙ d)) in
        omega (arith, z)
