-- A text taken turn by turn: what was said so far stands in the archive and among the closings, and what is left says
-- the rest.
use Prim.Native.Nat.{ℕ, ◌+◌, ◌*◌, ◌≤◌, ◌<◌}
use native.Mathlib.Omega.{arith}
use mathlib.Core.Path.{◌≡◌, refl, sym, ap, ◌∙◌}
use mathlib.Core.Bool.{Bool, true, false, ◌&&◌, false≢true}
use mathlib.Core.List.{List, [], ◌∷◌, ◌++◌, append_assoc, append-nil}
use lib.Dec.{leb}
use lib.ListN.{length, take, drop, length-append, length-drop, take-append-drop, drop_of_length-le}
use lib.Seq.{sets, drop-drop}
use borrow.Author.Tests.{le-leb, lt-leb, leb-true, leb-false}
use Rattle.base_lists.specs.Lists.{all}
use Rattle.base_lists.proofs.Choice.{both}
use Rattle.base_lists.proofs.Tests.{all_parts, and-true, by_test}
use Rattle.base_buffers.proofs.Stores.{then}
use Rattle.block_layout.specs.Cell.{cell_length}
use Rattle.collector_model.specs.Exact.{Fits}
use Rattle.collector_model.specs.Image.{image_of}
use Rattle.collector_model.proofs.Invariant.{Good, good_acceptable, good_of}
use Rattle.text_lines.specs.Ascii.{newline}
use Rattle.text_lines.specs.Reading.{line_limit}
use Rattle.text_program.specs.Buffer.{is_unended}
use Rattle.text_program.specs.Lines.{output_of}
use Rattle.text_program.specs.Collect.{Phase}
use Rattle.text_program.proofs.Segments.{Drained, open_front}
use Rattle.archive_model.specs.Row.{Row}
use Rattle.archive_model.specs.Buffer.{rows_in}
use Rattle.archive_model.specs.Claims.{is_fit}
use Rattle.archive_fill.specs.Fill.{row_length, rows_given}
use Rattle.archive_fill.proofs.Records.{rows-count}
use Rattle.text_collect.specs.Session.{Receiver}
use Rattle.text_collect.specs.Rows.{row_times, row_records}
use Rattle.history_archived.specs.Claims.{rows_said}
use Rattle.history_archived.proofs.Restarts.{good_fed}
use Rattle.c_collector.specs.State.{Arrays, state_at}
use Rattle.history_log.specs.declared.Pass.{Pass}
use Rattle.history_log.specs.declared.Turn.{Turn}
use Rattle.history_log.specs.Keep.{capacity_of}
use Rattle.history_log.specs.Private.{
  Holds,
  put_in,
  Grown,
  Outputs,
  outputs,
  OutputsFit,
  have_room,
  phase_at,
  times_given,
  records_given,
  cells_given,
  cells_said,
  Ready,
  Turned,
  TextPassed,
  states,
  Went,
}
use Rattle.history_log.proofs.Said.{
  said_more,
  said_last,
  no_more,
  closed-more,
  closed_last,
  none_closes,
  all_used,
}
use Rattle.history_log.proofs.States.{state-more, state_last, state_none}
use Rattle.history_log.proofs.Growing.{put-grown}

-- ---- room

less_room : (a a' b c c' d : ℕ) → leb a b && leb c d ≡ false → a ≤ a' → c ≤ c' → leb a' b && leb c' d ≡ false
less_room a a' b c c' d e h k =
    by_test (leb a b)
    (λ t.
    let f : leb c d ≡ false = rw t at e in
    let z = lt-leb c' d (omega (arith, leb-false c d f)) in
    rw z (never (leb a' b)))
    (λ f. rw (lt-leb a' b (omega (arith, leb-false a b f))))
  where
    never : (x : Bool) → x && false ≡ false
    never true = refl
    never false = refl

pub roomy : (o : Outputs) (rows cells : ℕ) → have_room o rows cells ≡ true
    → (o.rows + rows ≤ capacity_of (length o.archive)) × (cell_length * o.closings + cells ≤ length o.heard)
roomy o rows cells e =
    let cap = capacity_of (length o.archive) in
    let at = cell_length * o.closings in
    let w = both (leb (o.rows + rows) cap) (leb (at + cells) (length o.heard)) e in
    (leb-true (o.rows + rows) cap w.0, leb-true (at + cells) (length o.heard) w.1)

-- ---- closings behind closings

joined : (a b l : List ℕ) (i j : ℕ) → j ≡ i + length a → sets (sets l i a) j b ≡ sets l i (a ++ b)
joined a b l i j e =
    (then {out = l} {a = a} {b = b} {at = i} {m = length a} {n = length b}
    (record { bytes = refl; next = e; short = omega arith })
    (record { bytes = refl; next = refl; short = omega arith })).bytes

-- ---- on the way

-- of a text that is taken from s₀ on, the first `at` characters were taken, and what they say stands in the outputs
pub record Going (write : Bool) (s₀ : Phase Receiver) (input : List ℕ) (o₀ : Outputs) (s : Phase Receiver) (at : ℕ)
    (o : Outputs) : Type 0 where
  pub inside : at ≤ length input
  pub said : List Row
  pub whole : rows_said s₀ input ≡ said ++ rows_said s (drop at input)
  pub cells : List ℕ
  pub closed : cells_said s₀ input ≡ cells ++ cells_said s (drop at input)
  pub left : output_of states s₀ input ≡ output_of states s (drop at input)
  pub count : o.rows ≡ o₀.rows + length said
  pub closings : cell_length * o.closings ≡ cell_length * o₀.closings + length cells
  pub room : OutputsFit o
  pub long : length o.archive ≡ length o₀.archive
  pub same : length o.heard ≡ length o₀.heard
  pub quiet : write ≡ false → o.archive ≡ o₀.archive
  pub still : write ≡ false → o.heard ≡ o₀.heard
  pub grown : write ≡ true → Grown o₀.archive said o.archive
  pub heard : write ≡ true → o.heard ≡ sets o₀.heard (cell_length * o₀.closings) cells

pub begins : {write : Bool} {s : Arrays} {setting : ℕ} {input : List ℕ} {o : Outputs}
    → Ready write s setting input o
    → Going write (phase_at setting s) input o (phase_at setting s) 0 o
begins {o = o} r = record {
  inside = omega arith;
  said = [];
  whole = refl;
  cells = [];
  closed = refl;
  left = refl;
  count = omega arith;
  closings = omega arith;
  room = r.callable.room;
  long = refl;
  same = refl;
  quiet = λ e. refl;
  still = λ e. refl;
  grown = λ e. record { right = (r.holds e).right; rows = sym (append-nil (rows_in o.archive)); long = refl };
  heard = λ e. refl;
}

module _ {write : Bool} {s₀ : Phase Receiver} {input : List ℕ} {o₀ : Outputs} {s : Phase Receiver} {at : ℕ}
    {o : Outputs}
    (i : Going write s₀ input o₀ s at o) where
  -- the archive now
  pub holds : (write ≡ true → Holds o₀.archive o₀.rows) → write ≡ true → Holds o.archive o.rows
  holds h e =
      let g = i.grown e in
      record {
        right = g.right;
        count = ap length g.rows ∙ length-append (rows_in o₀.archive) i.said
            ∙ omega (arith, i.count, (h e).count);
      }

  pub fit_rest : all is_fit (rows_said s₀ input) ≡ true → all is_fit (rows_said s (drop at input)) ≡ true
  fit_rest f = (all_parts is_fit i.said (rows_said s (drop at input)) (rw i.whole at f)).1

  -- nothing is left
  pub closes : drop at input ≡ [] → TextPassed write (rows_said s₀ input) (cells_said s₀ input) o₀ o.archive o.heard
      (record { fits = true; rows = o.rows; closings = o.closings })
  closes e =
      let all_said : rows_said s₀ input ≡ i.said = i.whole ∙ rw (e, no_more s) (append-nil i.said) in
      let all_closed : cells_said s₀ input ≡ i.cells = i.closed ∙ rw (e, none_closes s) (append-nil i.cells) in
      let rows_fit = le-leb (o₀.rows + length i.said) (capacity_of (length o₀.archive))
      (omega (arith, i.count, i.room.rows, i.long)) in
      let cells_fit = le-leb (cell_length * o₀.closings + length i.cells) (length o₀.heard)
      (omega (arith, i.closings, i.room.closings, i.same)) in
      rw (all_said, all_closed)
      (record {
        fits = sym (and-true rows_fit cells_fit);
        count = λ _. i.count;
        closings = λ _. i.closings;
        quiet = i.quiet;
        still = i.still;
        grown = λ w _. i.grown w;
        heard = λ w _. i.heard w;
      })

  -- the rest was gone through
  pub ends : {archive' heard' : List ℕ} (r : Pass)
      → TextPassed write (rows_said s (drop at input)) (cells_said s (drop at input)) o archive' heard' r
      → TextPassed write (rows_said s₀ input) (cells_said s₀ input) o₀ archive' heard' r
  ends {archive'} {heard'} r p =
      let rest = rows_said s (drop at input) in
      let later = cells_said s (drop at input) in
      let size : o₀.rows + length (rows_said s₀ input) ≡ o.rows + length rest = omega
      (arith, ap length i.whole, length-append i.said rest, i.count) in
      let bytes : cell_length * o₀.closings + length (cells_said s₀ input) ≡ cell_length * o.closings + length later =
      omega (arith, ap length i.closed, length-append i.cells later, i.closings) in
      record {
        fits = rw (size, bytes, ← i.long, ← i.same) p.fits;
        count = λ f. p.count f ∙ sym size;
        closings = λ f. p.closings f ∙ sym bytes;
        quiet = λ w. p.quiet w ∙ i.quiet w;
        still = λ w. p.still w ∙ i.still w;
        grown = λ w f.
            let g = p.grown w f in
            let b = i.grown w in
            record {
              right = g.right;
              rows = g.rows ∙ ap (λ (l : List Row). l ++ rest) b.rows
                  ∙ append_assoc (rows_in o₀.archive) i.said rest
                  ∙ ap (λ (l : List Row). rows_in o₀.archive ++ l) (sym i.whole);
              long = g.long ∙ b.long;
            };
        heard = λ w f.
            p.heard w f ∙ ap (λ (l : List ℕ). sets l (cell_length * o.closings) later) (i.heard w)
            ∙ joined i.cells later o₀.heard (cell_length * o₀.closings) (cell_length * o.closings) i.closings
            ∙ ap (sets o₀.heard (cell_length * o₀.closings)) (sym i.closed);
      }

-- nothing is left: the state
pub closes-state : (setting : ℕ) (s : Arrays) {write : Bool} {s₀ : Phase Receiver} {input : List ℕ} {o₀ : Outputs}
    {at : ℕ} {o : Outputs} → Going write s₀ input o₀ (phase_at setting s) at o
    → drop at input ≡ [] → output_of states s₀ input ≡ image_of (state_at s)
closes-state setting s i e = i.left ∙ rw e (state_none (phase_at setting s))

-- ---- a turn

module _ {write : Bool} {s₀ : Phase Receiver} {input : List ℕ} {o₀ : Outputs} {setting : ℕ} {s s' : Arrays}
    {archive' heard' : List ℕ} {at : ℕ} {o : Outputs}
    (i : Going write s₀ input o₀ (phase_at setting s) at o) (r : Turn)
    (t : Turned write s setting (drop at input) o s' archive' heard' r) where
  abbrev text : List ℕ
  text = take r.used (drop at input)

  abbrev given : List Row
  given = rows_given (times_given (phase_at setting s) text) (records_given (phase_at setting s) text)

  abbrev rest : List Row
  rest = rows_said (phase_at setting s') (drop (at + r.used) input)

  abbrev shut : List ℕ
  shut = cells_given (phase_at setting s) text

  abbrev later : List ℕ
  later = cells_said (phase_at setting s') (drop (at + r.used) input)

  given-count : length given ≡ r.rows
  given-count = rows-count (times_given (phase_at setting s) text) (records_given (phase_at setting s) text)
      ∙ sym t.count

  pub inside_then : at + r.used ≤ length input
  inside_then = omega (arith, t.within, length-drop at input, i.inside)

  said_then : rows_said (phase_at setting s) (drop at input) ≡ given ++ rest
  said_then =
      let d : Drained row_times line_limit (phase_at setting s) text (phase_at setting s')
      (times_given (phase_at setting s) text) = record { state = t.timed; text = refl } in
      let e : Drained row_records line_limit (phase_at setting s) text (phase_at setting s')
      (records_given (phase_at setting s) text) = record { state = t.recorded; text = refl } in
      ap (rows_said (phase_at setting s)) (sym (take-append-drop r.used (drop at input)))
      ∙ said_more (drop r.used (drop at input)) d e (t.sized ∙ ap (λ (w : ℕ). row_length * w) t.count)
      ∙ ap (λ (l : List ℕ). given ++ rows_said (phase_at setting s') l) (drop-drop r.used at input)

  whole_then : rows_said s₀ input ≡ (i.said ++ given) ++ rest
  whole_then = i.whole ∙ ap (λ (l : List Row). i.said ++ l) said_then ∙ sym (append_assoc i.said given rest)

  closed_then : cells_said s₀ input ≡ (i.cells ++ shut) ++ later
  closed_then =
      let d = drop at input in
      let now : cells_said (phase_at setting s) d ≡ shut ++ later =
      ap (cells_said (phase_at setting s)) (sym (take-append-drop r.used d))
      ∙ closed-more (phase_at setting s) (phase_at setting s') text (drop r.used d) t.closed
      ∙ ap (λ (l : List ℕ). shut ++ cells_said (phase_at setting s') l) (drop-drop r.used at input) in
      i.closed ∙ ap (λ (l : List ℕ). i.cells ++ l) now ∙ sym (append_assoc i.cells shut later)

  left_then : output_of states s₀ input ≡ output_of states (phase_at setting s') (drop (at + r.used) input)
  left_then =
      let d = drop at input in
      i.left ∙ ap (output_of states (phase_at setting s)) (sym (take-append-drop r.used d))
      ∙ state-more (phase_at setting s) (phase_at setting s') text (drop r.used d) t.timed
      ∙ ap (output_of states (phase_at setting s')) (drop-drop r.used at input)

  -- no more than the whole says
  rows-within : o.rows + r.rows ≤ o₀.rows + length (rows_said s₀ input)
  rows-within =
      let a = length-append (i.said ++ given) rest in
      let b = length-append i.said given in
      omega (arith, ap length whole_then, a, b, given-count, i.count)

  cells-within : cell_length * o.closings + cell_length * r.closings
      ≤ cell_length * o₀.closings + length (cells_said s₀ input)
  cells-within =
      let a = length-append (i.cells ++ shut) later in
      let b = length-append i.cells shut in
      omega (arith, ap length closed_then, a, b, t.cells, i.closings)

  pub too_full : (rows closings : ℕ) → r.fits ≡ false
      → TextPassed write (rows_said s₀ input) (cells_said s₀ input) o₀ archive' heard'
      (record { fits = false; rows = rows; closings = closings })
  too_full rows closings e =
      let full : have_room o₀ (length (rows_said s₀ input)) (length (cells_said s₀ input)) ≡ false =
      less_room (o.rows + r.rows) (o₀.rows + length (rows_said s₀ input)) (capacity_of (length o₀.archive))
      (cell_length * o.closings + cell_length * r.closings)
      (cell_length * o₀.closings + length (cells_said s₀ input)) (length o₀.heard)
      (rw (← i.long, ← i.same) (sym t.fits ∙ e)) rows-within cells-within in
      record {
        fits = sym full;
        count = λ f. absurd (false≢true f);
        closings = λ f. absurd (false≢true f);
        quiet = λ w. (rw w at t.put) ∙ i.quiet w;
        still = λ w. (rw w at t.heard) ∙ i.still w;
        grown = λ w f. absurd (false≢true f);
        heard = λ w f. absurd (false≢true f);
      }

  pub goes_on : (write ≡ true → Holds o₀.archive o₀.rows) → all is_fit (rows_said s₀ input) ≡ true
      → length archive' ≡ length o.archive → length heard' ≡ length o.heard → r.fits ≡ true
      → Going write s₀ input o₀ (phase_at setting s') (at + r.used)
      (outputs archive' (o.rows + r.rows) heard' (o.closings + r.closings))
  goes_on h fit long same e =
      let room = roomy o r.rows (cell_length * r.closings) (sym t.fits ∙ e) in
      let w = all_parts is_fit (i.said ++ given) rest (rw whole_then at fit) in
      let g = all_parts is_fit i.said given w.0 in
      record {
        inside = inside_then;
        said = i.said ++ given;
        whole = whole_then;
        cells = i.cells ++ shut;
        closed = closed_then;
        left = left_then;
        count = omega (arith, length-append i.said given, given-count, i.count);
        closings = omega (arith, length-append i.cells shut, t.cells, i.closings);
        room = record { rows = rw long room.0; closings = rw same (omega (arith, room.1)) };
        long = long ∙ i.long;
        same = same ∙ i.same;
        quiet = λ q. (rw q at t.put) ∙ i.quiet q;
        still = λ q. (rw q at t.heard) ∙ i.still q;
        grown = λ q.
            let put : archive' ≡ put_in o.archive o.rows given = rw (q, e) at t.put in
            let now = put-grown o.archive o.rows (holds i h q) given g.1 (rw given-count t.few)
            (rw given-count room.0) (ap length (sym put) ∙ long) in
            let b = i.grown q in
            record {
              right = rw put now.right;
              rows = rw put (now.rows ∙ ap (λ (l : List Row). l ++ given) b.rows
                  ∙ append_assoc (rows_in o₀.archive) i.said given);
              long = long ∙ b.long;
            };
        heard = λ q.
            let put : heard' ≡ sets o.heard (cell_length * o.closings) shut = rw (q, e) at t.heard in
            put ∙ ap (λ (l : List ℕ). sets l (cell_length * o.closings) shut) (i.heard q)
            ∙ joined i.cells shut o₀.heard (cell_length * o₀.closings) (cell_length * o.closings) i.closings;
      }

  pub stays_good : Good (state_at s) → Good (state_at s')
  stays_good = good_fed (record { setting = setting; view = state_at s })
      (record { setting = setting; view = state_at s' }) text t.timed

-- ---- what is asked for where more is taken

pub good_fits : (s : Arrays) → Good (state_at s) → Fits (state_at s)
good_fits s g = record { latest = g.entries.fits; received = g.totals.fits; copies = g.entries.copies }

pub ready : {write : Bool} {s₀ : Phase Receiver} {input : List ℕ} {o₀ : Outputs} {setting : ℕ} {s : Arrays} {at : ℕ}
    {o : Outputs}
    → Going write s₀ input o₀ (phase_at setting s) at o → (write ≡ true → Holds o₀.archive o₀.rows)
    → all is_fit (rows_said s₀ input) ≡ true
    → Good (state_at s) → setting ≤ 2 → Ready write s setting (drop at input) o
ready {s = s} i h fit g level = record {
  callable = record { accepted = good_acceptable g; level = level; room = i.room };
  fits = good_fits s g;
  fit = fit_rest i fit;
  holds = holds i h;
}

-- ---- a last line

module _ {write : Bool} {s s' : Arrays} {setting : ℕ} {line : List ℕ} {o : Outputs} {archive' heard' : List ℕ}
    (q : Ready write s setting line o)
    (u : is_unended line ≡ true) (some : 0 < length line) (r : Turn)
    (t : Turned write s setting (take line_limit line ++ (newline ∷ [])) o s' archive' heard' r)
    (long : length archive' ≡ length o.archive) (same : length heard' ≡ length o.heard) where
  abbrev ended : List ℕ
  ended = take line_limit line ++ (newline ∷ [])

  same_said : rows_said (phase_at setting s) line ≡ rows_said (phase_at setting s) ended
  same_said = said_last (phase_at setting s) line u some

  same_closed : cells_said (phase_at setting s) line ≡ cells_said (phase_at setting s) ended
  same_closed = closed_last (phase_at setting s) line u some

  fit-ended : all is_fit (rows_said (phase_at setting s) ended) ≡ true
  fit-ended = rw same_said at q.fit

  starts : Going write (phase_at setting s) ended o (phase_at setting s) 0 o
  starts = begins (record { callable = q.callable; fits = q.fits; fit = fit-ended; holds = q.holds })

  -- all of it is taken
  none_left : drop (0 + r.used) ended ≡ []
  none_left =
      let v = all_used row_times (phase_at setting s) (phase_at setting s') (take line_limit line) r.used
      (open_front line_limit line u) t.within t.timed t.rest in
      drop_of_length-le ended {i = 0 + r.used} (omega arith)

  abbrev last : Pass
  last = record { fits = r.fits; rows = o.rows + r.rows; closings = o.closings + r.closings }

  last_passed : TextPassed write (rows_said (phase_at setting s) line) (cells_said (phase_at setting s) line) o archive'
      heard'
      last
  last_passed =
      rw (same_said, same_closed)
      (by_test r.fits
      (λ e. rw e (closes (goes_on starts r t q.holds fit-ended long same e) none_left))
      (λ e. rw e (too_full starts r t (o.rows + r.rows) (o.closings + r.closings) e)))

  pub last_went : Went write s setting line o s' archive' heard' last
  last_went =
      let g = good_of (state_at s) q.callable.accepted q.fits in
      record {
        passed = last_passed;
        left = λ e.
            state_last (phase_at setting s) line u some
            ∙ closes-state setting s' (goes_on starts r t q.holds fit-ended long same e) none_left;
        accepted = λ _. good_acceptable (stays_good starts r t g);
      }
