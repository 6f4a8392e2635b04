-- What a call of `lines_as` says where it is not refused: the rows of whole lines, at most one for each, and what they
-- close, at the front of the buffers.
use Prim.Native.Nat.{ℕ, ◌+◌, ◌-◌, ◌*◌, ◌/◌, ◌%◌, ◌≤◌, ◌<◌}
use native.Mathlib.Omega.{arith}
use native.Mathlib.Nat.{zero-add}
use mathlib.Core.Path.{◌≡◌, sym, ap₂, ◌∙◌}
use mathlib.Core.Bool.{Bool, true, false, cond, ◌&&◌}
use mathlib.Core.List.{List, [], ◌∷◌}
use lib.Dec.{leb, eqb}
use lib.ListN.{length, get_or, take, length-append}
use lib.Seq.{sets}
use borrow.Author.Tests.{le-leb, lt-leb, eq-eqb, ne_eqb, le-ltb, leb-true, leb-false}
use Rattle.base_lists.proofs.Tests.{by_test}
use Rattle.block_layout.specs.Cell.{cell_length}
use Rattle.block_layout.specs.Block.{cells_per_block}
use Rattle.text_lines.specs.Ascii.{newline}
use Rattle.text_lines.specs.Reading.{Reading, reception, bad, line_reading, line_limit}
use Rattle.text_program.specs.Chunks.{Position, at_line_start, fed, fed_text, feed_text}
use Rattle.text_program.specs.Collect.{Phase, starting, running, over}
use Rattle.text_program.specs.Buffer.{is_unended, Fed}
use Rattle.archive_fill.specs.Fill.{row_length, rows_given}
use Rattle.text_collect.specs.Session.{Receiver, taken_at}
use Rattle.text_collect.specs.Rows.{is_stored, time_of_line, times_in, row_times, line_ticks}
use Rattle.text_collect.specs.Formats.{longest_line_in}
use Rattle.text_collect.specs.Heard.{line_closings, is_asked, HeardIn}
use Rattle.text_print.proofs.Turning.{front_there}
use Rattle.c_collector.specs.State.{Arrays, columns_at}
use Rattle.c_lines.specs.Formats.{format_of, LinesAs}
use Rattle.history_log.specs.Keep.{capacity_of}
use Rattle.history_log.specs.Private.{
  buffer_length,
  put_in,
  Outputs,
  have_room,
  phase_at,
  times_given,
  records_given,
  cells_given,
  Callable,
  Turned,
}

-- ---- a line gives at most one row

line_few : (c : Receiver) (a : Reading) → length (time_of_line c a) ≤ 1
line_few c (reception t bs) = go (is_stored (taken_at c.view t bs).answer bs)
  where
    go : (s : Bool) → length (cond s (t ∷ []) []) ≤ 1
    go true = omega arith
    go false = omega arith
line_few c bad = omega arith

time_few : (s : Phase Receiver) (l : List ℕ) → length (times_in s l) ≤ 1
time_few starting l = omega arith
time_few (running c) l = line_few c (line_reading l)
time_few over l = omega arith

tick_few : (a : Position (Phase Receiver)) (c : ℕ) → length (fed_text row_times line_limit a c) ≤ length
    (fed_text line_ticks line_limit a c)
tick_few a c = go (eqb c newline)
  where
    go : (t : Bool) → length (cond t (times_in a.state a.line) []) ≤ length {A = ℕ} (cond t (0 ∷ []) [])
    go true = time_few a.state a.line
    go false = omega arith

times_few : (x : List ℕ) (a : Position (Phase Receiver))
    → length (feed_text row_times line_limit a x) ≤ length (feed_text line_ticks line_limit a x)
unfolding feed_text
times_few [] a = omega arith
times_few (c ∷ x) a =
    let b = fed row_times line_limit a c in
    omega (
      arith,
      tick_few a c,
      times_few x b,
      length-append (fed_text row_times line_limit a c) (feed_text row_times line_limit b x),
      length-append (fed_text line_ticks line_limit a c) (feed_text line_ticks line_limit b x),
    )

-- ---- two tests that say the same

same_test : (a b c d : ℕ) → (a ≤ b → c ≤ d) → (b < a → d < c) → leb a b ≡ leb c d
same_test a b c d fit full =
    by_test (leb a b)
    (λ e. e ∙ sym (le-leb c d (fit (leb-true a b e))))
    (λ e. e ∙ sym (lt-leb c d (full (leb-false a b e))))

-- ---- the call

module _ {s : Arrays} {setting : ℕ} {input : List ℕ} {most : ℕ} {out moments rows closed done : List ℕ} {number : ℕ}
    {s' : Arrays} {out' moments' rows' closed' done' : List ℕ}
    (l : LinesAs s setting 0 input most out moments rows closed done number s' out' moments' rows' closed' done')
    {o : Outputs} (k : Callable s setting o)
    (sized : length rows ≡ row_length * length moments) where
  abbrev used : ℕ
  used = get_or done' 0 0

  abbrev count : ℕ
  count = get_or done' 2 0

  abbrev closings : ℕ
  closings = get_or done' 4 0

  abbrev text : List ℕ
  text = take used input

  taken : HeardIn (format_of 0) (phase_at setting s)
      (columns_at s) input most out moments rows closed out' moments' rows'
      closed' (phase_at setting s') (columns_at s') used (get_or done' 1 0) count (get_or done' 3 0) closings
  taken = l.taken (l.answer ∙ rw (
    k.accepted,
    eq-eqb (length rows)
        (row_length * length moments) sized,
    le-ltb 2 setting k.level,
  ))

  count_is : count ≡ length (times_given (phase_at setting s) text)
  count_is = taken.times.output.next ∙ zero-add (length (times_given (phase_at setting s) text))

  records-long : row_length * count ≡ length (records_given (phase_at setting s) text)
  records-long = taken.records.output.next ∙ zero-add (length (records_given (phase_at setting s) text))

  -- no more rows than lines, and than there is room for
  pub count_few : count ≤ most
  count_few = omega (arith, count_is, times_few text (at_line_start (phase_at setting s)), taken.ticks, taken.few)

  pub count_fits : count ≤ length moments
  count_fits = omega (arith, taken.times.output.short)

  pub closings-fit : cell_length * closings ≤ length closed
  closings-fit = omega (arith, taken.closes.output.short)

  times_there : take count moments' ≡ times_given (phase_at setting s) text
  times_there = front_there moments (times_given (phase_at setting s) text) count_is count_fits
      taken.times.output.bytes

  records_there : take (row_length * count) rows' ≡ records_given (phase_at setting s) text
  records_there = front_there rows (records_given (phase_at setting s) text) records-long
      (omega (arith, sized, count_fits)) taken.records.output.bytes

  -- what closes was asked for
  module _ (wide : length closed ≡ buffer_length) where
    asked : is_asked closed ≡ true
    asked = rw (ne_eqb (length closed) 0 (λ z. omega arith))

    closes : Fed (line_closings true) (phase_at setting s) text closed (phase_at setting s') closed'
        (cell_length * closings)
    closes = rw asked at taken.closes

    cells-long : cell_length * closings ≡ length (cells_given (phase_at setting s) text)
    cells-long = closes.output.next ∙ zero-add (length (cells_given (phase_at setting s) text))

    cells_there : take (cell_length * closings) closed' ≡ cells_given (phase_at setting s) text
    cells_there = front_there closed (cells_given (phase_at setting s) text) cells-long closings-fit
        closes.output.bytes

    none_used : used ≡ 0 → 0 < most → 0 < length moments → longest_line_in ≤ length out → is_unended input ≡ true
    unfolding feed_text
    none_used u some room long =
        let lines : get_or done' 3 0 ≡ 0 = rw u at taken.ticks in
        let rows_none : count ≡ 0 = rw u at count_is in
        let written : get_or done' 1 0 ≡ 0 = rw u at taken.text.output.next in
        let cells_none : cell_length * closings ≡ 0 = rw u at cells-long in
        let spare : leb (cell_length * closings + 2048) (length closed) ≡ true =
        le-leb (cell_length * closings + 2048) (length closed) (omega arith) in
        rw u at (taken.rest (omega arith) (omega arith) (omega arith) (rw (spare, wide)))

    abbrev fits : Bool
    fits = leb count (capacity_of (length o.archive) - o.rows)
        && leb closings (length o.heard / cell_length - o.closings)

    same_fits : fits ≡ have_room o count (cell_length * closings)
    same_fits =
        ap₂ ◌&&◌
        (same_test count (capacity_of (length o.archive) - o.rows) (o.rows + count)
        (capacity_of (length o.archive))
        (λ h. omega (arith, k.room.rows)) (λ h. omega (arith, k.room.rows)))
        (same_test closings (length o.heard / cell_length - o.closings)
        (cell_length * o.closings + cell_length * closings) (length o.heard)
        (λ h. omega (arith, k.room.closings)) (λ h. omega (arith, k.room.closings)))

    pub turned : (write : Bool) {archive' heard' : List ℕ} → most ≡ cells_per_block - o.rows % cells_per_block
        → 0 < length moments → length out ≡ buffer_length
        → archive' ≡ cond (write && fits)
        (put_in o.archive o.rows (rows_given (take (count - 0) moments') (take (row_length * count - 0) rows')))
        o.archive
        → heard' ≡ cond (write && fits)
        (sets o.heard (cell_length * o.closings) (take (cell_length * closings - 0) closed')) o.heard
        → Turned write s setting input o s' archive' heard'
        (record { used = used; rows = count; closings = closings; fits = fits })
    turned write few room long put heard =
        let a : count - 0 ≡ count = omega arith in
        let b : row_length * count - 0 ≡ row_length * count = omega arith in
        let c : cell_length * closings - 0 ≡ cell_length * closings = omega arith in
        record {
          within = taken.within;
          timed = taken.times.state;
          recorded = taken.records.state;
          closed = closes.state;
          count = count_is;
          sized = sym records-long;
          cells = cells-long;
          few = omega (arith, count_few);
          brief = omega (arith, closings-fit);
          rest = λ u. none_used u (omega arith) room (omega arith);
          fits = same_fits;
          put = rw (a, b, times_there, records_there) at put;
          heard = rw (c, cells_there) at heard;
        }
