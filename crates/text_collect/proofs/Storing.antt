-- The row of a reception in the arrays of an archive's rows, and the two programs that say all of them.
use Rattle.std.specs.Prelude.{Option, Some}
use mathlib.Core.Path.{◌≡◌, refl, sym, ap, ◌∙◌}
use mathlib.Core.List.{List, [], ◌∷◌}
use Prim.Native.Nat.{ℕ, zero, suc, ◌+◌, ◌-◌, ◌*◌, ◌<◌, ◌≤◌}
use native.Mathlib.Omega.{arith}
use native.Mathlib.Decide.{dec_lt}
use native.Mathlib.Nat.{zero-add}
use lib.Dec.{lit<}
use lib.ListN.{length, get_or, take, drop, replicate, length-drop, length-append, length-replicate, length-take, get_or-replicate, get_or-append, get_or-eq_default}
use lib.Seq.{get_or-append-add, ext_get_or, set-get_or}
use Rattle.base_lists.specs.Lists.{padded}
use Rattle.base_lists.proofs.Padded.{take-padded}
use Rattle.base_bytes.specs.Bytes.{index_of}
use Rattle.collector_model.specs.Step.{StepOutcome, sent_for}
use Rattle.base_buffers.specs.Printed.{Printed}
use Rattle.text_lines.specs.Ascii.{newline}
use Rattle.text_lines.specs.Reading.{line_limit, line_reading, reception, bad, front_of, line_of, bytes_in}
use Rattle.text_lines.specs.declared.Heard.{Heard}
use Rattle.text_lines.specs.declared.Line.{Line}
use Rattle.text_lines.proofs.Starts.{by_cases}
use Rattle.text_lines.specs.Private.{CopiedPart}
use Rattle.text_lines.proofs.Long.{fronts_tell}
use Rattle.text_rows.proofs.Pasted.{paste_first, pasted}
use Rattle.text_program.specs.Chunks.{Bounded}
use Rattle.text_rows.specs.Text.{decimal_text, row_behind, bad_text}
use Rattle.text_program.specs.Collect.{Phase, starting, running, over, next_phase, phase_text}
use Rattle.text_program.specs.Lines.{Program}
use Rattle.text_program.specs.Buffer.{Fed}
use Rattle.text_program.proofs.Limit.{bounded}
use Rattle.text_program.proofs.Pieces.{in_pieces}
use Rattle.text_program.proofs.Takes.{fed_next}
use Rattle.text_collect.specs.Printed.{printed_row, sent_bytes, reception_at}
use Rattle.text_collect.specs.Session.{Receiver, model_collector, taken_at}
use Rattle.text_collect.specs.Rows.{times_in, records_in, row_times, row_records, line_ticks, stored_time, stored_record}
use Rattle.text_collect.specs.Claims.{RowsInPieces}
use Rattle.text_collect.proofs.Taking.{line_at}

-- ---- one record

padded_at : (n k : ℕ) (xs : List ℕ) → k < n → get_or (padded n xs) k 0 ≡ get_or xs k 0
padded_at n k xs h = elim (dec_lt k (length xs)) [
  | yes l ↦ get_or-append xs (replicate (n - length xs) 0) 0 k l
  | no l ↦
      (let e : length xs + (k - length xs) ≡ k = omega arith in
      (rw e at (get_or-append-add xs (replicate (n - length xs) 0) (k - length xs) 0))
      ∙ get_or-replicate (n - length xs) (k - length xs) 0 0 (omega arith)
      ∙ sym (get_or-eq_default xs 0 (omega arith)))
]

module _ (bytes : List ℕ) (len : ℕ) (fill : bytes ≡ padded 64 (take len bytes)) where
  pub front_long : len ≤ 64 → length (take len bytes) ≡ len
  front_long few =
      omega (
        arith,
        length-take len bytes,
        ap length fill,
        length-append (take len bytes) (replicate (64 - length (take len bytes)) 0),
        length-replicate {A = ℕ} (64 - length (take len bytes)) 0,
      )

  module _ (flag : ℕ) {record' : List ℕ} (few : len ≤ 21)
      (copied : CopiedPart bytes 0 21 (flag ∷ len ∷ replicate 21 0) 2 record') where
    abbrev said : List ℕ
    said = flag ∷ len ∷ padded 21 (take len bytes)

    said-long : length said ≡ 23
    said-long =
        omega (
          arith,
          length-take len bytes,
          length-append (take len bytes) (replicate (21 - length (take len bytes)) 0),
          length-replicate {A = ℕ} (21 - length (take len bytes)) 0,
        )

    each : (k : ℕ) → k < length record' → get_or record' k 0 ≡ get_or said k 0
    each zero h = copied.outside 0 (λ x y. omega arith)
    each (suc zero) h = copied.outside 1 (λ x y. omega arith)
    each (suc (suc k)) h =
        let s : k < 21 = omega (arith, copied.long) in
        let e : suc (suc k) ≡ 2 + k = omega arith in
        let w : get_or bytes (0 + k) 0 ≡ get_or (padded 64 (take len bytes)) k 0 =
        rw zero-add (ap (λ l. get_or l k 0) fill) in
        rw e (copied.inside k s) ∙ w ∙ padded_at 64 k (take len bytes) (omega arith)
        ∙ sym (padded_at 21 k (take len bytes) s)

    record_said : record' ≡ said
    record_said = ext_get_or 0 record' said (copied.long ∙ sym said-long) each

    pub record_printed : (n : ℕ) {rows rows' : List ℕ}
        → 23 * n + 23 ≤ length rows → CopiedPart record' 0 23 rows (23 * n) rows'
        → Printed rows (23 * n) said 23 rows' (23 * (n + 1))
    record_printed n {rows} fits put =
        record {
          bytes = rw record_said at (pasted (paste_first put) (ap length record_said ∙ said-long) fits);
          next = omega (arith, said-long);
          short = omega arith;
        }

-- nothing is stored
pub printed_none : (out : List ℕ) (at most : ℕ) → Printed out at [] most out at
printed_none out at most = record { bytes = refl; next = omega arith; short = omega arith }

-- ---- the programs can tell a line by its front

next_front : (s : Phase Receiver) (l : List ℕ)
    → next_phase model_collector s (take line_limit l) ≡ next_phase model_collector s l
next_front s l = (bounded model_collector).next s l

times_front : (s : Phase Receiver) (l : List ℕ) → times_in s (take line_limit l) ≡ times_in s l
times_front starting l = refl
times_front (running c) l = rw (fronts_tell l).reading
times_front over l = refl

records_front : (s : Phase Receiver) (l : List ℕ) → records_in s (take line_limit l) ≡ records_in s l
records_front starting l = refl
records_front (running c) l = rw (fronts_tell l).reading
records_front over l = refl

pub times_bounded : Bounded row_times line_limit
times_bounded = record { next = next_front; text = times_front }

pub records_bounded : Bounded row_records line_limit
records_bounded = record { next = next_front; text = records_front }

-- ---- one line more

pub rows-line : {S : Type 0} (p : Program S) → Bounded p line_limit → {s₀ s s' : S} {out₀ out out' text : List ℕ}
    {to most r : ℕ} (input : List ℕ) (at used : ℕ)
    → Fed p s₀ (take at input) out₀ s out to
    → (index_of newline (drop at input) < length (drop at input)) × (used ≡ index_of newline (drop at input) + 1)
    → at ≤ length input → r ≤ length out₀
    → p.text s (line_at input at) ≡ text → p.next s (line_at input at) ≡ s' → Printed out to text most out' r
    → Fed p s₀ (take (at + used) input) out₀ s' out' r
rows-line p b {s = s} {out = out} {out' = out'} {to = to} {most = most} {r = r} input at used f h l fits text next q =
    let k = index_of newline (drop at input) in
    let within : at + k < length input = omega (arith, h.0, length-drop at input) in
    let same : at + k - at ≡ k = omega arith in
    let end : at + used ≡ at + k + 1 = omega (arith, h.1) in
    let printed : Printed out to (p.text s (take (at + k - at) (drop at input))) most out' r = rw (same, text) q in
    rw (← next, end) (rw same at (fed_next p b input at (at + k) f refl within l printed fits))

module _ (c : Receiver) (l : List ℕ) where
  module _ (e : line_reading l ≡ bad) where
    pub bad_next : next_phase model_collector (running c) l ≡ running c
    bad_next = rw e

    pub bad-text : phase_text model_collector (running c) l ≡ bad_text
    bad-text = rw e

    pub bad-times : times_in (running c) l ≡ []
    bad-times = rw e

    pub bad-records : records_in (running c) l ≡ []
    bad-records = rw e

  module _ {t : ℕ} {bs : List ℕ} (o : StepOutcome)
      (e : line_reading l ≡ reception t bs) (k : o ≡ taken_at c.view t bs) where
    pub said_next : next_phase model_collector (running c) l ≡ running (record { setting = c.setting; view = o.next })
    said_next = rw (e, k)

    pub said-text : {time sent : List ℕ} → time ≡ decimal_text t
        → sent ≡ sent_bytes (sent_for c.setting o.answer (reception_at t bs))
        → phase_text model_collector (running c) l ≡ row_behind time (printed_row o.answer) sent
    said-text f g = rw (e, f, g, k)

    pub said-times : times_in (running c) l ≡ stored_time o.answer t bs
    said-times = rw (e, k)

    pub said-records : records_in (running c) l ≡ stored_record o.answer bs
    said-records = rw (e, k)

-- what `parse` writes is zero filled
pub said-padded : (text : List ℕ) {bytes : List ℕ} {r : Option Line}
    → (r ≡ line_of (front_of text)) × (bytes ≡ bytes_in (front_of text))
    → {l : Line} → r ≡ Some l → {w : Heard} → l.heard ≡ Some w → bytes ≡ padded 64 (take w.len bytes)
said-padded text e {l} some {w} heard =
    rw e.1
    (by_cases text (λ x. line_of x ≡ Some l → bytes_in x ≡ padded 64 (take w.len (bytes_in x)))
    (λ h g. cc)
    (λ h q g. cc)
    (λ t bs h q g.
    let same : length bs ≡ w.len = cc in
    rw (sym same, take-padded 64 bs))
    (sym e.0 ∙ some))

-- ---- lines are counted

pub ticks_bounded : Bounded line_ticks line_limit
ticks_bounded = record { next = next_front; text = λ s l. refl }

pub tick : (most left : ℕ) → left ≤ most → (left ≡ 0 → ⊥)
    → Printed (replicate most 0) (most - left) (0 ∷ []) 1 (replicate most 0) (most - (left - 1))
tick most left few some =
    let i = most - left in
    let h : i < most = omega arith in
    record {
      bytes = sym (rw (get_or-replicate {A = ℕ} most i 0 0 h) at (set-get_or {A = ℕ} (replicate most 0) i 0));
      next = omega arith;
      short = omega arith;
    }

-- ---- however the input is cut

pub rows_in_pieces : RowsInPieces
rows_in_pieces s xs = (
  in_pieces row_times line_limit (lit< tt) times_bounded s xs,
  in_pieces row_records line_limit (lit< tt) records_bounded s xs,
  in_pieces line_ticks line_limit (lit< tt) ticks_bounded s xs,
)
