-- The rows of a block, and a block more.
--     shown-identity                         the transmitter of a cell
--     Running, running-first, running-next, running-many, running-end      the loop over rows
--     loose-first, loose-next, loose-end     the loop that counts LOOSE rows
--     fed, used-is, sound-used               what a scan of one block tells
--     sane-next                              no number goes past its end
--     blocks-next, blocks_end                the loop over blocks
--     start-sane, going-sane                 before the first block, and between pieces
use Prim.Native.Nat.{ℕ, zero, suc, ◌+◌, ◌-◌, ◌*◌, ◌/◌, ◌%◌, ◌≤◌, ◌<◌}
use native.Mathlib.Numerals.{add-one}
use native.Mathlib.Decide.{dec_lt}
use native.Mathlib.Omega.{arith}
use mathlib.Core.Path.{◌≡◌, refl, sym, ap, ◌∙◌, subst}
use mathlib.Core.Bool.{Bool, true, false, cond, ◌||◌}
use mathlib.Core.List.{List, [], ◌∷◌}
use lib.Dec.{ltb}
use lib.ListN.{length, length-map, take, drop}
use lib.Seq.{take_all, drop-drop}
use borrow.Author.Tests.{lt-ltb, le-ltb, ltb-false, le-leb, eq-eqb, eqb-true}
use Rattle.base_lists.specs.Lists.{all, up_from}
use Rattle.base_lists.proofs.Choice.{both, neither}
use Rattle.base_lists.proofs.Tests.{by_test}
use Rattle.base_lists.proofs.UpFrom.{length-up_from}
use Rattle.radio_erp1.specs.Subtelegram.{min_length, max_length, check_of}
use Rattle.radio_erp1.proofs.Checks.{check_facts}
use Rattle.base_buffers.specs.Buffer.{part}
use Rattle.base_buffers.proofs.Segments.{part-take}
use Rattle.block_layout.specs.BigEndian.{unbe}
use Rattle.block_layout.specs.Cell.{cell_length, cell_used, cell_bytes}
use Rattle.block_layout.specs.Block.{block_length, block_cell}
use Rattle.archive_model.specs.Row.{Row, row_count, row_in, rows_of, is_row, is_sound}
use Rattle.archive_model.specs.Buffer.{max_blocks, max_rows, blocks_in, Scan, scan_block, scan_blocks}
use Rattle.archive_model.specs.Append.{is_scan, feed_of}
use Rattle.archive_model.specs.Identity.{identity_of}
use Rattle.archive_file.proofs.Scans.{blocks_from}
use Rattle.archive_model.proofs.Scans.{scan_facts, rows_after, scanned_next}
use Rattle.archive_file.proofs.Cells.{used_is, bytes-shown}
use Rattle.archive_report_model.specs.Report.{Line, Report, is_report, max_archives, max_lines, line_of_row, merged_line, insert, add_rows, kept_in, loose_in, rows_of_line, is_rising, sum_by}
use Rattle.archive_report_model.specs.Pieces.{Tally, start_tally, counted_rows, tally_after, add_block, add_blocks, Adding, is_adding}
use Rattle.archive_report_model.proofs.Adding.{sound_facts, counted-length, blocks_one, tally_facts, going}
use Rattle.archive_report_model.proofs.Order.{add_first, add_none}
use Rattle.archive_report_model.proofs.Additions.{facts}
use Rattle.archive_report_model.proofs.Lines.{rising-insert, rising-added, sum_insert, more_added, kinds}
use Rattle.archive_report.specs.Lines.{lines_length, lines_at}
use Rattle.archive_report.specs.Private.{rows_between, total_of, Inserted, Sane}

-- ---- one cell

row-length : (cell : List ℕ) → is_row (row_in cell) ≡ true
    → (min_length ≤ cell_used cell) × (cell_used cell ≤ max_length)
row-length cell h =
    let f = check_facts (cell_bytes cell) (eqb-true (check_of (cell_bytes cell)) 0 h) in
    (omega (arith, f.low, used_is cell), omega (arith, f.high, used_is cell))

pub used_high : (cell : List ℕ) → is_row (row_in cell) ≡ true → cell_used cell ≤ max_length
used_high cell h = (row-length cell h).1

part-part : (a n b m : ℕ) (xs : List ℕ) → b + m ≤ n → part b m (part a n xs) ≡ part (a + b) m xs
part-part a n b m xs h = part-take b m n (drop a xs) h ∙ ap (take m) (drop-drop b a xs)

pub shown-identity : (cell : List ℕ) → length cell ≡ cell_length → is_row (row_in cell) ≡ true
    → unbe (part (cell_used cell + 3) (cell_used cell + 3 + 4 - (cell_used cell + 3)) cell) ≡ identity_of (row_in cell)
shown-identity cell l h =
    let r = row-length cell h in
    let len = cell_used cell in
    let w : len + 3 + 4 - (len + 3) ≡ 4 = omega arith in
    let k : 9 + len - 9 ≡ len = omega arith in
    let a : 9 + (len - 6) ≡ len + 3 = omega arith in
    let is : part 9 len cell ≡ cell_bytes cell =
    ap (λ (n : ℕ). part 9 n cell) (sym k) ∙ bytes-shown cell len l refl r.1 in
    let n : length (cell_bytes cell) - 6 ≡ len - 6 = omega (arith, used_is cell) in
    ap unbe
    (ap (λ (m : ℕ). part (len + 3) m cell) w ∙ ap (λ (m : ℕ). part m 4 cell) (sym a)
    ∙ sym (part-part 9 len (len - 6) 4 cell (omega arith))
    ∙ ap (part (len - 6) 4) is ∙ ap (λ (m : ℕ). part m 4 (cell_bytes cell)) (sym n))

-- ---- the rows of lines

both_kinds : (a b : Line) → rows_of_line (merged_line a b) ≡ rows_of_line a + rows_of_line b
both_kinds a b = omega arith

one_row : (r : Row) → rows_of_line (line_of_row r) ≡ 1
one_row r = go r.loose
  where
    go : (b : Bool) → ◌≡◌ {A = ℕ} (cond b 0 1 + cond b 1 0) 1
    go true = refl
    go false = refl

total_added : (lines : List Line) (rows : List Row) → total_of (add_rows rows lines) ≡ total_of lines + length rows
total_added lines [] = ap total_of (add_none lines) ∙ (omega arith)
total_added lines (r ∷ rows) =
    ap total_of (add_first r rows lines) ∙ sum_insert rows_of_line both_kinds (line_of_row r) (add_rows rows lines)
    ∙ omega (arith, one_row r, total_added lines rows)

-- ---- the rows of a block

module _ (block : List ℕ) where
  between_next : (a n : ℕ) → rows_between block a (suc n) ≡ row_in (block_cell a block) ∷ rows_between block (suc a) n
  unfolding rows_between up_from
  between_next a n = refl

  between_none : (a : ℕ) → rows_between block a 0 ≡ []
  unfolding rows_between up_from
  between_none a = refl

  pub between_length : (a n : ℕ) → length (rows_between block a n) ≡ n
  unfolding rows_between
  between_length a n = length-map (up_from a n) (λ i. row_in (block_cell i block)) ∙ length-up_from a n

  turn : (used i : ℕ) → i < used
      → rows_between block i (used - i) ≡ row_in (block_cell i block) ∷ rows_between block (i + 1) (used - (i + 1))
  turn used i h =
      let e : used - i ≡ suc (used - (i + 1)) = omega arith in
      let s : suc i ≡ i + 1 = omega arith in
      ap (rows_between block i) e ∙ between_next i (used - (i + 1))
      ∙ ap (λ (j : ℕ). row_in (block_cell i block) ∷ rows_between block j (used - (i + 1))) s

  over : (used i : ℕ) → used ≤ i → rows_between block i (used - i) ≡ []
  over used i h =
      let e : used - i ≡ 0 = omega arith in
      ap (rows_between block i) e ∙ between_none i

  all_rows : (used a n i : ℕ) → all is_row (rows_between block a n) ≡ true
      → a ≤ i → i < a + n → is_row (row_in (block_cell i block)) ≡ true
  all_rows used a zero i t l h = absurd (omega arith)
  all_rows used a (suc n) i t l h =
      let w =
      both (is_row (row_in (block_cell a block))) (all is_row (rows_between block (suc a) n))
      (ap (all is_row) (sym (between_next a n)) ∙ t) in
      elim (dec_lt a i) [
        | yes k ↦ all_rows used (suc a) n i w.1 k (omega arith)
        | no k ↦ let e : a ≡ i = omega arith in ap (λ (j : ℕ). is_row (row_in (block_cell j block))) (sym e) ∙ w.0
      ]

  pub valid-row : (used i : ℕ) → all is_row (rows_between block 0 used) ≡ true
      → i < used → is_row (row_in (block_cell i block)) ≡ true
  valid-row used i t h = all_rows used 0 used i t (omega arith) (omega arith)

  -- the loop over them: `start` are the lines before the first
  pub record Running (used : ℕ) (start : List Line) (n i : ℕ) (xs : List ℕ) : Type 0 where
    pub long : length xs ≡ lines_length
    pub few : n ≤ max_lines
    pub rising : is_rising (lines_at xs n) ≡ true
    pub total : total_of (lines_at xs n) ≡ total_of start + i
    pub rest : add_rows (rows_between block i (used - i)) (lines_at xs n) ≡ add_rows (rows_between block 0 used) start

  pub running_first : (used n : ℕ) (xs : List ℕ) → length xs ≡ lines_length → n ≤ max_lines
      → is_rising (lines_at xs n) ≡ true → Running used (lines_at xs n) n 0 xs
  running_first used n xs l f r =
      let e : used - 0 ≡ used = omega arith in
      record {
        long = l;
        few = f;
        rising = r;
        total = omega arith;
        rest = ap (λ (m : ℕ). add_rows (rows_between block 0 m) (lines_at xs n)) e;
      }

  module _ (used n i r : ℕ) (start : List Line) (xs ys : List ℕ) (go : Running used start n i xs)
      (h : i < used) (ins : Inserted n (line_of_row (row_in (block_cell i block))) xs ys r) where
    step : add_rows (rows_between block 0 used) start
        ≡ add_rows (rows_between block (i + 1) (used - (i + 1)))
        (insert (line_of_row (row_in (block_cell i block))) (lines_at xs n))
    unfolding add_rows
    step = sym go.rest ∙ ap (λ (rows : List Row). add_rows rows (lines_at xs n)) (turn used i h)

    pub running_next : r ≤ max_lines → Running used start r (i + 1) ys
    running_next f =
        let is = ins.lines f in
        let a = line_of_row (row_in (block_cell i block)) in
        record {
          long = ins.long ∙ go.long;
          few = f;
          rising = ap is_rising is ∙ rising-insert a (lines_at xs n) go.rising;
          total =
              ap total_of is ∙ sum_insert rows_of_line both_kinds a (lines_at xs n)
              ∙ omega (arith, one_row (row_in (block_cell i block)), go.total);
          rest = ap (add_rows (rows_between block (i + 1) (used - (i + 1)))) is ∙ sym step;
        }

    pub running_many : max_lines < r → max_lines < length (add_rows (rows_between block 0 used) start)
    running_many f =
        omega (
          arith,
          ins.count,
          more_added (insert (line_of_row (row_in (block_cell i block))) (lines_at xs n))
              (rows_between block (i + 1) (used - (i + 1))),
          ap length step,
        )

  pub running_end : (used n i : ℕ) (start : List Line) (xs : List ℕ) → Running used start n i xs
      → used ≤ i → lines_at xs n ≡ add_rows (rows_between block 0 used) start
  running_end used n i start xs go h =
      sym (ap (λ (rows : List Row). add_rows rows (lines_at xs n)) (over used i h) ∙ add_none (lines_at xs n)) ∙ go.rest

  -- ---- LOOSE rows

  pub loose_first : (used : ℕ) → 0 + loose_in (rows_between block 0 (used - 0)) ≡ loose_in (rows_between block 0 used)
  loose_first used =
      let e : used - 0 ≡ used = omega arith in
      omega (arith, ap (λ (m : ℕ). loose_in (rows_between block 0 m)) e)

  pub loose_next : (used i : ℕ) → i < used
      → loose_in (rows_between block i (used - i))
      ≡ cond (row_in (block_cell i block)).loose 1 0 + loose_in (rows_between block (i + 1) (used - (i + 1)))
  loose_next used i h =
      ap loose_in (turn used i h)
      ∙ go (row_in (block_cell i block)).loose (loose_in (rows_between block (i + 1) (used - (i + 1))))
    where
      go : (b : Bool) (n : ℕ) → cond b (n + 1) n ≡ cond b 1 0 + n
      go true n = omega arith
      go false n = omega arith

  pub loose_end : (used i : ℕ) → used ≤ i → loose_in (rows_between block i (used - i)) ≡ 0
  loose_end used i h = ap loose_in (over used i h)

  pub loose_few : (a n : ℕ) → loose_in (rows_between block a n) ≤ n
  loose_few a n = omega (arith, kinds (rows_between block a n), between_length a n)

  -- ---- what a scan of it tells

  one_block : length block ≡ block_length → blocks_in block ≡ block ∷ []
  unfolding blocks_in up_from
  one_block l =
      let e : length block / block_length ≡ 1 = omega arith in
      rw e (ap (λ (b : List ℕ). b ∷ []) (take_all block_length block (omega arith)))

  pub fed : (s : Scan) → length block ≡ block_length → is_scan s ≡ true → s.blocks < max_blocks
      → feed_of s block ≡ record { number = 0; next = scan_block s block }
  unfolding feed_of scan_blocks
  fed s l t h =
      let whole : length block % block_length ≡ 0 = omega arith in
      let one : s.blocks + length block / block_length ≤ max_blocks = omega arith in
      rw (
        t,
        eq-eqb (length block % block_length) 0 whole,
        le-leb (s.blocks + length block / block_length) max_blocks one,
        one_block l,
      )

  pub counted_rows_lem : (used : ℕ) → used ≡ cond (is_sound block) (row_count block) 0
      → rows_between block 0 used ≡ counted_rows block
  unfolding rows_between rows_of up_from
  counted_rows_lem used e =
      by_test {X = rows_between block 0 used ≡ counted_rows block} (is_sound block) (λ t. rw (e, t)) (λ f. rw (e, f))

  pub used_rows : (used : ℕ) → used ≡ cond (is_sound block) (row_count block) 0
      → all is_row (rows_between block 0 used) ≡ true
  used_rows used e =
      by_test {X = all is_row (rows_between block 0 used) ≡ true} (is_sound block)
      (λ t. ap (all is_row) (counted_rows_lem used e) ∙ (rw t (sound_facts block t).1))
      (λ f. ap (all is_row) (counted_rows_lem used e) ∙ (rw f))

  -- ---- no number goes past its end

  pub sane_next : (t : Tally) → Sane t → t.scan.blocks < max_blocks → Sane (add_block t block)
  unfolding add_block
  sane_next t s h =
      let rows = counted_rows block in
      let next = scan_block t.scan block in
      let grown : next.rows ≡ t.scan.rows + length rows =
      rows_after block t.scan ∙ omega (arith, counted-length block) in
      let scanned = scanned_next block t.scan s.scanned h in
      by_test {X = Sane (tally_after t rows next)} (t.over || ltb max_lines (length (add_rows rows t.lines)))
      (λ o. rw o
      (record { scanned = scanned; few = omega arith; rising = refl; rows = omega arith; totals = omega arith }))
      (λ o.
      let n = neither t.over (ltb max_lines (length (add_rows rows t.lines))) o in
      rw o (record {
        scanned = scanned;
        few = ltb-false max_lines (length (add_rows rows t.lines)) n.1;
        rising = rising-added t.lines rows s.rising;
        rows = omega (arith, s.rows, total_added t.lines rows);
        totals = omega (arith, s.totals, kinds rows);
      }))

-- ---- the loop over blocks

module _ (piece : List ℕ) where
  pub blocks_next : (t : Tally) (n i : ℕ) → i < n
      → add_blocks t (blocks_from piece i (n - i))
      ≡ add_blocks (add_block t (part (block_length * i) block_length piece)) (blocks_from piece (i + 1) (n - (i + 1)))
  unfolding blocks_from up_from add_blocks
  blocks_next t n i h =
      let e : n - i ≡ suc (n - (i + 1)) = omega arith in
      rw (e, add-one)

  pub blocks_end : (t : Tally) (n i : ℕ) → n ≤ i → add_blocks t (blocks_from piece i (n - i)) ≡ t
  unfolding blocks_from up_from add_blocks
  blocks_end t n i h =
      let e : n - i ≡ 0 = omega arith in
      rw e

-- ---- the ends of `add_block`

pub scan_few : (s : Scan) → is_scan s ≡ true → s.rows ≤ max_rows
scan_few s h = omega (arith, scan_facts s h)

module _ (t : Tally) (block : List ℕ) (next : Scan) (is : next ≡ scan_block t.scan block) where
  pub over_block : (t.over || ltb max_lines (length (add_rows (counted_rows block) t.lines))) ≡ true
      → record { lines = []; kept = 0; loose = 0; over = true; scan = next } ≡ add_block t block
  unfolding add_block
  over_block h = rw (h, is)

  pub done-block : (lines : List Line) (kept loose : ℕ) → t.over ≡ false
      → lines ≡ add_rows (counted_rows block) t.lines → length lines ≤ max_lines
      → kept ≡ t.kept + kept_in (counted_rows block) → loose ≡ t.loose + loose_in (counted_rows block)
      → record { lines = lines; kept = kept; loose = loose; over = false; scan = next } ≡ add_block t block
  unfolding add_block
  done-block lines kept loose o l few k m =
      rw (
        o,
        le-ltb max_lines (length (add_rows (counted_rows block) t.lines)) (omega (arith, ap length l, few)),
        l,
        k,
        m,
        is,
      )

or-true : (b : Bool) {c : Bool} → c ≡ true → (b || c) ≡ true
or-true true h = refl
or-true false h = h

pub over_before : (t : Tally) (b : Bool) → t.over ≡ true → (t.over || b) ≡ true
over_before t b h = ap (λ (o : Bool). o || b) h

pub over_now : (t : Tally) (n : ℕ) → max_lines < n → (t.over || ltb max_lines n) ≡ true
over_now t n h = or-true t.over (lt-ltb max_lines n h)

-- ---- a turn of the loop over blocks

pub sane_as : {t u : Tally} → t ≡ u → Sane u → Sane t
sane_as e s = subst Sane (sym e) s

pub blocks_of : (u t : Tally) (block : List ℕ) → u ≡ add_block t block → u.scan.blocks ≡ t.scan.blocks + 1
blocks_of u t block e = ap (λ (v : Tally). v.scan.blocks) e ∙ blocks_one t block

-- ---- before the first block

total_sums : (lines : List Line) → total_of lines ≡ sum_by (λ a. a.kept) lines + sum_by (λ a. a.loose) lines
total_sums [] = refl
total_sums (a ∷ lines) = omega (arith, total_sums lines)

pub start_sane : (s : Report) → is_report s ≡ true → Sane (start_tally s)
start_sane s h =
    let p = facts s h in
    record {
      scanned = refl;
      few = p.few;
      rising = p.rising;
      rows = omega (arith, total_sums s.lines, p.kept, p.loose, p.rows, p.archives);
      totals = omega (arith, p.rows, p.archives);
    }

-- ---- in pieces

pub few_so_far : (over : Bool) (n m : ℕ) → n ≡ cond over 0 m → n ≤ m
few_so_far true n m e = omega arith
few_so_far false n m e = omega arith

pub going_sane : (a : Adding) → is_adding a ≡ true → Sane a.tally
going_sane a h =
    let g = going a h in
    let p = facts a.report g.report in
    let t = tally_facts a.tally.lines a.tally.kept a.tally.loose g.sums in
    let most : a.tally.kept + a.tally.loose ≤ max_rows * max_archives + a.tally.scan.rows =
    omega (arith, few_so_far a.tally.over _ _ g.rows, p.rows, p.archives) in
    record {
      scanned = g.scanned;
      few = g.few;
      rising = t.0;
      rows = omega (arith, total_sums a.tally.lines, t.1, t.2);
      totals = most;
    }
