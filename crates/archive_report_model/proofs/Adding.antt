-- An archive in pieces: what pieces give, and that they are the whole.
--     sound-facts, counted-length    what a scan of one block tells
--     Going, going                   the parts of `is_adding`
--     adding-next, adding-blocks     it holds after blocks more
--     Reached, reached-next          after the pieces that make a buffer
--     pieces-are-whole               the claim
use Prim.Native.Nat.{ℕ, ◌+◌, ◌*◌, ◌/◌, ◌%◌, ◌≤◌, ◌<◌}
use native.Mathlib.Omega.{arith}
use mathlib.Core.Path.{◌≡◌, refl, sym, ap, ◌∙◌}
use mathlib.Core.Bool.{Bool, true, false, cond, ◌||◌}
use mathlib.Core.List.{List, [], ◌∷◌, ◌++◌, flatten, append_assoc, append-nil}
use lib.Dec.{ltb, leb, eqb}
use lib.ListN.{length, length-append}
use borrow.Author.Tests.{ltb-false, le-leb, leb-true, eq-eqb, eqb-true, ne_eqb}
use Rattle.base_lists.specs.Lists.{all, up_from}
use Rattle.base_lists.proofs.Choice.{both, neither}
use Rattle.base_lists.proofs.Tests.{and-true, by_test}
use Rattle.base_refusal.specs.Number.{number_of}
use Rattle.base_refusal.specs.declared.Refusal.{Refusal}
use Rattle.base_refusal.specs.declared.Refusal.TheVariants.{NotAccepted, Size}
use Rattle.base_refusal.proofs.Numbers.{refused-number}
use Rattle.block_layout.specs.Block.{cells_per_block, block_length}
use Rattle.archive_model.specs.Row.{Row, row_count, rows_of, is_row, is_sound}
use Rattle.archive_model.specs.Buffer.{max_blocks, is_whole, blocks_in, scan_block}
use Rattle.archive_model.specs.Append.{is_scan}
use Rattle.archive_model.proofs.Pieces.{blocks-count, pieces_blocks, rows-count}
use Rattle.archive_model.proofs.Scans.{rows_after, blocks_after, scanned_next}
use Rattle.archive_report_model.specs.Report.{Line, Report, max_lines, line_of_row, add_rows, kept_in, loose_in, is_line, is_rising, sum_by, is_tally, is_report, add_of}
use Rattle.archive_report_model.specs.Pieces.{Tally, start_tally, counted_rows, tally_after, add_block, add_blocks, closing, Adding, adding, start_adding, rows_so_far, is_adding, is_piece, piece_answer, add_piece_of, ended_of}
use Rattle.base_numbers.specs.Bytes.{are_bytes}
use Rattle.archive_report_model.specs.Claims.{add_pieces, fed_pieces, PiecesAreWhole}
use Rattle.archive_report_model.proofs.Lines.{all_added, rising-added, kept-added, loose-added, kinds}
use Rattle.archive_report_model.proofs.Additions.{facts, report-tally, line-joined}
use Rattle.archive_report_model.proofs.Bytes.{blocks-bytes, cell_lines}
use Rattle.archive_report_model.proofs.Pieces.{closing_is}

-- ---- a block

module _ (block : List ℕ) where
  pub sound_facts : is_sound block ≡ true → (row_count block ≤ cells_per_block) × (all is_row (rows_of block) ≡ true)
  unfolding is_sound
  sound_facts h =
      let a = both (leb 1 (row_count block)) _ h in
      let b = both (leb (row_count block) cells_per_block) _ a.1 in
      let c = both (all is_row (rows_of block)) _ b.1 in
      (leb-true (row_count block) cells_per_block b.0, c.0)

  pub counted-length : length (counted_rows block) ≡ cond (is_sound block) (row_count block) 0
  counted-length =
      by_test {X = length (counted_rows block) ≡ cond (is_sound block) (row_count block) 0}
      (is_sound block) (λ t. rw t (rows-count block)) (λ f. rw f)

  counted-lines : are_bytes block ≡ true → all (λ r. is_line (line_of_row r)) (counted_rows block) ≡ true
  counted-lines t =
      by_test {X = all (λ (r : Row). is_line (line_of_row r)) (counted_rows block) ≡ true}
      (is_sound block) (λ s. rw s (cell_lines block t)) (λ f. rw f)

pub tally_facts : (lines : List Line) (kept loose : ℕ) → is_tally lines kept loose ≡ true
    → (is_rising lines ≡ true) × (kept ≡ sum_by (λ l. l.kept) lines) × (loose ≡ sum_by (λ l. l.loose) lines)
unfolding is_tally
tally_facts lines kept loose t =
    let b = both (is_rising lines) _ (both (all is_line lines) _ t).1 in
    let c = both (eqb kept (sum_by (λ l. l.kept) lines)) _ b.1 in
    (b.0, eqb-true kept (sum_by (λ l. l.kept) lines) c.0, eqb-true loose (sum_by (λ l. l.loose) lines) c.1)

tally-added : (lines : List Line) (kept loose : ℕ) (rows : List Row)
    → all (λ r. is_line (line_of_row r)) rows ≡ true → is_tally lines kept loose ≡ true
    → is_tally (add_rows rows lines) (kept + kept_in rows) (loose + loose_in rows) ≡ true
unfolding is_tally
tally-added lines kept loose rows h t =
    let f = tally_facts lines kept loose t in
    and-true (all_added lines is_line rows h line-joined (both (all is_line lines) _ t).0)
    (and-true (rising-added lines rows f.0)
    (and-true (eq-eqb (kept + kept_in rows) (sum_by (λ l. l.kept) (add_rows rows lines))
    (omega (arith, f.1, kept-added lines rows)))
    (eq-eqb (loose + loose_in rows) (sum_by (λ l. l.loose) (add_rows rows lines))
    (omega (arith, f.2, loose-added lines rows)))))

-- ---- an adding

pub record Going (a : Adding) : Type 0 where
  pub report : is_report a.report ≡ true
  pub scanned : is_scan a.tally.scan ≡ true
  pub few : length a.tally.lines ≤ max_lines
  pub rows : a.tally.kept + a.tally.loose ≡ rows_so_far a
  pub sums : is_tally a.tally.lines a.tally.kept a.tally.loose ≡ true

pub going : (a : Adding) → is_adding a ≡ true → Going a
unfolding is_adding
going a h =
    let b = both (is_report a.report) _ h in
    let c = both (is_scan a.tally.scan) _ b.1 in
    let d = both (leb (length a.tally.lines) max_lines) _ c.1 in
    let e = both (eqb (a.tally.kept + a.tally.loose) (rows_so_far a)) _ d.1 in
    record {
      report = b.0;
      scanned = c.0;
      few = leb-true (length a.tally.lines) max_lines d.0;
      rows = eqb-true (a.tally.kept + a.tally.loose) (rows_so_far a) e.0;
      sums = e.1;
    }

is_going : (a : Adding) → Going a → is_adding a ≡ true
unfolding is_adding
is_going a g =
    and-true g.report
    (and-true g.scanned
    (and-true (le-leb (length a.tally.lines) max_lines g.few)
    (and-true (eq-eqb (a.tally.kept + a.tally.loose) (rows_so_far a) g.rows) g.sums)))

start_going : (s : Report) → is_report s ≡ true → is_adding (start_adding s) ≡ true
start_going s h =
    is_going (start_adding s)
    (record { report = h; scanned = refl; few = (facts s h).few; rows = omega arith; sums = report-tally s h })

no_tally : is_tally [] 0 0 ≡ true
unfolding is_tally
no_tally = refl

adding_next : (s : Report) (t : Tally) (block : List ℕ) → is_adding (adding s t) ≡ true
    → t.scan.blocks < max_blocks → are_bytes block ≡ true → is_adding (adding s (add_block t block)) ≡ true
unfolding add_block
adding_next s t block h m bytes =
    let g = going (adding s t) h in
    let rows = counted_rows block in
    let next = scan_block t.scan block in
    let scanned = scanned_next block t.scan g.scanned m in
    let grown : next.rows ≡ t.scan.rows + length rows =
    rows_after block t.scan ∙ omega (arith, counted-length block) in
    by_test {X = is_adding (adding s (tally_after t rows next)) ≡ true}
    (t.over || ltb max_lines (length (add_rows rows t.lines)))
    (λ o. rw o (is_going (adding s (record { lines = []; kept = 0; loose = 0; over = true; scan = next }))
    (record { report = g.report; scanned = scanned; few = omega arith; rows = refl; sums = no_tally })))
    (λ o.
    let n = neither t.over (ltb max_lines (length (add_rows rows t.lines))) o in
    let before : t.kept + t.loose ≡ s.kept + s.loose + t.scan.rows =
    g.rows ∙ ap (λ (b : Bool). cond b 0 (s.kept + s.loose + t.scan.rows)) n.0 in
    rw o
    (is_going (adding s
    (record {
      lines = add_rows rows t.lines;
      kept = t.kept + kept_in rows;
      loose = t.loose + loose_in rows;
      over = false;
      scan = next;
    }))
    (record {
      report = g.report;
      scanned = scanned;
      few = ltb-false max_lines (length (add_rows rows t.lines)) n.1;
      rows = omega (arith, kinds rows);
      sums = tally-added t.lines t.kept t.loose rows (counted-lines block bytes) g.sums;
    })))

pub blocks_one : (t : Tally) (block : List ℕ) → (add_block t block).scan.blocks ≡ t.scan.blocks + 1
unfolding add_block
blocks_one t block =
    by_test {X = (tally_after t (counted_rows block) (scan_block t.scan block)).scan.blocks ≡ t.scan.blocks + 1}
    (t.over || ltb max_lines (length (add_rows (counted_rows block) t.lines)))
    (λ h. rw h (blocks_after block t.scan))
    (λ h. rw h (blocks_after block t.scan))

adding-blocks : (s : Report) (bs : List (List ℕ)) (t : Tally) → is_adding (adding s t) ≡ true
    → t.scan.blocks + length bs ≤ max_blocks → all are_bytes bs ≡ true
    → (is_adding (adding s (add_blocks t bs)) ≡ true) × ((add_blocks t bs).scan.blocks ≡ t.scan.blocks + length bs)
unfolding add_blocks
adding-blocks s [] t h m bytes = (h, omega arith)
adding-blocks s (b ∷ bs) t h m bytes =
    let w = both (are_bytes b) (all are_bytes bs) bytes in
    let more =
    adding-blocks s bs (add_block t b) (adding_next s t b h (omega arith) w.0)
    (omega (arith, blocks_one t b)) w.1 in
    (more.0, more.1 ∙ omega (arith, blocks_one t b))

blocks_both : (xs ys : List (List ℕ)) (t : Tally) → add_blocks t (xs ++ ys) ≡ add_blocks (add_blocks t xs) ys
unfolding add_blocks
blocks_both [] ys t = refl
blocks_both (b ∷ xs) ys t = blocks_both xs ys (add_block t b)

whole_blocks : (n : ℕ) → is_whole n ≡ true → (n % block_length ≡ 0) × (n / block_length ≤ max_blocks)
unfolding is_whole
whole_blocks n h =
    let b = both (eqb (n % block_length) 0) _ h in
    (eqb-true (n % block_length) 0 b.0, leb-true (n / block_length) max_blocks b.1)

-- ---- what pieces give

-- after the pieces that make `done`
record Reached (s : Report) (done : List ℕ) (a : Adding) : Type 0 where
  is : a ≡ adding s (add_blocks (start_tally s) (blocks_in done))
  goes : is_adding a ≡ true
  whole : is_whole (length done) ≡ true
  blocks : block_length * a.tally.scan.blocks ≡ length done

-- a piece that is taken, and one that is not
fed_one : (a b : Adding) (p : List ℕ) (ps : List (List ℕ)) → add_piece_of a p ≡ piece_answer 0 b
    → (add_pieces a (p ∷ ps) ≡ add_pieces b ps) × (fed_pieces a (p ∷ ps) ≡ p ∷ fed_pieces b ps)
fed_one a b p ps e = (rw e, rw e)

fed_none : (a : Adding) (why : Refusal) (p : List ℕ) (ps : List (List ℕ))
    → add_piece_of a p ≡ piece_answer (number_of why) a
    → (add_pieces a (p ∷ ps) ≡ add_pieces a ps) × (fed_pieces a (p ∷ ps) ≡ fed_pieces a ps)
fed_none a why p ps e = (rw e, rw (e, ne_eqb (number_of why) 0 (refused-number why)))

module _ (s : Report) (yes : is_report s ≡ true) where
  reached_first : Reached s [] (start_adding s)
  unfolding is_whole blocks_in add_blocks up_from
  reached_first = record { is = refl; goes = start_going s yes; whole = refl; blocks = refl }

  module _ (done : List ℕ) (a : Adding) (r : Reached s done a) where
    reached_end : ended_of a ≡ add_of s done
    unfolding ended_of
    reached_end =
        rw r.goes (ap (λ (b : Adding). closing b.report b.tally) r.is ∙ closing_is s done yes r.whole)

    module _ (p : List ℕ) where
      abbrev after : Adding
      after = adding a.report (add_blocks a.tally (blocks_in p))

      reached_next : are_bytes p ≡ true → is_piece a.tally.scan p ≡ true → Reached s (done ++ p) after
      reached_next bytes h =
          let w = whole_blocks (block_length * a.tally.scan.blocks + length p) h in
          let d = whole_blocks (length done) r.whole in
          let more =
          adding-blocks a.report (blocks_in p) a.tally r.goes
          (omega (arith, blocks-count p)) (blocks-bytes p bytes) in
          let long : length (done ++ p) ≡ block_length * a.tally.scan.blocks + length p =
          omega (arith, length-append done p, r.blocks) in
          record {
            is =
                ap (λ (b : Adding). adding b.report (add_blocks b.tally (blocks_in p))) r.is
                ∙ ap (adding s)
                (sym (blocks_both (blocks_in done) (blocks_in p) (start_tally s))
                ∙ ap (add_blocks (start_tally s)) (sym (pieces_blocks done p d.0)));
            goes = more.0;
            whole = ap is_whole long ∙ h;
            blocks = omega (arith, more.1, blocks-count p);
          }

      fed_next : is_piece a.tally.scan p ≡ true → add_piece_of a p ≡ piece_answer 0 after
      unfolding add_piece_of
      fed_next h = rw (r.goes, h)

      fed-not : is_piece a.tally.scan p ≡ false → add_piece_of a p ≡ piece_answer (number_of Size) a
      unfolding add_piece_of
      fed-not h = rw (r.goes, h)

  pieces_from : (pieces : List (List ℕ)) (done : List ℕ) (a : Adding) → Reached s done a → all are_bytes pieces ≡ true
      → (is_adding (add_pieces a pieces) ≡ true)
      × (ended_of (add_pieces a pieces) ≡ add_of s (done ++ flatten (fed_pieces a pieces)))
  unfolding flatten
  pieces_from [] done a r bytes = (r.goes, reached_end done a r ∙ ap (add_of s) (sym (append-nil done)))
  pieces_from (p ∷ ps) done a r bytes =
      let w = both (are_bytes p) (all are_bytes ps) bytes in
      by_test {X = (is_adding (add_pieces a (p ∷ ps)) ≡ true)
      × (ended_of (add_pieces a (p ∷ ps)) ≡ add_of s (done ++ flatten (fed_pieces a (p ∷ ps))))}
      (is_piece a.tally.scan p)
      (λ t.
      let b = adding a.report (add_blocks a.tally (blocks_in p)) in
      let one = fed_one a b p ps (fed_next done a r p t) in
      let more = pieces_from ps (done ++ p) b (reached_next done a r p w.0 t) w.1 in (
        ap is_adding one.0 ∙ more.0,
        ap ended_of one.0 ∙ more.1 ∙ ap (add_of s) (append_assoc done p (flatten (fed_pieces b ps)))
            ∙ ap (λ (l : List (List ℕ)). add_of s (done ++ flatten l)) (sym one.1),
      ))
      (λ f.
      let none = fed_none a Size p ps (fed-not done a r p f) in
      let more = pieces_from ps done a r w.1 in (
        ap is_adding none.0 ∙ more.0,
        ap ended_of none.0 ∙ more.1 ∙ ap (λ (l : List (List ℕ)). add_of s (done ++ flatten l)) (sym none.1),
      ))

-- ---- a report that no archives give

stuck : (pieces : List (List ℕ)) (a : Adding) → is_adding a ≡ false
    → (add_pieces a pieces ≡ a) × (fed_pieces a pieces ≡ [])
unfolding add_piece_of
stuck [] a f = (refl, refl)
stuck (p ∷ ps) a f =
    let none = fed_none a NotAccepted p ps (rw f) in
    let more = stuck ps a f in
    (none.0 ∙ more.0, none.1 ∙ more.1)

start_not : (s : Report) → is_report s ≡ false → is_adding (start_adding s) ≡ false
unfolding is_adding
start_not s f = rw f

end_not : (s : Report) (buffer : List ℕ) → is_report s ≡ false → ended_of (start_adding s) ≡ add_of s buffer
unfolding ended_of add_of
end_not s buffer f = rw (start_not s f, f)

pub pieces_are_whole : PiecesAreWhole
pieces_are_whole s pieces bytes =
    by_test {X = (is_adding (add_pieces (start_adding s) pieces) ≡ is_report s)
    × (ended_of (add_pieces (start_adding s) pieces) ≡ add_of s (flatten (fed_pieces (start_adding s) pieces)))}
    (is_report s)
    (λ t.
    let r = pieces_from s t pieces [] (start_adding s) (reached_first s t) bytes in
    (r.0 ∙ sym t, r.1))
    (λ f.
    let k = stuck pieces (start_adding s) (start_not s f) in (
      ap is_adding k.0 ∙ start_not s f ∙ sym f,
      ap ended_of k.0 ∙ end_not s (flatten (fed_pieces (start_adding s) pieces)) f,
    ))
