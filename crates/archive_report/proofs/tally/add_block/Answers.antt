-- `archive_report::tally::add_block` meets its contract: what the scan of the block tells is how many of its rows count.
use native.Mathlib.Omega.{arith}
use mathlib.Core.Path.{◌≡◌, sym, ap, ◌∙◌}
use mathlib.Core.Bool.{true, cond, false≢true}
use mathlib.Core.List.{List, []}
use Prim.Native.Nat.{ℕ, ◌+◌, ◌-◌, ◌≤◌}
use lib.ListN.{length}
use lib.Dec.{ltb}
use Rattle.block_layout.specs.Block.{cells_per_block}
use Rattle.archive_model.specs.Row.{Row, row_count, is_sound}
use Rattle.archive_model.specs.Buffer.{Scan}
use Rattle.archive_file.specs.Archive.{scan_of}
use Rattle.archive_file.specs.declared.Scan as scan
use Rattle.archive_report_model.specs.Report.{max_lines, add_rows, loose_in}
use Rattle.archive_report_model.specs.Pieces.{counted_rows}
use Rattle.archive_report_model.proofs.Lines.{kinds}
use Rattle.archive_report.specs.declared.tally.Tally.{Tally}
use Rattle.archive_report.specs.Lines.{lines_at}
use Rattle.archive_report.specs.Private.{rows_between, AddedRows, tally_of}
use Rattle.archive_report.proofs.Windows.{lines-count, lines_none}
use Rattle.archive_model.proofs.Scans.{rows_after, used_few}
use Rattle.archive_report.proofs.Blocks.{between_length, loose_few, counted_rows_lem, used_rows, scan_few, over_block, done-block, over_before, over_now}
use Rattle.archive_report.proofs.Arrays.{grows_over}
use Rattle.archive_report.proofs.tally.add_block.Goals as goal

-- no line is left, whatever stands in the array
none_left : (xs : List ℕ) (r : Tally) (next : scan.Scan)
    → r ≡ record { scan = next; count = 0; kept = 0; loose = 0; over = true }
    → tally_of r xs ≡ record { lines = []; kept = 0; loose = 0; over = true; scan = scan_of next }
none_left xs r next e =
    ap (λ (v : Tally). tally_of v xs) e
    ∙ (λ i. record { lines = lines_none xs 0 i; kept = 0; loose = 0; over = true; scan = scan_of next })

-- the array that rows were added to
module _ {n m : ℕ} {rows : List Row} {old new : List ℕ} (added : AddedRows n rows old new m) where
  none_there : (r : Tally) (next : scan.Scan) → r ≡ record { scan = next; count = 0; kept = 0; loose = 0; over = true }
      → tally_of r new ≡ record { lines = []; kept = 0; loose = 0; over = true; scan = scan_of next }
  none_there = none_left new

  few_there : m ≤ max_lines → length (lines_at new m) ≤ max_lines
  few_there h = omega (arith, lines-count new 0 m, h)

pub scan_after-next-requires : goal.scan_after-next-requires
scan_after-next-requires c = (c.requires.0, c.requires.2, c.requires.3.scanned)

pub returns-then-t : goal.returns-then-t
returns-then-t c =
    let block = c.args.block.now in
    let a = c.args in
    let xs = a.lines.now in record {
      lines_after = none_left xs c.overflowed.result c.scan_after-next.result c.overflowed.ensures
          ∙ over_block (tally_of a.t xs) block (scan_of c.scan_after-next.result) c.scan_after-next.ensures
          (over_before (tally_of a.t xs)
          (ltb max_lines (length (add_rows (counted_rows block) (lines_at xs a.t.count)))) c.if-t.true);
      grows = grows_over a.t c.overflowed.result xs xs (ap (λ (v : Tally). v.over) c.overflowed.ensures)
          (ap (λ (v : Tally). v.count) c.overflowed.ensures);
    }

pub add_rows-n-requires : goal.add_rows-n-requires
add_rows-n-requires c =
    let block = c.args.block.now in
    let grown : c.scan_after-next.result.rows ≡ c.args.t.scan.rows + cond (is_sound block) (row_count block) 0 =
    ap (λ (s : Scan). s.rows) c.scan_after-next.ensures ∙ rows_after block (scan_of c.args.t.scan) in
    let used = c.scan_after-next.result.rows - c.args.t.scan.rows in
    let used_is : used ≡ cond (is_sound block) (row_count block) 0 = omega (arith, grown) in
    let few : used ≤ cells_per_block = used_few block used used_is in
    let a = c.args in (
      c.requires.0,
      few,
      used_rows block used used_is,
      omega (arith, c.requires.3.few, lines-count a.lines.now 0 a.t.count),
      c.requires.1,
      c.requires.3.rising,
      omega (arith, c.requires.3.rows, scan_few (scan_of a.t.scan) c.requires.3.scanned),
    )

pub returns-then-n-gt-MAX_LINES : goal.returns-then-n-gt-MAX_LINES
returns-then-n-gt-MAX_LINES c =
    let block = c.args.block.now in
    let grown : c.scan_after-next.result.rows ≡ c.args.t.scan.rows + cond (is_sound block) (row_count block) 0 =
    ap (λ (s : Scan). s.rows) c.scan_after-next.ensures ∙ rows_after block (scan_of c.args.t.scan) in
    let used = c.scan_after-next.result.rows - c.args.t.scan.rows in
    let used_is : used ≡ cond (is_sound block) (row_count block) 0 = omega (arith, grown) in
    let rows : rows_between block 0 used ≡ counted_rows block = counted_rows_lem block used used_is in
    let a = c.args in
    let xs = a.lines.now in record {
      lines_after = none_there c.add_rows-n.ensures c.overflowed-then-n-gt-MAX_LINES.result c.scan_after-next.result
          c.overflowed-then-n-gt-MAX_LINES.ensures
          ∙ over_block (tally_of a.t xs) block (scan_of c.scan_after-next.result) c.scan_after-next.ensures
          (over_now (tally_of a.t xs) (length (add_rows (counted_rows block) (lines_at xs a.t.count)))
          (omega (
            arith,
            c.add_rows-n.ensures.many c.if-n-gt-MAX_LINES.true,
            ap (λ (l : List Row). length (add_rows l (lines_at xs a.t.count))) rows,
          )));
      grows = grows_over a.t c.overflowed-then-n-gt-MAX_LINES.result xs _
          (ap (λ (v : Tally). v.over) c.overflowed-then-n-gt-MAX_LINES.ensures)
          (ap (λ (v : Tally). v.count) c.overflowed-then-n-gt-MAX_LINES.ensures);
    }

pub loose_rows-loose-requires : goal.loose_rows-loose-requires
loose_rows-loose-requires c =
    let block = c.args.block.now in
    let grown : c.scan_after-next.result.rows ≡ c.args.t.scan.rows + cond (is_sound block) (row_count block) 0 =
    ap (λ (s : Scan). s.rows) c.scan_after-next.ensures ∙ rows_after block (scan_of c.args.t.scan) in
    let used = c.scan_after-next.result.rows - c.args.t.scan.rows in
    let used_is : used ≡ cond (is_sound block) (row_count block) 0 = omega (arith, grown) in
    let few : used ≤ cells_per_block = used_few block used used_is in
    (c.requires.0, few)

pub overflow_sub-result : goal.overflow_sub-result
overflow_sub-result c =
    let block = c.args.block.now in
    let grown : c.scan_after-next.result.rows ≡ c.args.t.scan.rows + cond (is_sound block) (row_count block) 0 =
    ap (λ (s : Scan). s.rows) c.scan_after-next.ensures ∙ rows_after block (scan_of c.args.t.scan) in
    let used = c.scan_after-next.result.rows - c.args.t.scan.rows in
    let used_is : used ≡ cond (is_sound block) (row_count block) 0 = omega (arith, grown) in
    omega (arith, c.loose_rows-loose.ensures, loose_few block 0 used)

pub overflow_add-result : goal.overflow_add-result
overflow_add-result c =
    let block = c.args.block.now in
    let grown : c.scan_after-next.result.rows ≡ c.args.t.scan.rows + cond (is_sound block) (row_count block) 0 =
    ap (λ (s : Scan). s.rows) c.scan_after-next.ensures ∙ rows_after block (scan_of c.args.t.scan) in
    let used = c.scan_after-next.result.rows - c.args.t.scan.rows in
    let used_is : used ≡ cond (is_sound block) (row_count block) 0 = omega (arith, grown) in
    let few : used ≤ cells_per_block = used_few block used used_is in
    omega (arith, c.requires.3.totals, scan_few (scan_of c.args.t.scan) c.requires.3.scanned, few)

pub overflow_add-result-2 : goal.overflow_add-result-2
overflow_add-result-2 c =
    let block = c.args.block.now in
    let grown : c.scan_after-next.result.rows ≡ c.args.t.scan.rows + cond (is_sound block) (row_count block) 0 =
    ap (λ (s : Scan). s.rows) c.scan_after-next.ensures ∙ rows_after block (scan_of c.args.t.scan) in
    let used = c.scan_after-next.result.rows - c.args.t.scan.rows in
    let used_is : used ≡ cond (is_sound block) (row_count block) 0 = omega (arith, grown) in
    let few : used ≤ cells_per_block = used_few block used used_is in
    omega (
      arith,
      c.requires.3.totals,
      scan_few (scan_of c.args.t.scan) c.requires.3.scanned,
      few,
      c.loose_rows-loose.ensures,
      loose_few block 0 used,
    )

pub returns : goal.returns
returns c =
    let block = c.args.block.now in
    let grown : c.scan_after-next.result.rows ≡ c.args.t.scan.rows + cond (is_sound block) (row_count block) 0 =
    ap (λ (s : Scan). s.rows) c.scan_after-next.ensures ∙ rows_after block (scan_of c.args.t.scan) in
    let used = c.scan_after-next.result.rows - c.args.t.scan.rows in
    let used_is : used ≡ cond (is_sound block) (row_count block) 0 = omega (arith, grown) in
    let rows : rows_between block 0 used ≡ counted_rows block = counted_rows_lem block used used_is in
    let a = c.args in
    let xs = a.lines.now in
    let t = tally_of a.t xs in
    let is =
    c.add_rows-n.ensures.lines c.if-n-gt-MAX_LINES.false
    ∙ ap (λ (v : List Row). add_rows v (lines_at xs a.t.count)) rows in
    let o = c.loose_rows-loose.ensures ∙ ap loose_in rows in
    let n : length (counted_rows block) ≡ used =
    ap length (sym rows) ∙ between_length block 0 used in record {
      lines_after = done-block t block (scan_of c.scan_after-next.result) c.scan_after-next.ensures _ _ _
          c.if-t.false is (few_there c.add_rows-n.ensures c.if-n-gt-MAX_LINES.false)
          (omega (arith, o, n, kinds (counted_rows block))) (omega (arith, o));
      grows = (
        record {
          few = c.if-n-gt-MAX_LINES.false;
          before = λ q. c.if-t.false;
          count = λ q. c.add_rows-n.ensures.grows c.if-n-gt-MAX_LINES.false;
          behind = λ q. c.add_rows-n.ensures.behind c.if-n-gt-MAX_LINES.false;
          held = λ q. absurd (false≢true q);
        },
        λ q. absurd (false≢true q),
      );
    }

pub overflow_sub-used : goal.overflow_sub-used
overflow_sub-used c =
    let block = c.args.block.now in
    let grown : c.scan_after-next.result.rows ≡ c.args.t.scan.rows + cond (is_sound block) (row_count block) 0 =
    ap (λ (s : Scan). s.rows) c.scan_after-next.ensures ∙ rows_after block (scan_of c.args.t.scan) in
    omega (arith, grown)
