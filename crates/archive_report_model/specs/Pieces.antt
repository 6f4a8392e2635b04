-- An archive that is added block by block, so that it is read only once: what is known after some blocks.
use Rattle.std.specs.Prelude.{ℕ, ◌+◌, ◌*◌, Bool, true, false, cond, not, ◌&&◌, ◌||◌, List, [], ◌∷◌, ltb, leb, eqb, length}
use Rattle.base_refusal.specs.Number.{number_of}
use Rattle.base_refusal.specs.declared.Refusal.TheVariants.{Argument, NotAccepted, Mismatch, Size, Transmitters}
use Rattle.archive_model.specs.Row.{Row, rows_of, is_sound}
use Rattle.block_layout.specs.Block.{block_length}
use Rattle.archive_model.specs.Buffer.{Found, At, None, is_whole, blocks_in, Scan, start_scan, scan_block, stage_found}
use Rattle.archive_model.specs.Append.{is_scan}
use Rattle.archive_report_model.specs.Report.{Line, Report, max_archives, max_lines, add_rows, kept_in, loose_in, is_tally, is_report, Addition, addition}

-- the lines and the totals so far, whether there were more than 256 transmitters (then there are no lines), and the
-- scan of the blocks
pub record Tally : Type 0 where
  pub lines : List Line
  pub kept : ℕ
  pub loose : ℕ
  pub over : Bool
  pub scan : Scan

-- the tally before the first block: the lines and the totals of the report
abbrev pub start_tally : Report → Tally
start_tally s = record { lines = s.lines; kept = s.kept; loose = s.loose; over = false; scan = start_scan }

-- the rows that a block adds: those of a sound block, and none of any other
abbrev pub counted_rows : List ℕ → List Row
counted_rows block = cond (is_sound block) (rows_of block) []

-- the tally after more rows
abbrev pub tally_after : Tally → List Row → Scan → Tally
tally_after t rows scan =
    cond (t.over || ltb max_lines (length (add_rows rows t.lines)))
    (record { lines = []; kept = 0; loose = 0; over = true; scan = scan })
    (record {
      lines = add_rows rows t.lines;
      kept = t.kept + kept_in rows;
      loose = t.loose + loose_in rows;
      over = false;
      scan = scan;
    })

-- the tally after one more block
unfoldable pub add_block : Tally → List ℕ → Tally
add_block t block = tally_after t (counted_rows block) (scan_block t.scan block)

-- the tally after more blocks
unfoldable pub add_blocks : Tally → List (List ℕ) → Tally
add_blocks t [] = t
add_blocks t (b ∷ bs) = add_blocks (add_block t b) bs

-- the answer after all blocks: 12, 10, 17, or the new report
abbrev pub tally_addition : Report → Tally → Found → Addition
tally_addition s t (At k) = addition (number_of Mismatch) k s
tally_addition s t None =
    cond (leb max_archives s.archives) (addition (number_of Argument) 0 s)
    (cond t.over (addition (number_of Transmitters) 0 s)
    (addition 0 0 (record { archives = s.archives + 1; lines = t.lines; kept = t.kept; loose = t.loose })))

-- the answer after all blocks, by the stage of the scan
unfoldable pub closing : Report → Tally → Addition
closing s t = tally_addition s t (stage_found t.scan.stage)

-- ---- the calls in pieces

-- an archive that is being added: the report before it, and what is known so far
pub record Adding : Type 0 where
  pub report : Report
  pub tally : Tally

abbrev pub adding : Report → Tally → Adding
adding s t = record { report = s; tally = t }

-- before the first piece
abbrev pub start_adding : Report → Adding
start_adding s = adding s (start_tally s)

-- how many rows its lines have: those of the report and of the blocks; 0 if there were more than 256 transmitters
abbrev pub rows_so_far : Adding → ℕ
rows_so_far a = cond a.tally.over 0 (a.report.kept + a.report.loose + a.tally.scan.rows)

-- the numbers are such as some pieces give. The calls answer 11 for any other.
unfoldable pub is_adding : Adding → Bool
is_adding a =
    is_report a.report
    && (is_scan a.tally.scan
    && (leb (length a.tally.lines) max_lines
    && (eqb (a.tally.kept + a.tally.loose) (rows_so_far a)
    && is_tally a.tally.lines a.tally.kept a.tally.loose)))

-- the archive so far and this piece are whole blocks, at most 2^32 of them
abbrev pub is_piece : Scan → List ℕ → Bool
is_piece scan piece = is_whole (block_length * scan.blocks + length piece)

-- the number, and what is known after the piece
pub record PieceAdded : Type 0 where
  pub number : ℕ
  pub next : Adding

abbrev pub piece_answer : ℕ → Adding → PieceAdded
piece_answer number next = record { number = number; next = next }

-- 11; then 16 for a piece that isn't whole blocks, or if there are then more than 2^32 blocks in all
unfoldable pub add_piece_of : Adding → List ℕ → PieceAdded
add_piece_of a piece =
    cond (not (is_adding a)) (piece_answer (number_of NotAccepted) a)
    (cond (not (is_piece a.tally.scan piece)) (piece_answer (number_of Size) a)
    (piece_answer 0 (adding a.report (add_blocks a.tally (blocks_in piece)))))

-- 11; then what `add_of` answers: 12, 10, 17, or the new report
unfoldable pub ended_of : Adding → Addition
ended_of a = cond (not (is_adding a)) (addition (number_of NotAccepted) 0 a.report) (closing a.report a.tally)
