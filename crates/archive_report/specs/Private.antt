-- What the contracts of private functions say. No public contract cites these.
use Rattle.std.specs.Prelude.{ℕ, ◌+◌, ◌*◌, ◌^◌, ◌≤◌, ◌<◌, ◌≡◌, Bool, true, false, cond, ◌&&◌, ◌||◌, List, [], ◌∷◌, map, ltb, leb, eqb, length, get_or}
use Rattle.base_lists.specs.Lists.{up_from}
use Rattle.block_layout.specs.Block.{block_cell}
use Rattle.archive_model.specs.Row.{Row, row_in}
use Rattle.archive_model.specs.Buffer.{max_rows, start_scan}
use Rattle.archive_model.specs.Append.{is_scan}
use Rattle.archive_file.specs.Archive.{scan_of}
use Rattle.archive_report_model.specs.Report as model
use Rattle.archive_report_model.specs.Report.{Line, max_lines, insert, add_rows, rows_of_line, sum_by}
use Rattle.archive_report_model.specs.Pieces as pieces
use Rattle.archive_report.specs.declared.tally.Tally.{Tally}
use Rattle.archive_report.specs.Lines.{line_length, line_at, lines_at}

-- ---- rows, lines and their array

-- n rows of a block, from row a on
unfoldable pub rows_between : List ℕ → ℕ → ℕ → List Row
rows_between block a n = map (λ i. row_in (block_cell i block)) (up_from a n)

-- the line that one row gives, by its transmitter, time and kind
abbrev pub line_for : ℕ → ℕ → Bool → Line
line_for identity time loose = record {
  identity = identity;
  kept = cond loose 0 1;
  loose = cond loose 1 0;
  earliest = time;
  latest = time;
}

-- how many rows all lines have
abbrev pub total_of : List Line → ℕ
total_of lines = sum_by rows_of_line lines

-- the identities of the first n lines rise
abbrev pub Ordered : List ℕ → ℕ → Type 0
Ordered xs n = (i j : ℕ) → i < j → j < n → (line_at xs i).identity < (line_at xs j).identity

-- r is the index where an identity belongs: the lines before r are below it, and the others are not
pub record Place (xs : List ℕ) (n identity r : ℕ) : Type 0 where
  pub within : r ≤ n
  pub below : (i : ℕ) → i < r → (line_at xs i).identity < identity
  pub above : (i : ℕ) → r ≤ i → i < n → identity ≤ (line_at xs i).identity

-- from index `from` on, nothing has changed
abbrev pub SameBehind : ℕ → List ℕ → List ℕ → Type 0
SameBehind from old new = (k : ℕ) → from ≤ k → get_or new k 0 ≡ get_or old k 0

-- the numbers from `from` to `end` were moved up by five, the length of a line
pub record Gap (from end : ℕ) (old new : List ℕ) : Type 0 where
  pub long : length new ≡ length old
  pub front : (k : ℕ) → k < from → get_or new k 0 ≡ get_or old k 0
  pub back : (k : ℕ) → from ≤ k → k < end → get_or new (k + line_length) 0 ≡ get_or old k 0
  pub behind : SameBehind (end + line_length) old new

-- line i is a; every other line is unchanged
pub record Stored (i : ℕ) (a : Line) (old new : List ℕ) : Type 0 where
  pub long : length new ≡ length old
  pub here : line_at new i ≡ a
  pub elsewhere : (j : ℕ) → (j ≡ i → ⊥) → line_at new j ≡ line_at old j
  pub behind : SameBehind (line_length * i + line_length) old new

-- a line is inserted into n lines: r lines are there afterwards, if r is not over the maximum
pub record Inserted (n : ℕ) (a : Line) (old new : List ℕ) (r : ℕ) : Type 0 where
  pub long : length new ≡ length old
  pub count : r ≡ length (insert a (lines_at old n))
  pub lines : r ≤ max_lines → lines_at new r ≡ insert a (lines_at old n)
  pub behind : SameBehind (line_length * r) old new

-- rows are added to n lines: r lines are there afterwards; or r is over the maximum, and so is the right number of
-- lines
pub record AddedRows (n : ℕ) (rows : List Row) (old new : List ℕ) (r : ℕ) : Type 0 where
  pub long : length new ≡ length old
  pub lines : r ≤ max_lines → lines_at new r ≡ add_rows rows (lines_at old n)
  pub many : max_lines < r → max_lines < length (add_rows rows (lines_at old n))
  pub grows : r ≤ max_lines → n ≤ r
  pub behind : r ≤ max_lines → SameBehind (line_length * r) old new

-- ---- the test of the lines, one after the other

-- the test of one line by its numbers. The latest time is not tested: its type has 64 bits.
abbrev pub is_line_of : ℕ → ℕ → ℕ → ℕ → Bool
is_line_of identity rows earliest latest =
    ltb identity (2 ^ 32) && (leb 1 rows && (leb earliest latest && (ltb 1 rows || eqb earliest latest)))

-- the identity of a line is below that of the next line
abbrev pub is_before : Line → List Line → Bool
is_before a [] = true
is_before a (b ∷ lines) = ltb a.identity b.identity

-- a line may come before others: it passes the test, has no more rows than the totals say, and is below the next line
abbrev pub line_fits : Line → List Line → ℕ → ℕ → Bool
line_fits a lines kept loose =
    leb a.kept kept
    && (leb a.loose loose
    && (is_line_of a.identity (rows_of_line a) a.earliest a.latest && is_before a lines))

-- ---- a tally

-- a tally, with its lines from the array
abbrev pub tally_of : Tally → List ℕ → pieces.Tally
tally_of t lines = record {
  lines = lines_at lines t.count;
  kept = t.kept;
  loose = t.loose;
  over = t.over;
  scan = scan_of t.scan;
}

-- a tally after blocks. If there are not more than 256 transmitters, the numbers after its lines are unchanged. If
-- there are more, the lines that it counts are unchanged.
pub record Grows (t r : Tally) (old new : List ℕ) : Type 0 where
  pub few : r.count ≤ max_lines
  pub before : r.over ≡ false → t.over ≡ false
  pub count : r.over ≡ false → t.count ≤ r.count
  pub behind : r.over ≡ false → SameBehind (line_length * r.count) old new
  pub held : r.over ≡ true → lines_at new r.count ≡ lines_at old r.count

-- the bounds of a tally that some blocks give: no sum overflows
pub record Sane (t : pieces.Tally) : Type 0 where
  pub scanned : is_scan t.scan ≡ true
  pub few : length t.lines ≤ model.max_lines
  pub rising : model.is_rising t.lines ≡ true
  pub rows : total_of t.lines ≤ max_rows * model.max_archives + t.scan.rows
  pub totals : t.kept + t.loose ≤ max_rows * model.max_archives + t.scan.rows

-- the tally before the first block, for any lines
abbrev pub Starts : ℕ → ℕ → ℕ → Tally → Type 0
Starts count kept loose t =
    (lines : List ℕ)
    → tally_of t lines
    ≡ record { lines = lines_at lines count; kept = kept; loose = loose; over = false; scan = start_scan }
