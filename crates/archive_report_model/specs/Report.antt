-- The yearly sheet (document 02, A12), here called a report: its contents, the call that adds an archive, and its share
-- of the receptions.
use Rattle.std.specs.Prelude.{ℕ, ◌+◌, ◌*◌, ◌/◌, ◌^◌, min, max, Bool, cond, not, ◌&&◌, ◌||◌, List, [], ◌∷◌, ltb, leb, eqb, length, get_or}
use Rattle.base_lists.specs.Lists.{all, pairwise, count}
use Rattle.base_refusal.specs.Number.{number_of}
use Rattle.base_refusal.specs.declared.Refusal.TheVariants.{Argument, NotAccepted, Transmitters}
use Rattle.archive_model.specs.Row.{Row}
use Rattle.archive_model.specs.Buffer.{max_rows, rows_in}
use Rattle.archive_model.specs.Append.{verdict}
use Rattle.archive_model.specs.Identity.{identity_of}

-- "for each of at most 256 transmitters the KEPT and LOOSE rows and the earliest and latest time"
pub record Line : Type 0 where
  pub identity : ℕ
  pub kept : ℕ
  pub loose : ℕ
  pub earliest : ℕ
  pub latest : ℕ

-- how many archives were added, the lines, and the totals
pub record Report : Type 0 where
  pub archives : ℕ
  pub lines : List Line
  pub kept : ℕ
  pub loose : ℕ

-- "over up to 64 archives", "at most 256 transmitters"
abbrev pub max_archives : ℕ
max_archives = 64

abbrev pub max_lines : ℕ
max_lines = 256

-- a report without archives
abbrev pub empty_report : Report
empty_report = record { archives = 0; lines = []; kept = 0; loose = 0 }

-- ---- one row more

-- the line of one row
abbrev pub line_of_row : Row → Line
line_of_row r = record {
  identity = identity_of r;
  kept = cond r.loose 0 1;
  loose = cond r.loose 1 0;
  earliest = r.time;
  latest = r.time;
}

-- one line from two lines of the same transmitter
abbrev pub merged_line : Line → Line → Line
merged_line a b = record {
  identity = a.identity;
  kept = a.kept + b.kept;
  loose = a.loose + b.loose;
  earliest = min a.earliest b.earliest;
  latest = max a.latest b.latest;
}

-- a line is inserted, "ordered by identity"; it is joined with a line of the same identity
unfoldable pub insert : Line → List Line → List Line
insert a [] = a ∷ []
insert a (b ∷ lines) =
    cond (ltb a.identity b.identity) (a ∷ b ∷ lines)
    (cond (eqb a.identity b.identity) (merged_line a b ∷ lines)
    (b ∷ insert a lines))

-- the lines after more rows
unfoldable pub add_rows : List Row → List Line → List Line
add_rows [] lines = lines
add_rows (r ∷ rows) lines = add_rows rows (insert (line_of_row r) lines)

-- "the KEPT and LOOSE rows"
abbrev pub loose_in : List Row → ℕ
loose_in rows = count (λ r. r.loose) rows

abbrev pub kept_in : List Row → ℕ
kept_in rows = count (λ r. not r.loose) rows

-- ---- the reports that archives give; the calls answer 11 for any other (`Sound` and `Complete` of Claims.antt prove
-- both directions)

-- how many rows a line has
abbrev pub rows_of_line : Line → ℕ
rows_of_line a = a.kept + a.loose

-- a line has at least one row; with exactly one row, earliest and latest time are equal
abbrev pub is_line : Line → Bool
is_line a =
    ltb a.identity (2 ^ 32)
    && (leb 1 (rows_of_line a)
    && (leb a.earliest a.latest
    && (ltb a.latest (2 ^ 64)
    && (ltb 1 (rows_of_line a) || eqb a.earliest a.latest))))

-- the identities of the lines rise
abbrev pub is_rising : List Line → Bool
is_rising lines = pairwise (λ a b. ltb a.identity b.identity) lines

-- the sum of a number over all lines
abbrev pub sum_by : (Line → ℕ) → List Line → ℕ
sum_by f [] = 0
sum_by f (a ∷ lines) = f a + sum_by f lines

-- lines in rising order of identity, with these sums
unfoldable pub is_tally : List Line → ℕ → ℕ → Bool
is_tally lines kept loose =
    all is_line lines
    && (is_rising lines
    && (eqb kept (sum_by (λ a. a.kept) lines)
    && eqb loose (sum_by (λ a. a.loose) lines)))

-- no more rows than that many archives can have
unfoldable pub is_report : Report → Bool
is_report s =
    leb s.archives max_archives
    && (leb (length s.lines) max_lines
    && (leb (s.kept + s.loose) (max_rows * s.archives)
    && is_tally s.lines s.kept s.loose))

-- ---- the calls

-- the number, the position that goes with 12, and the report after the call
pub record Addition : Type 0 where
  pub number : ℕ
  pub position : ℕ
  pub next : Report

abbrev pub addition : ℕ → ℕ → Report → Addition
addition number position next = record { number = number; position = position; next = next }

-- a report with the rows of one more archive
unfoldable pub added : Report → List Row → Report
added s rows = record {
  archives = s.archives + 1;
  lines = add_rows rows s.lines;
  kept = s.kept + kept_in rows;
  loose = s.loose + loose_in rows;
}

-- 11; 16 and 12 as `verdict` says; 10 for a 65th archive; 17 for a 257th transmitter; "a refused archive adds nothing"
unfoldable pub add_of : Report → List ℕ → Addition
add_of s buffer =
    cond (not (is_report s)) (addition (number_of NotAccepted) 0 s)
    (cond (not (eqb (verdict buffer).number 0)) (addition (verdict buffer).number (verdict buffer).position s)
    (cond (leb max_archives s.archives) (addition (number_of Argument) 0 s)
    (cond (ltb max_lines (length (add_rows (rows_in buffer) s.lines))) (addition (number_of Transmitters) 0 s)
    (addition 0 0 (added s (rows_in buffer))))))

-- the number, and the share in thousandths; 0 with a refusal
pub record Share : Type 0 where
  pub number : ℕ
  pub thousandths : ℕ

-- "the share of its rows in receptions, in whole thousandths rounded down": 11; then 10 if the number received is 0 or
-- less than the number of rows
unfoldable pub share_of : Report → ℕ → Share
share_of s received =
    cond (not (is_report s)) (record { number = number_of NotAccepted; thousandths = 0 })
    (cond (eqb received 0 || ltb received (s.kept + s.loose)) (record { number = number_of Argument; thousandths = 0 })
    (record { number = 0; thousandths = 1000 * (s.kept + s.loose) / received }))

-- line i, counted from 0: 11; then 10 if there is no line i
pub record LineAnswer : Type 0 where
  pub number : ℕ
  pub line : Line

abbrev pub no_line : Line
no_line = record { identity = 0; kept = 0; loose = 0; earliest = 0; latest = 0 }

-- line i of a report
unfoldable pub line_of_report : Report → ℕ → LineAnswer
line_of_report s i =
    cond (not (is_report s)) (record { number = number_of NotAccepted; line = no_line })
    (cond (leb (length s.lines) i) (record { number = number_of Argument; line = no_line })
    (record { number = 0; line = get_or s.lines i no_line }))
