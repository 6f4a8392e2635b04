-- What is proved of archives (document 02, A2).
use Rattle.std.specs.Prelude.{ℕ, ◌+◌, ◌-◌, ◌*◌, ◌/◌, ◌%◌, ◌^◌, ◌≤◌, ◌<◌, ◌≡◌, Bool, true, false, cond, ◌&&◌, List, [], ◌∷◌, ◌++◌, map, ltb, eqb, length, get_or, take, replicate}
use Rattle.base_lists.specs.Lists.{all}
use Rattle.base_refusal.specs.Number.{number_of}
use Rattle.base_refusal.specs.declared.Refusal.TheVariants.{Argument}
use Rattle.base_crc8.specs.Crc8.{crc_of}
use Rattle.archive_model.specs.Row.{Row, rows_block, is_row}
use Rattle.archive_model.specs.Buffer.{None, buffer_of, is_whole, blocks_in, rows_in, mismatch, Scan, start_scan, scan_blocks, stage_found}
use Rattle.archive_model.specs.Append.{verdict, append_of, append_at_of, no_row, row_at_of}

-- a row that an archive can hold: a valid subtelegram, and a time below 2^64
abbrev pub is_fit : Row → Bool
is_fit r = is_row r && ltb r.time (2 ^ 64)

-- Sizes: only the length decides on 16. The lengths here: 0, one byte less than a block, a block, one byte more; 2^32
-- blocks, and one block more.
abbrev pub Sizes : Type 0
Sizes =
    map is_whole (0 ∷ 511 ∷ 512 ∷ 513 ∷ 2199023255552 ∷ 2199023256064 ∷ [])
    ≡ (true ∷ false ∷ true ∷ false ∷ true ∷ false ∷ [])

-- ---- the layout, byte by byte: a claim that reading undoes writing would hold for another layout too

-- byte i of the w bytes of n, the highest first
abbrev pub digit : ℕ → ℕ → ℕ → ℕ
digit w n i = n / 256 ^ (w - 1 - i) % 256

-- "rows laid out as parked entries, except that byte 30 of a row is 0 for KEPT and 1 for LOOSE": a row that begins at
-- byte a of a block
pub record LaidRow (block : List ℕ) (a : ℕ) (r : Row) : Type 0 where
  pub time : (i : ℕ) → i < 8 → get_or block (a + i) 0 ≡ digit 8 r.time i
  pub used : get_or block (a + 8) 0 ≡ length r.bytes
  -- filled with zeros up to 21
  pub bytes : (i : ℕ) → i < 21 → get_or block (a + (9 + i)) 0 ≡ get_or r.bytes i 0
  pub loose : get_or block (a + 30) 0 ≡ cond r.loose 1 0
  pub last : get_or block (a + 31) 0 ≡ 0

-- "number (4 bytes big-endian, from 0), row count 1 to 15 (1), zeros to byte 23, then rows ..; zeros to byte 510; the
-- CRC of bytes 0 to 510 in byte 511"
pub record Laid (k : ℕ) (rows : List Row) (block : List ℕ) : Type 0 where
  pub long : length block ≡ 512
  pub number : (i : ℕ) → i < 4 → get_or block i 0 ≡ digit 4 k i
  pub count : get_or block 4 0 ≡ length rows
  pub gap : (i : ℕ) → 5 ≤ i → i < 24 → get_or block i 0 ≡ 0
  pub each : (j : ℕ) → j < length rows → LaidRow block (24 + 32 * j) (get_or rows j no_row)
  pub behind : (i : ℕ) → 24 + 32 * length rows ≤ i → i < 511 → get_or block i 0 ≡ 0
  pub check : get_or block 511 0 ≡ crc_of (take 511 block)

-- Layout: block k of an archive has this layout, for every number k and all times.
abbrev pub Layout : Type 0
Layout = (k : ℕ) (rows : List Row) → length rows ≤ 15 → all is_row rows ≡ true → Laid k rows (rows_block k rows)

-- ---- reading and writing

-- Read back: rows that are written are read back, and every block matches.
abbrev pub ReadBack : Type 0
ReadBack =
    (m : ℕ) (rows : List Row) → m ≤ 2 ^ 32 → length rows ≤ 15 * m → all is_fit rows ≡ true
    → ((verdict (buffer_of (512 * m) rows)).number ≡ 0) × (rows_in (buffer_of (512 * m) rows) ≡ rows)

-- Exact archive: an archive is byte for byte what is written for its rows.
abbrev pub ExactArchive : Type 0
ExactArchive =
    (buffer : List ℕ) → (verdict buffer).number ≡ 0
    → (buffer_of (length buffer) (rows_in buffer) ≡ buffer) × (all is_fit (rows_in buffer) ≡ true)

-- ---- appends, one after the other

-- the buffer after the appends, and the rows whose append was answered 0
abbrev pub after_appends : List ℕ → List Row → List ℕ
after_appends buffer [] = buffer
after_appends buffer (r ∷ rows) = after_appends (append_of buffer r).buffer rows

abbrev pub rows_accepted : List ℕ → List Row → List Row
rows_accepted buffer [] = []
rows_accepted buffer (r ∷ rows) =
    cond (eqb (append_of buffer r).number 0) (r ∷ rows_accepted (append_of buffer r).buffer rows)
    (rows_accepted (append_of buffer r).buffer rows)

-- Run: "Reading back gives exactly the rows appended, in order."
abbrev pub WholeRun : Type 0
WholeRun =
    (m : ℕ) (rows : List Row) → m ≤ 2 ^ 32 → all (λ r. ltb r.time (2 ^ 64)) rows ≡ true
    → ((verdict (after_appends (replicate (512 * m) 0) rows)).number ≡ 0)
    × (rows_in (after_appends (replicate (512 * m) 0) rows) ≡ rows_accepted (replicate (512 * m) 0) rows)

-- At the cursor: an append as row n, where n is the number of rows, does the same as an append that reads all blocks.
-- If it is answered 0, there is one row more.
abbrev pub AtCursor : Type 0
AtCursor =
    (buffer : List ℕ) (r : Row) → (verdict buffer).number ≡ 0 → r.time < 2 ^ 64
    → (append_at_of buffer (length (rows_in buffer)) r ≡ append_of buffer r)
    × ((append_of buffer r).number ≡ 0 → length (rows_in (append_of buffer r).buffer) ≡ length (rows_in buffer) + 1)

-- Rows answered: row i of an archive is returned, or the answer is 10 if there is no row i.
abbrev pub RowsAnswered : Type 0
RowsAnswered =
    (buffer : List ℕ) (i : ℕ) → (verdict buffer).number ≡ 0
    → row_at_of buffer i
    ≡ cond (ltb i (length (rows_in buffer))) (record { number = 0; row = get_or (rows_in buffer) i no_row })
    (record { number = number_of Argument; row = no_row })

-- Short: for any buffer, a row that is returned has at most 21 bytes.
abbrev pub RowShort : Type 0
RowShort = (buffer : List ℕ) (i : ℕ) → length (row_at_of buffer i).row.bytes ≤ 21

-- Pieces: a scan of blocks in two pieces is one scan. A scan of all blocks finds the first that does not match, or how
-- many rows there are.
abbrev pub Pieces : Type 0
Pieces =
    ((s : Scan) (xs ys : List (List ℕ)) → scan_blocks s (xs ++ ys) ≡ scan_blocks (scan_blocks s xs) ys)
    × ((buffer : List ℕ) → stage_found (scan_blocks start_scan (blocks_in buffer)).stage ≡ mismatch buffer)
    × ((buffer : List ℕ) → mismatch buffer ≡ None
    → (scan_blocks start_scan (blocks_in buffer)).rows ≡ length (rows_in buffer))
