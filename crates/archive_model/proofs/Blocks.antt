-- One block of rows: what is read of it is what was written.
--     Fit, Fits, Shorts     a row that a cell holds; rows that do; rows whose bytes alone are known to be short enough
--     row_back        a row is read back from its cell
--     written-length, written-number, written_count, written-cell     what stands in a block whose rows are short enough
--     rows_back       and the rows of a block from the block
--     block-sound     which is sound, and says its number
use Prim.Native.Nat.{ℕ, suc, ◌+◌, ◌^◌, ◌≤◌, ◌<◌}
use native.Mathlib.Nat.{zero-add}
use native.Mathlib.Omega.{arith}
use mathlib.Core.Path.{◌≡◌, refl, sym, ap, ap₂, ◌∙◌}
use mathlib.Core.Bool.{Bool, true, false}
use mathlib.Core.List.{List, [], ◌∷◌, ◌++◌, map}
use lib.ListN.{length, get_or, replicate, length-append, length-map, get_or-append}
use lib.Seq.{ext_get_or, get_or_at}
use lib.Dec.{eqb}
use borrow.Author.Tests.{le-leb, eqb-true}
use Rattle.base_lists.specs.Lists.{equal, all, up_from}
use Rattle.base_lists.proofs.Equal.{equal-refl}
use Rattle.base_lists.proofs.Tests.{and-true, get_d_map}
use Rattle.base_lists.proofs.UpFrom.{length-up_from, get_d_up_from}
use Rattle.radio_erp1.specs.Subtelegram.{max_length, check_of}
use Rattle.radio_erp1.proofs.Checks.{check_facts}
use Rattle.base_buffers.specs.Buffer.{part}
use Rattle.block_layout.specs.BigEndian.{be, unbe}
use Rattle.block_layout.specs.Cell.{cell_length}
use Rattle.block_layout.specs.Block.{header_length, cells_per_block, block_length, block_header, block_cell}
use Rattle.base_buffers.proofs.Segments.{part_at, part-take, left, whole, Each}
use Rattle.block_layout.proofs.BigEndian.{be-length, unbe-be}
use Rattle.block_layout.proofs.Cell.{cell_length_lem, cell_time_lem, cell_bytes_lem, cell_last_lem}
use Rattle.block_layout.proofs.Block.{block-length, block-header, block_cell_lem}
use Rattle.archive_model.specs.Row.{Row, row_last, row_cell, rows_header, rows_block, block_number, row_count, row_in, rows_of, is_row, is_sound}

-- a row that a cell holds: a valid subtelegram, and a time of 64 bits
pub record Fit (r : Row) : Type 0 where
  pub valid : is_row r ≡ true
  pub time : r.time < 2 ^ 64

pub short : {r : Row} → Fit r → length r.bytes ≤ max_length
short {r} f = (check_facts r.bytes (eqb-true (check_of r.bytes) 0 f.valid)).high

pub last_lt : (b : Bool) → row_last b < 2 ^ 16
last_lt true = omega arith
last_lt false = omega arith

last_back : (b : Bool) → eqb (row_last b) (row_last true) ≡ b
last_back true = refl
last_back false = refl

pub row_back : (r : Row) → Fit r → row_in (row_cell r) ≡ r
row_back r f =
    let t = cell_time_lem r.time r.bytes (row_last r.loose) (short f) f.time in
    let b = cell_bytes_lem r.time r.bytes (row_last r.loose) (short f) in
    let l = cell_last_lem r.time r.bytes (row_last r.loose) (short f) (last_lt r.loose) in
    let k = ap (λ (n : ℕ). eqb n (row_last true)) l ∙ last_back r.loose in
    λ j. record { bytes = b j; time = t j; loose = k j }

pub header-length : (k n : ℕ) → length (rows_header k n) ≡ header_length
header-length k n = simp (length-append, be-length)

abbrev pub no_row : Row
no_row = record { bytes = []; time = 0; loose = false }

unfoldable pub Fits : List Row → Type 0
Fits rows = (i : ℕ) → i < length rows → Fit (get_or rows i (record { bytes = []; time = 0; loose = false }))

pub all_from : (p : Row → Bool) (l : List Row) → ((i : ℕ) → i < length l → p (get_or l i no_row) ≡ true)
    → all p l ≡ true
all_from p [] h = refl
all_from p (x ∷ l) h = and-true (h 0 (omega arith)) (all_from p l (λ i k. h (suc i) (omega arith)))

-- rows whose bytes a cell holds
unfoldable pub Shorts : List Row → Type 0
Shorts rows =
    (i : ℕ) → i < length rows
    → length (get_or rows i (record { bytes = []; time = 0; loose = false })).bytes ≤ max_length

pub shorts : (rows : List Row) → Fits rows → Shorts rows
unfolding Fits Shorts
shorts rows fit i h = short (fit i h)

-- ---- where the rows are short enough, whatever their times are

module _ (k : ℕ) (rows : List Row) (fit : Shorts rows) (few : length rows ≤ cells_per_block) where
  abbrev n : ℕ
  n = length rows

  abbrev cells : List (List ℕ)
  cells = map row_cell rows

  pub cell_at : (i : ℕ) → i < n → get_or cells i [] ≡ row_cell (get_or rows i no_row)
  cell_at i h = get_d_map row_cell rows i no_row [] h

  pub each : Each cell_length cells
  unfolding Shorts
  each i h =
      let l : i < n = rw (length-map rows row_cell) at h in
      let r = get_or rows i no_row in
      ap length (cell_at i l) ∙ cell_length_lem r.time r.bytes (row_last r.loose) (fit i l)

  cells_few : length cells ≤ cells_per_block
  cells_few = omega (arith, length-map rows row_cell)

  pub written-length : length (rows_block k rows) ≡ block_length
  unfolding rows_block
  written-length = block-length _ _ (header-length k n) each cells_few

  header_is : block_header (rows_block k rows) ≡ rows_header k n
  unfolding rows_block
  header_is = block-header _ _ (header-length k n) each cells_few

  -- what stands in the first 24 bytes
  pub head_part : (a w : ℕ) → a + w ≤ header_length → part a w (rows_block k rows) ≡ part a w (rows_header k n)
  head_part a w h = sym (part-take a w header_length (rows_block k rows) h) ∙ ap (part a w) header_is

  pub written-number : k < 2 ^ 32 → block_number (rows_block k rows) ≡ k
  written-number h =
      ap unbe
      (head_part 0 4 (omega arith)
      ∙ left (be 4 k ++ (n ∷ [])) (replicate 19 0) 5 0 4 (simp (length-append, be-length)) (omega arith)
      ∙ left (be 4 k) (n ∷ []) 4 0 4 (be-length 4 k) (omega arith) ∙ whole (be 4 k) 4 (be-length 4 k))
      ∙ unbe-be 4 k h

  pub written_count : row_count (rows_block k rows) ≡ n
  written_count =
      sym (part_at 0 header_length (rows_block k rows) 4 0 (omega arith)) ∙ ap (λ (l : List ℕ). get_or l 4 0) header_is
      ∙ get_or-append (be 4 k ++ (n ∷ [])) (replicate 19 0) 0 4 (simp (length-append, be-length) (omega arith))
      ∙ get_or_at (be 4 k) n [] 0 4 (be-length 4 k)

  pub written_cell : (i : ℕ) → i < n → block_cell i (rows_block k rows) ≡ row_cell (get_or rows i no_row)
  unfolding rows_block
  written_cell i h =
      block_cell_lem _ _ (header-length k n) each cells_few i (omega (arith, length-map rows row_cell)) ∙ cell_at i h

-- ---- where they fit

module _ (k : ℕ) (rows : List Row) (fit : Fits rows) (few : length rows ≤ cells_per_block) where
  pub rows-block-length : length (rows_block k rows) ≡ block_length
  rows-block-length = written-length k rows (shorts rows fit) few

  pub number-back : k < 2 ^ 32 → block_number (rows_block k rows) ≡ k
  number-back = written-number k rows (shorts rows fit) few

  pub count-back : row_count (rows_block k rows) ≡ length rows
  count-back = written_count k rows (shorts rows fit) few

  pub rows_back : rows_of (rows_block k rows) ≡ rows
  unfolding rows_of Fits
  rows_back =
      let block = rows_block k rows in
      let read : ℕ → Row = λ i. row_in (block_cell i block) in
      let long : length (map read (up_from 0 (row_count block))) ≡ length rows =
      length-map (up_from 0 (row_count block)) read ∙ length-up_from 0 (row_count block) ∙ count-back in
      ext_get_or no_row (map read (up_from 0 (row_count block))) rows long
      (λ i h.
      let l : i < length rows = omega (arith, long) in
      get_d_up_from read 0 (row_count block) i no_row (omega (arith, count-back)) ∙ ap read (zero-add i)
      ∙ ap row_in (written_cell k rows (shorts rows fit) few i l) ∙ row_back (get_or rows i no_row) (fit i l))

  all_valid : all is_row rows ≡ true
  unfolding Fits
  all_valid = all_from is_row rows (λ i h. (fit i h).valid)

  pub block_sound : 1 ≤ length rows → k < 2 ^ 32 → is_sound (rows_block k rows) ≡ true
  unfolding is_sound
  block_sound h l =
      let block = rows_block k rows in
      let a : 1 ≤ row_count block = omega (arith, count-back) in
      let b : row_count block ≤ cells_per_block = omega (arith, count-back) in
      and-true (le-leb 1 (row_count block) a)
      (and-true (le-leb (row_count block) cells_per_block b)
      (and-true (ap (all is_row) rows_back ∙ all_valid)
      (ap₂ (λ (m : ℕ) (l : List Row). equal (rows_block m l) block) (number-back l) rows_back ∙ equal-refl block)))
