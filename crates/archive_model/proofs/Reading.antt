-- Row i of an archive stands in block i / 15, in its cell i % 15.
--     cell-found, cell-long     the two cases of `cell_row`
--     row_at       what is answered, of a buffer that was written
--     row-short    and of any buffer: at most 21 bytes
--     row_field    which are the first of its cell's 21
use Prim.Native.Nat.{ℕ, ◌+◌, ◌*◌, ◌/◌, ◌%◌, ◌≤◌, ◌<◌}
use native.Mathlib.Decide.{dec_lt}
use native.Mathlib.Omega.{arith}
use mathlib.Core.Path.{◌≡◌, refl, sym, ap, ◌∙◌}
use mathlib.Core.Bool.{Bool, true, false, cond, ◌&&◌}
use mathlib.Core.List.{List}
use lib.Dec.{ltb}
use lib.ListN.{length, get_or, take}
use borrow.Author.Tests.{lt-ltb, le-ltb, le-leb, lt-leb, ltb-true}
use Rattle.base_refusal.specs.Number.{number_of}
use Rattle.base_refusal.specs.declared.Refusal.TheVariants.{Argument, Mismatch, Size}
use Rattle.block_layout.specs.Cell.{cell_length, cell_capacity, cell_used, cell_field, cell_bytes}
use Rattle.block_layout.specs.Block.{header_length, cells_per_block, block_length, block_cell}
use Rattle.base_lists.proofs.Tests.{by_test}
use Rattle.base_buffers.proofs.Buffer.{resized-length, resized_cut}
use Rattle.base_buffers.proofs.Segments.{part_at, part_length}
use Rattle.archive_model.specs.Row.{Row, rows_block, row_count, row_in}
use Rattle.archive_model.specs.Buffer.{blocks_for, rows_at, buffer_of, max_blocks, is_whole}
use Rattle.archive_model.specs.Append.{ReadRow, block_at, is_inside, cell_row, cell_at, row_at_of}
use Rattle.archive_model.proofs.Blocks.{Fits, no_row, short, shorts, row_back, count-back, written_cell}
use Rattle.archive_model.proofs.Buffers.{blank, blank_blank, blank_count, group_length, group_few, group_fits, used-block, free_block, buffer-length}
use Rattle.archive_model.proofs.Cursor.{written_whole}

-- a cell shows as many bytes as its length byte says
cell_shown : (cell : List ℕ) → length (row_in cell).bytes ≡ cell_used cell
unfolding cell_bytes
cell_shown cell = resized-length (cell_used cell) (cell_field cell)

module _ (cell : List ℕ) where
  pub cell_found : cell_used cell ≤ cell_capacity → cell_row cell ≡ (record { number = 0; row = row_in cell })
  unfolding cell_row
  cell_found h = rw (le-leb (cell_used cell) cell_capacity h)

  pub cell_long : cell_capacity < cell_used cell
      → cell_row cell ≡ (record { number = number_of Mismatch; row = no_row })
  unfolding cell_row
  cell_long h = rw (lt-leb (cell_used cell) cell_capacity h)

  cell_short : length (cell_row cell).row.bytes ≤ cell_capacity
  cell_short = elim (dec_lt cell_capacity (cell_used cell)) [
    | yes h ↦ rw (cell_long h) (omega arith)
    | no h ↦ rw (cell_found (omega arith)) (omega (arith, cell_shown cell))
  ]

-- what is answered, by whether there is such a row
abbrev answer : List Row → ℕ → Bool → ReadRow
answer rows i b =
    cond b (record { number = 0; row = get_or rows i no_row }) (record { number = number_of Argument; row = no_row })

module _ (rows : List Row) (m : ℕ) (fit : Fits rows)
    (few : length rows ≤ cells_per_block * m) (mb : m ≤ max_blocks) (i : ℕ) where
  abbrev k : ℕ
  k = i / cells_per_block

  abbrev buffer : List ℕ
  buffer = buffer_of (block_length * m) rows

  count : length buffer / block_length ≡ m
  count = omega (arith, buffer-length rows m fit few)

  -- the rows of its block
  abbrev group : List Row
  group = rows_at k rows

  used : k < blocks_for (length rows) → block_at k buffer ≡ rows_block k group
  used h = used-block rows m fit few k (omega arith) (omega arith)

  said : k < blocks_for (length rows) → row_count (block_at k buffer) ≡ length group
  said h = ap row_count (used h) ∙ count-back k group (group_fits rows fit k) (group_few rows k)

  past : blocks_for (length rows) ≤ k → k < m → row_count (block_at k buffer) ≡ 0
  past l h = ap row_count (free_block rows m fit few k l (omega arith)) ∙ blank_count blank blank_blank

  -- row i in its cell
  found : i < length rows → row_in (block_cell (i % cells_per_block) (block_at k buffer)) ≡ get_or rows i no_row
  unfolding Fits
  found h =
      let j = i % cells_per_block in
      let l : j < length group = omega (arith, group_length rows k) in
      let e : cells_per_block * k + j ≡ i = omega arith in
      ap (λ (b : List ℕ). row_in (block_cell j b)) (used (omega arith))
      ∙ ap row_in (written_cell k group (shorts group (group_fits rows fit k)) (group_few rows k) j l)
      ∙ row_back (get_or group j no_row) (group_fits rows fit k j l)
      ∙ part_at (cells_per_block * k) cells_per_block rows j no_row (omega arith)
      ∙ ap (λ (n : ℕ). get_or rows n no_row) e

  is_short : i < length rows → length (get_or rows i no_row).bytes ≤ cell_capacity
  unfolding Fits
  is_short h = short (fit i h)

  -- the two tests of the answer
  here : i < length rows → is_inside i buffer && ltb (i % cells_per_block) (row_count (block_at k buffer)) ≡ true
  here h =
      let a : k < length buffer / block_length = omega (arith, count) in
      let b : i % cells_per_block < row_count (block_at k buffer) =
      omega (arith, said (omega arith), group_length rows k) in
      rw (lt-ltb k (length buffer / block_length) a, lt-ltb (i % cells_per_block) (row_count (block_at k buffer)) b)

  away : length rows ≤ i → is_inside i buffer && ltb (i % cells_per_block) (row_count (block_at k buffer)) ≡ false
  away h = elim (dec_lt k m) [
    | yes l ↦
        let b : row_count (block_at k buffer) ≤ i % cells_per_block = elim (dec_lt k (blocks_for (length rows))) [
          | yes u ↦ omega (arith, said u, group_length rows k)
          | no u ↦ omega (arith, past (omega arith) l)
        ] in
        let a : k < length buffer / block_length = omega (arith, count) in
        rw (lt-ltb k (length buffer / block_length) a, le-ltb (i % cells_per_block) (row_count (block_at k buffer)) b)
    | no l ↦
        let a : length buffer / block_length ≤ k = omega (arith, count) in
        rw (le-ltb k (length buffer / block_length) a)
  ]

  pub row_at : row_at_of buffer i ≡ answer rows i (ltb i (length rows))
  unfolding row_at_of
  row_at = elim (dec_lt i (length rows)) [
    | yes h ↦
        let cell = block_cell (i % cells_per_block) (block_at k buffer) in
        let l : cell_used cell ≤ cell_capacity =
        omega (arith, cell_shown cell, ap (λ (r : Row). length r.bytes) (found h), is_short h) in
        rw (written_whole rows m fit few mb, here h, lt-ltb i (length rows) h, cell_found cell l, found h)
    | no h ↦
        let l : length rows ≤ i = omega arith in
        rw (written_whole rows m fit few mb, away l, le-ltb i (length rows) l)
  ]

pub row-short : (buffer : List ℕ) (i : ℕ) → length (row_at_of buffer i).row.bytes ≤ cell_capacity
unfolding row_at_of
row-short buffer i =
    let cell = block_cell (i % cells_per_block) (block_at (i / cells_per_block) buffer) in
    by_test {X = length (row_at_of buffer i).row.bytes ≤ cell_capacity} (is_whole (length buffer))
    (λ w.
    by_test {X = length (row_at_of buffer i).row.bytes ≤ cell_capacity}
    (is_inside i buffer && ltb (i % cells_per_block) (row_count (block_at (i / cells_per_block) buffer)))
    (λ t. rw (w, t) (cell_short cell))
    (λ f. rw (w, f) (omega arith)))
    (λ w. rw w (omega arith))

-- ---- the bytes of a row, where they stand

cell_field_lem : (cell : List ℕ) → length cell ≡ cell_length → (cell_row cell).number ≡ 0
    → take (length (cell_row cell).row.bytes) (cell_field cell) ≡ (cell_row cell).row.bytes
unfolding cell_bytes
cell_field_lem cell l z = elim (dec_lt cell_capacity (cell_used cell)) [
  | yes h ↦ absurd
      (let e : number_of Mismatch ≡ 0 = sym (ap (λ (r : ReadRow). r.number) (cell_long cell h)) ∙ z in omega arith)
  | no h ↦
      let field = cell_field cell in
      let long : length field ≡ cell_capacity = part_length 9 cell_capacity cell (omega arith) in
      let few : cell_used cell ≤ length field = omega arith in
      rw (cell_found cell (omega arith))
      (ap (λ (n : ℕ). take n field) (cell_shown cell) ∙ sym (resized_cut (cell_used cell) field few))
]

pub row_field : (buffer : List ℕ) (i : ℕ) → (row_at_of buffer i).number ≡ 0
    → take (length (row_at_of buffer i).row.bytes) (cell_field (cell_at i buffer)) ≡ (row_at_of buffer i).row.bytes
unfolding row_at_of
row_field buffer i z =
    go (is_whole (length buffer)) (is_inside i buffer)
    (ltb (i % cells_per_block) (row_count (block_at (i / cells_per_block) buffer))) refl refl refl
  where
    go : (w a b : Bool) → is_whole (length buffer) ≡ w → is_inside i buffer ≡ a
        → ltb (i % cells_per_block) (row_count (block_at (i / cells_per_block) buffer)) ≡ b
        → take (length (row_at_of buffer i).row.bytes) (cell_field (cell_at i buffer)) ≡ (row_at_of buffer i).row.bytes
    go false a b e f g = absurd (let n : number_of Size ≡ 0 = (rw e) ∙ z in omega arith)
    go true false b e f g = absurd (let n : number_of Argument ≡ 0 = (rw (e, f)) ∙ z in omega arith)
    go true true false e f g = absurd (let n : number_of Argument ≡ 0 = (rw (e, f, g)) ∙ z in omega arith)
    go true true true e f g =
        let inside = ltb-true (i / cells_per_block) (length buffer / block_length) f in
        let block : length (block_at (i / cells_per_block) buffer) ≡ block_length =
        part_length (block_length * (i / cells_per_block)) block_length buffer (omega arith) in
        let long : length (cell_at i buffer) ≡ cell_length =
        part_length (header_length + cell_length * (i % cells_per_block)) cell_length
        (block_at (i / cells_per_block) buffer) (omega arith) in
        let found : (cell_row (cell_at i buffer)).number ≡ 0 = (rw (e, f, g)) ∙ z in
        rw (e, f, g) (cell_field_lem (cell_at i buffer) long found)
