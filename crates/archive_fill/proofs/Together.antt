-- Rows put one after the other are their cells behind each other, with the header and the CRC of the last one.
--     row-long                                        the cell of a valid row has 32 bytes
--     put-length, put-cells, put-behind, put_next     a block after a row was put: its length, the cells up to that one, what stands behind it, and the
--                                                     row that it says is next
--     together, put-together                          cells, header and CRC once for all rows; that this is what `put_rows` says
use Prim.Native.Nat.{ℕ, ◌+◌, ◌-◌, ◌*◌, ◌/◌, ◌%◌, ◌≤◌, ◌<◌}
use native.Mathlib.Omega.{arith}
use mathlib.Core.Path.{◌≡◌, sym, ap, ap₂, ◌∙◌}
use mathlib.Core.Bool.{true}
use mathlib.Core.List.{List, [], ◌∷◌, ◌++◌, map, flatten, append_assoc, append-nil}
use lib.ListN.{length, get_or, drop, take, replicate, length-append, get_or-append}
use lib.Seq.{get_or_at, drop-drop}
use borrow.Author.Tests.{eqb-true, eq-eqb, ne_eqb}
use Rattle.base_lists.specs.Lists.{all}
use Rattle.base_lists.proofs.Choice.{both}
use Rattle.base_crc8.specs.Crc8.{crc_of}
use Rattle.radio_erp1.specs.Subtelegram.{check_of}
use Rattle.radio_erp1.proofs.Checks.{check_facts}
use Rattle.base_buffers.specs.Buffer.{part}
use Rattle.base_buffers.proofs.Segments.{part_length, part_at, part-take, left, right, last, whole}
use Rattle.block_layout.specs.BigEndian.{be, unbe}
use Rattle.block_layout.specs.Cell.{cell_length}
use Rattle.block_layout.specs.Block.{header_length, cells_per_block, body_length, block_length, sealed}
use Rattle.block_layout.proofs.BigEndian.{be-length, unbe-be}
use Rattle.block_layout.proofs.Cell.{cell_length_lem}
use Rattle.archive_model.specs.Row.{Row, row_last, row_cell, rows_header, block_number, row_count, is_row}
use Rattle.archive_model.specs.Buffer.{max_rows}
use Rattle.archive_model.specs.Append.{put_row, is_next}
use Rattle.archive_model.proofs.Blocks.{header-length}
use Rattle.archive_fill.specs.Fill.{put_rows}

pub row-long : (r : Row) → is_row r ≡ true → length (row_cell r) ≡ cell_length
row-long r v =
    cell_length_lem r.time r.bytes (row_last r.loose)
    (check_facts r.bytes (eqb-true (check_of r.bytes) 0 v)).high

-- ---- one row

module _ (n : ℕ) (r : Row) (block : List ℕ) (long : length block ≡ block_length)
    (cell : length (row_cell r) ≡ cell_length) where
  abbrev used : ℕ
  used = n % cells_per_block

  -- where the cells end up to this one
  abbrev end : ℕ
  end = header_length + cell_length * (used + 1)

  abbrev head : List ℕ
  head = rows_header (n / cells_per_block) (used + 1)

  abbrev before : List ℕ
  before = part header_length (cell_length * used) block

  abbrev front : List ℕ
  front = head ++ before ++ row_cell r

  abbrev behind : List ℕ
  behind = part end (body_length - end) block

  before_long : length before ≡ cell_length * used
  before_long = part_length header_length (cell_length * used) block (omega arith)

  head_long : length (head ++ before) ≡ header_length + cell_length * used
  head_long = length-append head before ∙ omega (arith, header-length (n / cells_per_block) (used + 1), before_long)

  front_long : length front ≡ end
  front_long = length-append (head ++ before) (row_cell r) ∙ omega (arith, head_long)

  body_long : length (front ++ behind) ≡ body_length
  body_long =
      length-append front behind ∙ omega (arith, front_long, part_length end (body_length - end) block (omega arith))

  pub put-length : length (put_row n r block) ≡ block_length
  unfolding put_row sealed
  put-length = length-append (front ++ behind) (crc_of (front ++ behind) ∷ []) ∙ omega (arith, body_long)

  in_body : (a w : ℕ) → a + w ≤ body_length → part a w (put_row n r block) ≡ part a w (front ++ behind)
  unfolding put_row sealed
  in_body a w h = left (front ++ behind) (crc_of (front ++ behind) ∷ []) body_length a w body_long h

  pub put-cells : part header_length (cell_length * (used + 1)) (put_row n r block) ≡ before ++ row_cell r
  put-cells =
      let w = cell_length * (used + 1) in
      in_body header_length w (omega arith) ∙ left front behind end header_length w front_long (omega arith)
      ∙ ap (part header_length w) (append_assoc head before (row_cell r))
      ∙ last head (before ++ row_cell r) header_length w (header-length (n / cells_per_block) (used + 1))
      (length-append before (row_cell r) ∙ omega (arith, before_long))

  pub put_behind : (m : ℕ) → used + 1 ≤ m → m ≤ cells_per_block
      → part (header_length + cell_length * m) (body_length - (header_length + cell_length * m)) (put_row n r block)
      ≡ part (header_length + cell_length * m) (body_length - (header_length + cell_length * m)) block
  put_behind m l h =
      let at = header_length + cell_length * m in
      let w = body_length - at in
      let e : at ≡ end + (at - end) = omega arith in
      in_body at w (omega arith) ∙ ap (λ (a : ℕ). part a w (front ++ behind)) e
      ∙ right front behind end (at - end) w front_long
      ∙ part-take (at - end) w (body_length - end) (drop end block) (omega arith)
      ∙ ap (take w) (drop-drop (at - end) end block)
      ∙ ap (λ (a : ℕ). part a w block) (sym e)

  -- the header as it stands
  in_head : part 0 header_length (put_row n r block) ≡ head
  in_head =
      in_body 0 header_length (omega arith) ∙ left front behind end 0 header_length front_long (omega arith)
      ∙ left (head ++ before) (row_cell r) (header_length + cell_length * used) 0 header_length head_long (omega arith)
      ∙ left head before header_length 0 header_length (header-length (n / cells_per_block) (used + 1)) (omega arith)
      ∙ whole head header_length (header-length (n / cells_per_block) (used + 1))

  number_is : n < max_rows → block_number (put_row n r block) ≡ n / cells_per_block
  number_is h =
      let k = n / cells_per_block in
      ap unbe
      (sym (part-take 0 4 header_length (put_row n r block) (omega arith)) ∙ ap (part 0 4) in_head
      ∙ left (be 4 k ++ ((used + 1) ∷ [])) (replicate 19 0) 5 0 4 (simp (length-append, be-length)) (omega arith)
      ∙ left (be 4 k) ((used + 1) ∷ []) 4 0 4 (be-length 4 k) (omega arith) ∙ whole (be 4 k) 4 (be-length 4 k))
      ∙ unbe-be 4 k (omega arith)

  count_is : row_count (put_row n r block) ≡ used + 1
  count_is =
      let k = n / cells_per_block in
      sym (part_at 0 header_length (put_row n r block) 4 0 (omega arith)) ∙ ap (λ (l : List ℕ). get_or l 4 0) in_head
      ∙ get_or-append (be 4 k ++ ((used + 1) ∷ [])) (replicate 19 0) 0 4
      (simp (length-append, be-length) (omega arith))
      ∙ get_or_at (be 4 k) (used + 1) [] 0 4 (be-length 4 k)

  pub put_next : n < max_rows → used + 1 < cells_per_block → is_next (n + 1) (put_row n r block) ≡ true
  put_next near room =
      let b = put_row n r block in
      let some : (n + 1) % cells_per_block ≡ 0 → ⊥ = λ z. omega arith in
      let number : block_number b ≡ (n + 1) / cells_per_block = number_is near ∙ omega arith in
      let count : row_count b ≡ (n + 1) % cells_per_block = count_is ∙ omega arith in
      rw (
        ne_eqb ((n + 1) % cells_per_block) 0 some,
        eq-eqb (block_number b) ((n + 1) / cells_per_block) number,
        eq-eqb (row_count b) ((n + 1) % cells_per_block) count,
      )

-- ---- all rows

-- the header with the count of all rows, the cells before them, theirs, what stood behind, and the CRC
unfoldable pub together : ℕ → List Row → List ℕ → List ℕ
together n rows block =
    sealed
    (rows_header (n / cells_per_block) (n % cells_per_block + length rows)
    ++ part header_length (cell_length * (n % cells_per_block)) block
    ++ flatten (map row_cell rows)
    ++ part (header_length + cell_length * (n % cells_per_block + length rows))
    (body_length - (header_length + cell_length * (n % cells_per_block + length rows))) block)

one : (n : ℕ) (r : Row) (block : List ℕ) → put_row n r block ≡ together n (r ∷ []) block
unfolding put_row together flatten
one n r block =
    let c : n % cells_per_block + 1 ≡ n % cells_per_block + length (r ∷ []) = omega arith in
    rw (append-nil (row_cell r), ← c)

-- a row that is put, and then the others together
more : (n : ℕ) (r : Row) (rows : List Row) (block : List ℕ)
    → length block ≡ block_length → length (row_cell r) ≡ cell_length → 0 < length rows
    → n % cells_per_block + length (r ∷ rows) ≤ cells_per_block
    → together (n + 1) rows (put_row n r block) ≡ together n (r ∷ rows) block
unfolding together flatten
more n r rows block long cell some few =
    let u = n % cells_per_block in
    let k = n / cells_per_block in
    let m = u + 1 + length rows in
    let e : (n + 1) % cells_per_block ≡ u + 1 = omega arith in
    let q : (n + 1) / cells_per_block ≡ k = omega arith in
    let c : m ≡ u + length (r ∷ rows) = omega arith in
    let cells = flatten (map row_cell rows) in
    let old = part header_length (cell_length * u) block in
    let rest : ℕ → List ℕ → List ℕ =
    λ w b. part (header_length + cell_length * w) (body_length - (header_length + cell_length * w)) b in
    rw (e, q)
    (ap₂ (λ (x y : List ℕ). sealed (rows_header k m ++ x ++ cells ++ y)) (put-cells n r block long cell)
    (put_behind n r block long cell m (omega arith) (omega arith))
    ∙ ap (λ (x : List ℕ). sealed (x ++ cells ++ rest m block)) (sym (append_assoc (rows_header k m) old (row_cell r)))
    ∙ ap (λ (x : List ℕ). sealed (x ++ rest m block)) (append_assoc (rows_header k m ++ old) (row_cell r) cells)
    ∙ ap (λ (w : ℕ). sealed (rows_header k w ++ old ++ (row_cell r ++ cells) ++ rest w block)) c)

pub put_together : (n : ℕ) (rows : List Row) (block : List ℕ) → length block ≡ block_length → 0 < length rows
    → n % cells_per_block + length rows ≤ cells_per_block → all is_row rows ≡ true
    → put_rows n rows block ≡ together n rows block
unfolding put_rows
put_together n [] block long some few valid = absurd (omega arith)
put_together n (r ∷ []) block long some few valid = one n r block
put_together n (r ∷ s ∷ rows) block long some few valid =
    let v = both (is_row r) (all is_row (s ∷ rows)) valid in
    let cell = row-long r v.0 in
    put_together (n + 1) (s ∷ rows) (put_row n r block)
    (put-length n r block long cell) (omega arith) (omega arith) v.1
    ∙ more n r (s ∷ rows) block long cell (omega arith) few
