-- The layout of a block, byte by byte.
--     laid-row     a row in its cell
--     laid         a block
use Prim.Native.Nat.{ℕ, ◌+◌, ◌*◌, ◌≤◌, ◌<◌}
use native.Mathlib.Omega.{arith}
use mathlib.Core.Path.{◌≡◌, refl, sym, ap, ◌∙◌}
use mathlib.Core.Bool.{Bool, true, false, cond}
use mathlib.Core.List.{List, [], ◌∷◌, ◌++◌, map, flatten}
use lib.ListN.{length, get_or, take, length-append, length-map, get_or-append, get_or-eq_default}
use lib.Seq.{get_or_at, get_or-append-add}
use Rattle.base_lists.specs.Lists.{padded}
use Rattle.base_crc8.specs.Crc8.{crc_of}
use Rattle.block_layout.specs.BigEndian.{be}
use Rattle.block_layout.specs.Cell.{cell_length, cell_capacity, cell_of}
use Rattle.block_layout.specs.Block.{header_length, cells_per_block, body_length, sealed, block_of}
use Rattle.base_buffers.proofs.Segments.{part_at, flatten-length}
use Rattle.block_layout.proofs.BigEndian.{be-length, be_at}
use Rattle.base_buffers.proofs.Buffer.{padded-length, padded_at, zeros_after}
use Rattle.block_layout.proofs.Block.{block-crc}
use Rattle.archive_model.specs.Row.{Row, row_last, row_cell, rows_header, rows_block}
use Rattle.archive_model.specs.Claims.{digit, LaidRow, Laid}
use Rattle.archive_model.proofs.Blocks.{Shorts, no_row, header-length, each, written-length, written_count, written_cell}

-- ---- a row in its cell

-- bytes 30 and 31
mark : (b : Bool) → (get_or (be 2 (row_last b)) 0 0 ≡ cond b 1 0) × (get_or (be 2 (row_last b)) 1 0 ≡ 0)
unfolding be
mark true = (refl, refl)
mark false = (refl, refl)

module _ (r : Row) (short : length r.bytes ≤ cell_capacity) where
  abbrev to_used : List ℕ
  to_used = be 8 r.time ++ (length r.bytes ∷ [])

  abbrev to_field : List ℕ
  to_field = to_used ++ padded cell_capacity r.bytes

  used-length : length to_used ≡ 9
  used-length = length-append (be 8 r.time) (length r.bytes ∷ []) ∙ omega (arith, be-length 8 r.time)

  field_length : length to_field ≡ 30
  field_length =
      length-append to_used (padded cell_capacity r.bytes)
      ∙ omega (arith, used-length, padded-length cell_capacity r.bytes short)

  front : (i : ℕ) → i < 30 → get_or (row_cell r) i 0 ≡ get_or to_field i 0
  unfolding cell_of
  front i h = get_or-append to_field (be 2 (row_last r.loose)) 0 i (omega (arith, field_length))

  end : (i : ℕ) → get_or (row_cell r) (30 + i) 0 ≡ get_or (be 2 (row_last r.loose)) i 0
  unfolding cell_of
  end i =
      ap (λ (n : ℕ). get_or (row_cell r) (n + i) 0) (sym field_length)
      ∙ get_or-append-add to_field (be 2 (row_last r.loose)) i 0

  cell_time_lem : (i : ℕ) → i < 8 → get_or (row_cell r) i 0 ≡ digit 8 r.time i
  cell_time_lem i h =
      front i (omega arith) ∙ get_or-append to_used (padded cell_capacity r.bytes) 0 i (omega (arith, used-length))
      ∙ get_or-append (be 8 r.time) (length r.bytes ∷ []) 0 i (omega (arith, be-length 8 r.time))
      ∙ be_at 8 r.time i h

  cell_used_lem : get_or (row_cell r) 8 0 ≡ length r.bytes
  cell_used_lem =
      front 8 (omega arith) ∙ get_or-append to_used (padded cell_capacity r.bytes) 0 8 (omega (arith, used-length))
      ∙ get_or_at (be 8 r.time) (length r.bytes) [] 0 8 (be-length 8 r.time)

  cell_bytes_lem : (i : ℕ) → i < 21 → get_or (row_cell r) (9 + i) 0 ≡ get_or r.bytes i 0
  cell_bytes_lem i h =
      front (9 + i) (omega arith) ∙ ap (λ (n : ℕ). get_or to_field (n + i) 0) (sym used-length)
      ∙ get_or-append-add to_used (padded cell_capacity r.bytes) i 0
      ∙ padded_at cell_capacity r.bytes i

  -- the cell stands in a block
  pub laid_row : (block : List ℕ) (a : ℕ)
      → ((i : ℕ) → i < cell_length → get_or block (a + i) 0 ≡ get_or (row_cell r) i 0) → LaidRow block a r
  laid_row block a at = record {
    time = λ i h. at i (omega arith) ∙ cell_time_lem i h;
    used = at 8 (omega arith) ∙ cell_used_lem;
    bytes = λ i h. at (9 + i) (omega arith) ∙ cell_bytes_lem i h;
    loose = at 30 (omega arith) ∙ end 0 ∙ (mark r.loose).0;
    last = at 31 (omega arith) ∙ end 1 ∙ (mark r.loose).1;
  }

-- ---- a block

module _ (k : ℕ) (rows : List Row) (shorts : Shorts rows) (few : length rows ≤ cells_per_block) where
  abbrev n : ℕ
  n = length rows

  abbrev block : List ℕ
  block = rows_block k rows

  abbrev head : List ℕ
  head = rows_header k n

  abbrev cells : List ℕ
  cells = flatten (map row_cell rows)

  used : length (head ++ cells) ≡ header_length + cell_length * n
  used =
      length-append head cells
      ∙ omega (
        arith,
        header-length k n,
        flatten-length cell_length (map row_cell rows) (each k rows shorts few),
        length-map rows row_cell,
      )

  body_length_lem : length (padded body_length (head ++ cells)) ≡ body_length
  body_length_lem = padded-length body_length (head ++ cells) (omega (arith, used))

  -- what stands before the CRC
  body_at : (i : ℕ) → i < body_length → get_or block i 0 ≡ get_or (head ++ cells) i 0
  unfolding rows_block block_of sealed
  body_at i h =
      let body = padded body_length (head ++ cells) in
      get_or-append body (crc_of body ∷ []) 0 i (omega (arith, body_length_lem))
      ∙ padded_at body_length (head ++ cells) i

  head_at : (i : ℕ) → i < header_length → get_or block i 0 ≡ get_or (be 4 k ++ (n ∷ [])) i 0
  head_at i h =
      body_at i (omega arith) ∙ get_or-append head cells 0 i (omega (arith, header-length k n))
      ∙ zeros_after (be 4 k ++ (n ∷ [])) 19 i

  front_length : length (be 4 k ++ (n ∷ [])) ≡ 5
  front_length = length-append (be 4 k) (n ∷ []) ∙ omega (arith, be-length 4 k)

  number : (i : ℕ) → i < 4 → get_or block i 0 ≡ digit 4 k i
  number i h =
      head_at i (omega arith) ∙ get_or-append (be 4 k) (n ∷ []) 0 i (omega (arith, be-length 4 k)) ∙ be_at 4 k i h

  gap : (i : ℕ) → 5 ≤ i → i < 24 → get_or block i 0 ≡ 0
  gap i l h = head_at i h ∙ get_or-eq_default (be 4 k ++ (n ∷ [])) 0 (omega (arith, front_length))

  behind : (i : ℕ) → 24 + 32 * n ≤ i → i < 511 → get_or block i 0 ≡ 0
  behind i l h = body_at i h ∙ get_or-eq_default (head ++ cells) 0 (omega (arith, used))

  check : get_or block 511 0 ≡ crc_of (take 511 block)
  unfolding rows_block
  check =
      block-crc head (map row_cell rows) (header-length k n)
      (each k rows shorts few) (omega (arith, length-map rows row_cell))

  row_at : (j : ℕ) → j < n → LaidRow block (24 + 32 * j) (get_or rows j no_row)
  unfolding Shorts
  row_at j h =
      let r = get_or rows j no_row in
      laid_row r (shorts j h) block (24 + 32 * j)
      (λ i l. sym (part_at (header_length + cell_length * j) cell_length block i 0 l)
      ∙ ap (λ (c : List ℕ). get_or c i 0) (written_cell k rows shorts few j h))

  pub laid : Laid k rows block
  laid = record {
    long = written-length k rows shorts few;
    number = number;
    count = written_count k rows shorts few;
    gap = gap;
    each = row_at;
    behind = behind;
    check = check;
  }
