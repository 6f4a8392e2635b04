-- A block that was not written by us, tested where it stands: it is byte for byte what would be written of its rows.
--     written-long, written-rest, written_last, written_row      the test of a cell
--     cells-first, cells-next, cells-none                        the loop over the cells
--     not_sound                                                  a block that fails a test is not sound
--     sound-gap, sound-cells, sound-zeros, sound-crc             what a sound block passes
--     tested                                                     a block that passes all is sound
use Prim.Native.Nat.{ℕ, zero, suc, ◌+◌, ◌-◌, ◌*◌, ◌≤◌, ◌<◌}
use native.Mathlib.Nat.{zero-add}
use native.Mathlib.Numerals.{add-one}
use native.Mathlib.Omega.{arith}
use mathlib.Core.Path.{◌≡◌, refl, sym, ap, ap₂, ◌∙◌}
use mathlib.Core.Bool.{Bool, true, false, not, ◌&&◌}
use mathlib.Core.List.{List, [], ◌∷◌, ◌++◌, map, flatten, map-map}
use lib.Dec.{eqb}
use lib.ListN.{length, get_or, take, drop, replicate, length-append, length-map, length-replicate, length-drop}
use lib.Seq.{take_all, take-add, take-suc, drop_at, drop-drop, get_or-drop}
use borrow.Author.Tests.{eqb-true, le-leb}
use Rattle.base_lists.specs.Lists.{all, equal, padded, up_from}
use Rattle.base_lists.proofs.Choice.{both}
use Rattle.base_lists.proofs.Equal.{equal_eq, equal-refl}
use Rattle.base_lists.proofs.Tests.{and-true, by_test, all_get_d}
use Rattle.base_lists.proofs.UpFrom.{length-up_from, get_d_up_from, map_same}
use Rattle.base_crc8.specs.Crc8.{crc_of}
use Rattle.base_buffers.specs.Buffer.{part}
use Rattle.block_layout.specs.BigEndian.{be}
use Rattle.block_layout.specs.Cell.{cell_length, cell_capacity, cell_of, cell_time, cell_used, cell_field, cell_bytes, cell_last}
use Rattle.block_layout.specs.Block.{header_length, cells_per_block, body_length, block_length, sealed, block_of, block_cell}
use Rattle.base_buffers.proofs.Segments.{part_length, left, last, flatten-length}
use Rattle.base_buffers.proofs.Buffer.{padded-length}
use Rattle.block_layout.proofs.BigEndian.{be-length, be_front}
use Rattle.block_layout.proofs.Cell.{cell_field_lem, cell_last_lem}
use Rattle.block_layout.proofs.Block.{block-crc}
use Rattle.archive_model.specs.Row.{Row, row_last, row_cell, rows_header, rows_block, block_number, row_count, row_in, rows_of, is_row, is_sound, is_blank}
use Rattle.archive_model.proofs.Blocks.{header-length, head_part, last_lt, each}
use Rattle.archive_model.proofs.Buffers.{pieces}
use Rattle.archive_model.proofs.Pieces.{rows-count}
use Rattle.archive_model.proofs.Exact.{sound_is, sound_few, sound_shorts, sound_long, tests, valid_at, row_is, cell_is, zeros}
use Rattle.archive_file.specs.Archive.{sound_count}
use Rattle.archive_file.specs.Private.{is_written, cells_from}
use Rattle.archive_file.proofs.Cells.{bytes-shown, long-row, used_is}

not_equal : (xs ys : List ℕ) → (xs ≡ ys → ⊥) → equal xs ys ≡ false
not_equal xs ys n =
    by_test {X = equal xs ys ≡ false} (equal xs ys) (λ t. absurd (n (equal_eq xs ys (rw t tt)))) (λ f. f)

and-false : (a : Bool) {b : Bool} → b ≡ false → false ≡ a && b
and-false true e = sym e
and-false false e = refl

zeros_blank : (n : ℕ) → is_blank (replicate n 0) ≡ true
zeros_blank zero = refl
zeros_blank (suc n) = zeros_blank n

-- a test passes for numbers in a row
all_up : {A : Type 0} (p : A → Bool) (f : ℕ → A) (a n : ℕ)
    → ((i : ℕ) → a ≤ i → i < a + n → p (f i) ≡ true) → all p (map f (up_from a n)) ≡ true
unfolding up_from
all_up p f a zero h = refl
all_up p f a (suc n) h =
    and-true (h a (omega arith) (omega arith)) (all_up p f (suc a) n (λ i k l. h i (omega arith) (omega arith)))

-- ---- one cell

-- bytes 30 and 31 are those of a row
last_ok : (x : ℕ) → not (eqb x 0) && not (eqb x 256) ≡ false → x ≡ row_last (eqb x (row_last true))
last_ok x h =
    by_test {X = x ≡ row_last (eqb x 256)} (eqb x 256)
    (λ t. rw t (eqb-true x 256 t))
    (λ f.
    by_test {X = x ≡ row_last (eqb x 256)} (eqb x 0)
    (λ z. rw f (eqb-true x 0 z))
    (λ z. absurd (let q : true ≡ false = (rw (f, z) at h) in let w : ◌≡◌ {A = ℕ} 0 1 = cc in omega arith)))

last_bad : (x : ℕ) → not (eqb x 0) && not (eqb x 256) ≡ true → (b : Bool) → x ≡ row_last b → ⊥
last_bad x h true e = let q : false ≡ true = (rw e at h) in let w : ◌≡◌ {A = ℕ} 0 1 = cc in omega arith
last_bad x h false e = let q : false ≡ true = (rw e at h) in let w : ◌≡◌ {A = ℕ} 0 1 = cc in omega arith

module _ (cell : List ℕ) where
  pub written-long : cell_capacity < cell_used cell → false ≡ is_written cell
  written-long h = rw (sym (long-row cell h))

  module _ (l : length cell ≡ cell_length) (short : cell_used cell ≤ cell_capacity) where
    abbrev len : ℕ
    len = cell_used cell

    -- what stands behind the bytes
    abbrev rest : List ℕ
    rest = part (9 + len) (30 - (9 + len)) cell

    field_split : cell_field cell ≡ cell_bytes cell ++ rest
    field_split =
        let e : cell_capacity ≡ len + (30 - (9 + len)) = omega arith in
        let d : 9 + len - 9 ≡ len = omega arith in
        ap (λ (n : ℕ). take n (drop 9 cell)) e ∙ take-add len (30 - (9 + len)) (drop 9 cell)
        ∙ ap₂ ◌++◌ (ap (λ (n : ℕ). part 9 n cell) (sym d) ∙ bytes-shown cell len l refl short)
        (ap (take (30 - (9 + len))) (drop-drop len 9 cell))

    bytes-short : length (cell_bytes cell) ≤ cell_capacity
    bytes-short = omega (arith, used_is cell)

    zeros_are : row_cell (row_in cell) ≡ cell → is_blank rest ≡ true
    zeros_are e =
        let bytes = cell_bytes cell in
        let f : bytes ++ rest ≡ padded cell_capacity bytes =
        sym field_split ∙ ap cell_field (sym e)
        ∙ cell_field_lem (cell_time cell) bytes (row_last (row_in cell).loose) bytes-short in
        let z : rest ≡ replicate (cell_capacity - length bytes) 0 =
        sym (drop_at bytes rest len (used_is cell)) ∙ ap (drop len) f
        ∙ drop_at bytes (replicate (cell_capacity - length bytes) 0) len (used_is cell) in
        ap is_blank z ∙ zeros_blank (cell_capacity - length bytes)

    last_is : row_cell (row_in cell) ≡ cell → cell_last cell ≡ row_last (row_in cell).loose
    last_is e =
        ap cell_last (sym e)
        ∙ cell_last_lem (cell_time cell) (cell_bytes cell)
        (row_last (row_in cell).loose) bytes-short (last_lt (row_in cell).loose)

    parts : take 8 cell ++ (len ∷ []) ++ cell_field cell ++ part 30 2 cell ≡ cell
    parts =
        ap (λ (x : List ℕ). x ++ cell_field cell ++ part 30 2 cell) (sym (take-suc cell 8 0 (omega arith)))
        ∙ ap (λ (x : List ℕ). x ++ part 30 2 cell) (sym (take-add 9 cell_capacity cell))
        ∙ sym (take-add 30 2 cell) ∙ take_all 32 cell (omega arith)

    again : ((i : ℕ) → get_or cell i 0 < 256) → is_blank rest ≡ true
        → cell_last cell ≡ row_last (row_in cell).loose → row_cell (row_in cell) ≡ cell
    unfolding cell_of
    again small z e =
        let bytes = cell_bytes cell in
        let n : length rest ≡ cell_capacity - length bytes =
        part_length (9 + len) (30 - (9 + len)) cell (omega arith) ∙ omega (arith, used_is cell) in
        let f : padded cell_capacity bytes ≡ cell_field cell =
        ap (λ (x : List ℕ). bytes ++ x) (sym (zeros rest z ∙ ap (λ m. replicate m 0) n)) ∙ sym field_split in
        let t : be 8 (cell_time cell) ≡ take 8 cell = be_front 8 cell (omega arith) small in
        let w : be 2 (row_last (row_in cell).loose) ≡ part 30 2 cell =
        ap (be 2) (sym e)
        ∙ be_front 2 (drop 30 cell) (omega (arith, length-drop 30 cell))
        (λ i. rw (get_or-drop 30 cell i 0) (small (30 + i))) in
        ap₂ (λ (x y : List ℕ). x ++ (length bytes ∷ []) ++ y ++ be 2 (row_last (row_in cell).loose)) t f
        ∙ ap₂ (λ (m : ℕ) (y : List ℕ). take 8 cell ++ (m ∷ []) ++ cell_field cell ++ y) (used_is cell) w ∙ parts

    pub written_rest : is_blank rest ≡ false → false ≡ is_written cell
    written_rest f =
        and-false (is_row (row_in cell))
        (not_equal (row_cell (row_in cell)) cell
        (λ e. let q : true ≡ false = sym (zeros_are e) ∙ f in let w : ◌≡◌ {A = ℕ} 0 1 = cc in omega arith))

    pub written_last : not (eqb (cell_last cell) 0) && not (eqb (cell_last cell) 256) ≡ true → false ≡ is_written cell
    written_last h =
        and-false (is_row (row_in cell))
        (not_equal (row_cell (row_in cell)) cell (λ e. last_bad (cell_last cell) h (row_in cell).loose (last_is e)))

    pub written_row : ((i : ℕ) → get_or cell i 0 < 256) → is_blank rest ≡ true
        → not (eqb (cell_last cell) 0) && not (eqb (cell_last cell) 256) ≡ false
        → is_row (row_in cell) ≡ is_written cell
    written_row small z h =
        let e = again small z (last_ok (cell_last cell) h) in
        let t : equal (row_cell (row_in cell)) cell ≡ true = ap (λ (x : List ℕ). equal x cell) e ∙ equal-refl cell in
        sym (ap (λ (b : Bool). is_row (row_in cell) && b) t
        ∙ by_test {X = is_row (row_in cell) && true ≡ is_row (row_in cell)}
        (is_row (row_in cell)) (λ p. rw p) (λ p. rw p))

-- ---- the cells of a block

module _ (block : List ℕ) where
  pub cells_first : (used : ℕ) → all is_written (cells_from block 0 (used - 0))
      ≡ all is_written (cells_from block 0 used)
  cells_first used =
      let e : used - 0 ≡ used = omega arith in
      rw e

  pub cells_next : (used i : ℕ) → i < used
      → all is_written (cells_from block i (used - i))
      ≡ is_written (block_cell i block) && all is_written (cells_from block (i + 1) (used - (i + 1)))
  unfolding cells_from up_from
  cells_next used i h =
      let e : used - i ≡ suc (used - (i + 1)) = omega arith in
      rw (e, add-one)

  pub cells_none : (used i : ℕ) → used ≤ i → all is_written (cells_from block i (used - i)) ≡ true
  unfolding cells_from up_from
  cells_none used i h =
      let e : used - i ≡ 0 = omega arith in
      rw e

-- ---- a sound block passes every test

module _ (b : List ℕ) where
  pub not_sound : (is_sound b ≡ true → ⊥) → 0 ≡ sound_count b
  not_sound n = by_test {X = 0 ≡ sound_count b} (is_sound b) (λ t. absurd (n t)) (λ f. rw f)

  pub other_length : (length b ≡ block_length → ⊥) → 0 ≡ sound_count b
  other_length h = not_sound (λ s. h (sound_long b s))

  pub count_low : row_count b < 1 → 0 ≡ sound_count b
  count_low h = not_sound (λ s. omega (arith, (tests b s).0))

  pub count-high : cells_per_block < row_count b → 0 ≡ sound_count b
  count-high h = not_sound (λ s. omega (arith, (tests b s).1))

  -- a test that a sound block passes
  pub fails : (p : Bool) → (is_sound b ≡ true → p ≡ true) → p ≡ false → 0 ≡ sound_count b
  fails p h f = not_sound (λ s. let q : true ≡ false = sym (h s) ∙ f in let w : ◌≡◌ {A = ℕ} 0 1 = cc in omega arith)

  module _ (s : is_sound b ≡ true) where
    abbrev rows : List Row
    rows = rows_of b

    abbrev k : ℕ
    k = block_number b

    pub sound_gap : is_blank (part 5 19 b) ≡ true
    sound_gap =
        let e : part 5 19 b ≡ replicate 19 0 =
        ap (part 5 19) (sym (sound_is b s)) ∙ head_part k rows (sound_shorts b s) (sound_few b s) 5 19 (omega arith)
        ∙ last (be 4 k ++ (length rows ∷ [])) (replicate 19 0) 5 19 (simp (length-append, be-length)) refl in
        ap is_blank e

    abbrev head : List ℕ
    head = rows_header k (length rows)

    abbrev cells : List ℕ
    cells = flatten (map row_cell rows)

    abbrev behind : List ℕ
    behind = replicate (body_length - length (head ++ cells)) 0

    used_long : length (head ++ cells) ≡ header_length + cell_length * row_count b
    used_long =
        length-append head cells
        ∙ omega (
          arith,
          header-length k (length rows),
          flatten-length cell_length (map row_cell rows) (each k rows (sound_shorts b s) (sound_few b s)),
          length-map rows row_cell,
          rows-count b,
        )

    few : row_count b ≤ cells_per_block
    few = (tests b s).1

    body_long : length (head ++ cells ++ behind) ≡ body_length
    body_long = padded-length body_length (head ++ cells) (omega (arith, used_long, few))

    block_is : rows_block k rows ≡ head ++ cells ++ behind ++ (crc_of (head ++ cells ++ behind) ∷ [])
    unfolding rows_block block_of sealed
    block_is = refl

    pub sound_zeros : is_blank
        (part (header_length + cell_length * row_count b) (body_length - (header_length + cell_length * row_count b)) b)
        ≡ true
    sound_zeros =
        let a = header_length + cell_length * row_count b in
        let e : part a (body_length - a) b ≡ behind =
        ap (part a (body_length - a)) (sym (sound_is b s) ∙ block_is)
        ∙ left (head ++ cells ++ behind) (crc_of (head ++ cells ++ behind) ∷ []) body_length a
        (body_length - a) body_long (omega (arith, few))
        ∙ last (head ++ cells) behind a (body_length - a) used_long
        (length-replicate (body_length - length (head ++ cells)) 0 ∙ omega (arith, used_long)) in
        ap is_blank e ∙ zeros_blank (body_length - length (head ++ cells))

    pub sound_crc : crc_of (part 0 body_length b) ≡ get_or b body_length 0
    unfolding rows_block
    sound_crc =
        let c : get_or (rows_block k rows) body_length 0 ≡ crc_of (take body_length (rows_block k rows)) =
        block-crc head (map row_cell rows) (header-length k (length rows))
        (each k rows (sound_shorts b s) (sound_few b s)) (omega (arith, length-map rows row_cell, sound_few b s)) in
        sym (rw (sound_is b s) at c)

    pub sound_cells : all is_written (cells_from b 0 (row_count b)) ≡ true
    unfolding cells_from
    sound_cells = all_up is_written (λ i. block_cell i b) 0 (row_count b) (λ i k h. at i (omega arith))
      where
        at : (i : ℕ) → i < row_count b → is_written (block_cell i b) ≡ true
        at i h =
            let l : i < length (rows_of b) = omega (arith, rows-count b) in
            let v : is_row (row_in (block_cell i b)) ≡ true = ap is_row (sym (row_is b s i l)) ∙ valid_at b s i l in
            let e : row_cell (row_in (block_cell i b)) ≡ block_cell i b =
            ap row_cell (sym (row_is b s i l)) ∙ sym (cell_is b s i l) in
            and-true v (ap (λ (x : List ℕ). equal x (block_cell i b)) e ∙ equal-refl (block_cell i b))

-- ---- and a block that passes is sound

module _ (b : List ℕ) (l : length b ≡ block_length) (small : (i : ℕ) → get_or b i 0 < 256)
    (some : 1 ≤ row_count b) (few : row_count b ≤ cells_per_block)
    (gap : is_blank (part 5 19 b) ≡ true) (ok : all is_written (cells_from b 0 (row_count b)) ≡ true)
    (end : is_blank
    (part (header_length + cell_length * row_count b) (body_length - (header_length + cell_length * row_count b)) b)
    ≡ true)
    (crc : crc_of (part 0 body_length b) ≡ get_or b body_length 0) where
  abbrev u : ℕ
  u = row_count b

  abbrev at : ℕ
  at = header_length + cell_length * u

  cells_count : length (cells_from b 0 u) ≡ u
  unfolding cells_from
  cells_count = length-map (up_from 0 u) (λ i. block_cell i b) ∙ length-up_from 0 u

  -- each cell
  cell_ok : (i : ℕ) → i < u → (is_row (row_in (block_cell i b)) ≡ true)
      × (row_cell (row_in (block_cell i b)) ≡ block_cell i b)
  unfolding cells_from
  cell_ok i h =
      let c = block_cell i b in
      let is : get_or (cells_from b 0 u) i [] ≡ c =
      get_d_up_from (λ j. block_cell j b) 0 u i [] h ∙ ap (λ j. block_cell j b) (zero-add i) in
      let p =
      both (is_row (row_in c)) _
      (ap is_written (sym is) ∙ all_get_d is_written (cells_from b 0 u) i [] ok (omega (arith, cells_count))) in
      (p.0, equal_eq (row_cell (row_in c)) c (rw p.1 tt))

  all_rows : all is_row (rows_of b) ≡ true
  unfolding rows_of
  all_rows = all_up is_row (λ i. row_in (block_cell i b)) 0 u (λ i k h. (cell_ok i (omega arith)).0)

  -- the cells are written again
  cells_are : flatten (map row_cell (rows_of b)) ≡ part header_length (cell_length * u) b
  unfolding rows_of
  cells_are =
      ap flatten
      (map-map row_cell (λ i. row_in (block_cell i b)) (up_from 0 u)
      ∙ map_same (λ i. row_cell (row_in (block_cell i b)))
      (λ i. part (cell_length * i) cell_length (drop header_length b)) 0 u
      (λ i p h. (cell_ok i (omega arith)).1
      ∙ ap (take cell_length) (sym (drop-drop (cell_length * i) header_length b))))
      ∙ pieces cell_length (drop header_length b) 0 u

  header_are : rows_header (block_number b) u ≡ take header_length b
  header_are =
      let z : replicate 19 0 ≡ part 5 19 b =
      sym (zeros (part 5 19 b) gap ∙ ap (λ n. replicate n 0) (part_length 5 19 b (omega arith))) in
      ap₂ (λ (x y : List ℕ). x ++ (u ∷ []) ++ y) (be_front 4 b (omega arith) small) z
      ∙ ap (λ (x : List ℕ). x ++ part 5 19 b) (sym (take-suc b 4 0 (omega arith))) ∙ sym (take-add 5 19 b)

  body_are : padded body_length (rows_header (block_number b) (length (rows_of b))
      ++ flatten (map row_cell (rows_of b)))
      ≡ take body_length b
  body_are =
      let f : rows_header (block_number b) (length (rows_of b)) ++ flatten (map row_cell (rows_of b)) ≡ take at b =
      ap₂ (λ (n : ℕ) (x : List ℕ). rows_header (block_number b) n ++ x) (rows-count b) cells_are
      ∙ ap (λ (x : List ℕ). x ++ part header_length (cell_length * u) b) header_are
      ∙ sym (take-add header_length (cell_length * u) b) in
      let n : length (take at b) ≡ at = part_length 0 at b (omega arith) in
      let z : replicate (body_length - at) 0 ≡ part at (body_length - at) b =
      sym (zeros (part at (body_length - at) b) end
      ∙ ap (λ m. replicate m 0) (part_length at (body_length - at) b (omega arith))) in
      let e : at + (body_length - at) ≡ body_length = omega arith in
      ap (padded body_length) f ∙ ap (λ (m : ℕ). take at b ++ replicate (body_length - m) 0) n
      ∙ ap (λ (x : List ℕ). take at b ++ x) z
      ∙ sym (take-add at (body_length - at) b) ∙ ap (λ (m : ℕ). take m b) e

  block_are : rows_block (block_number b) (rows_of b) ≡ b
  unfolding rows_block block_of sealed
  block_are =
      ap sealed body_are ∙ ap (λ (c : ℕ). take body_length b ++ (c ∷ [])) crc
      ∙ sym (take-suc b body_length 0 (omega arith)) ∙ take_all block_length b (omega arith)

  pub tested : is_sound b ≡ true
  unfolding is_sound
  tested =
      and-true (le-leb 1 u some)
      (and-true (le-leb u cells_per_block few)
      (and-true all_rows (ap (λ (x : List ℕ). equal x b) block_are ∙ equal-refl b)))
