-- One block cut after its first rows.
--     rows-kept                 with another count and with zeros after its first rows, a sound block is what is written for them
--     first-none, first_some    the two cases of `first_rows`
--     block_size, block-unsound, block-few, block-has, block-done     the cases of `cut_block_of`, each from the facts that its tests give
use Prim.Native.Nat.{ℕ, ◌+◌, ◌-◌, ◌*◌, ◌≤◌, ◌<◌}
use native.Mathlib.Omega.{arith}
use mathlib.Core.Path.{◌≡◌, refl, sym, ap, ap₂, ◌∙◌}
use mathlib.Core.Bool.{true, false, ◌&&◌}
use mathlib.Core.List.{List, [], ◌∷◌, ◌++◌, map, flatten, append_assoc, map-append, map-map}
use lib.Dec.{leb}
use lib.ListN.{length, take, drop, replicate, length-append, length-map, length-replicate, length-take}
use lib.Seq.{take_at, drop-drop}
use borrow.Author.Tests.{eq-eqb, ne_eqb, le-leb, lt-leb}
use Rattle.base_lists.specs.Lists.{padded, up_from}
use Rattle.base_lists.proofs.Tests.{by_test}
use Rattle.base_lists.proofs.UpFrom.{length-up_from, up_from_add, map_same}
use Rattle.base_refusal.specs.Number.{number_of}
use Rattle.base_refusal.specs.declared.Refusal.TheVariants.{Mismatch, Size}
use Rattle.base_buffers.specs.Buffer.{part}
use Rattle.block_layout.specs.BigEndian.{be}
use Rattle.block_layout.specs.Cell.{cell_length}
use Rattle.block_layout.specs.Block.{header_length, body_length, block_length, sealed, block_of, block_cell}
use Rattle.base_buffers.proofs.Segments.{left, last, whole, part_join}
use Rattle.block_layout.proofs.BigEndian.{be-length}
use Rattle.archive_model.specs.Row.{Row, row_cell, rows_header, rows_block, block_number, row_count, row_in, rows_of, is_sound}
use Rattle.archive_model.proofs.Blocks.{head_part}
use Rattle.archive_model.proofs.Buffers.{pieces}
use Rattle.archive_model.proofs.Pieces.{rows-count}
use Rattle.archive_model.proofs.Exact.{tests, sound_is, sound_few, sound_shorts, row_is, cell_is}
use Rattle.archive_file.specs.Archive.{sound_count}
use Rattle.archive_cut.specs.Cut.{first_rows, cut_block_of}
use Rattle.archive_cut.specs.Private.{kept_rows}

-- ---- the bytes

module _ (b : List ℕ) (sound : is_sound b ≡ true) (m : ℕ) (few : m ≤ row_count b) where
  abbrev k : ℕ
  k = block_number b

  abbrev rows : List Row
  rows = rows_of b

  -- the first rows, one by one
  rows_are : take m rows ≡ map (λ i. row_in (block_cell i b)) (up_from 0 m)
  unfolding rows_of
  rows_are =
      let read : ℕ → Row = λ i. row_in (block_cell i b) in
      let n = row_count b - m in
      let e : row_count b ≡ m + n = omega arith in
      ap (λ (c : ℕ). take m (map read (up_from 0 c))) e
      ∙ ap (take m) (ap (map read) (up_from_add 0 m n) ∙ map-append read (up_from 0 m) (up_from (0 + m) n))
      ∙ take_at (map read (up_from 0 m)) (map read (up_from (0 + m) n)) m
      (length-map (up_from 0 m) read ∙ length-up_from 0 m)

  -- their cells are after the header
  cells_are : flatten (map row_cell (take m rows)) ≡ part header_length (cell_length * m) b
  cells_are =
      ap (λ (l : List Row). flatten (map row_cell l)) rows_are
      ∙ ap flatten
      (map-map row_cell (λ i. row_in (block_cell i b)) (up_from 0 m)
      ∙ map_same (λ i. row_cell (row_in (block_cell i b)))
      (λ i. part (cell_length * i) cell_length (drop header_length b)) 0 m
      (λ i p h.
      let l : i < length rows = omega (arith, rows-count b) in
      ap row_cell (sym (row_is b sound i l)) ∙ sym (cell_is b sound i l)
      ∙ ap (take cell_length) (sym (drop-drop (cell_length * i) header_length b))))
      ∙ pieces cell_length (drop header_length b) 0 m

  head_is : (a w : ℕ) → a + w ≤ header_length → part a w b ≡ part a w (rows_header k (length rows))
  head_is a w h =
      ap (part a w) (sym (sound_is b sound)) ∙ head_part k rows (sound_shorts b sound) (sound_few b sound) a w h

  abbrev said : List ℕ
  said = be 4 k ++ (length rows ∷ [])

  said-length : length said ≡ 5
  said-length = simp (length-append, be-length)

  number_is : part 0 4 b ≡ be 4 k
  number_is =
      head_is 0 4 (omega arith) ∙ left said (replicate 19 0) 5 0 4 said-length (omega arith)
      ∙ left (be 4 k) (length rows ∷ []) 4 0 4 (be-length 4 k) (omega arith) ∙ whole (be 4 k) 4 (be-length 4 k)

  gap_is : part 5 19 b ≡ replicate 19 0
  gap_is = head_is 5 19 (omega arith) ∙ last said (replicate 19 0) 5 19 said-length (length-replicate {A = ℕ} 19 0)

  front_is : part 0 4 b ++ (m ∷ []) ++ part 5 (header_length + cell_length * m - 5) b
      ≡ rows_header k m ++ flatten (map row_cell (take m rows))
  front_is =
      let e : header_length + cell_length * m - 5 ≡ 19 + cell_length * m = omega arith in
      ap (λ (n : ℕ). part 0 4 b ++ (m ∷ []) ++ part 5 n b) e
      ∙ ap (λ (l : List ℕ). part 0 4 b ++ (m ∷ []) ++ l) (sym (part_join 5 19 (cell_length * m) header_length b refl))
      ∙ sym (append_assoc (part 0 4 b ++ (m ∷ [])) (part 5 19 b) (part header_length (cell_length * m) b))
      ∙ ap₂ (λ (x y : List ℕ). x ++ (m ∷ []) ++ y ++ part header_length (cell_length * m) b) number_is gap_is
      ∙ ap (λ (l : List ℕ). rows_header k m ++ l) (sym cells_are)

  pub rows-kept : kept_rows m b ≡ rows_block k (take m rows)
  unfolding kept_rows rows_block block_of
  rows-kept =
      let n : m ≡ length (take m rows) = sym (length-take m rows ∙ omega (arith, rows-count b)) in
      ap (λ (l : List ℕ). sealed (padded body_length l)) front_is
      ∙ ap (λ (c : ℕ). sealed (padded body_length (rows_header k c ++ flatten (map row_cell (take m rows))))) n

-- ---- the cases

pub first_none : (b : List ℕ) → replicate block_length 0 ≡ first_rows 0 b
unfolding first_rows
first_none b = refl

pub first_some : (m : ℕ) (b : List ℕ) → (m ≡ 0 → ⊥) → rows_block (block_number b) (take m (rows_of b)) ≡ first_rows m b
unfolding first_rows
first_some m b h = rw (ne_eqb m 0 h)

module _ (m : ℕ) (b : List ℕ) where
  pub block_size : (length b ≡ block_length → ⊥) → (record { number = number_of Size; block = b }) ≡ cut_block_of m b
  unfolding cut_block_of
  block_size h = rw (ne_eqb (length b) block_length h)

  module _ (long : length b ≡ block_length) where
    other : is_sound b && leb m (row_count b) ≡ false
        → (record { number = number_of Mismatch; block = b }) ≡ cut_block_of m b
    unfolding cut_block_of
    other h = rw (eq-eqb (length b) block_length long, h)

    pub block_unsound : sound_count b ≡ 0 → (record { number = number_of Mismatch; block = b }) ≡ cut_block_of m b
    block_unsound e =
        other
        (by_test {X = is_sound b && leb m (row_count b) ≡ false} (is_sound b)
        (λ t. absurd (let z : row_count b ≡ 0 = rw t at e in omega (arith, (tests b t).0)))
        (λ f. rw f refl))

    pub block_few : sound_count b < m → (record { number = number_of Mismatch; block = b }) ≡ cut_block_of m b
    block_few h =
        other
        (by_test {X = is_sound b && leb m (row_count b) ≡ false} (is_sound b)
        (λ t. let l : row_count b < m = rw t at h in rw t (lt-leb m (row_count b) l))
        (λ f. rw f refl))

    -- a block that has so many rows
    pub block_has : (sound_count b ≡ 0 → ⊥) → m ≤ sound_count b → (is_sound b ≡ true) × (m ≤ row_count b)
    block_has some h =
        by_test {X = (is_sound b ≡ true) × (m ≤ row_count b)} (is_sound b)
        (λ t. (t, rw t at h))
        (λ f. absurd (some (rw f refl)))

    pub block-done : is_sound b ≡ true → m ≤ row_count b
        → (record { number = 0; block = first_rows m b }) ≡ cut_block_of m b
    unfolding cut_block_of
    block-done t h = rw (eq-eqb (length b) block_length long, t, le-leb m (row_count b) h)
