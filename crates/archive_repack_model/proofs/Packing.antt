-- The packer: cells in pieces fill the same blocks as all of them at once, and the blocks of all rows are the archive.
--     full-append, push-append        pushing one list and then another is pushing both
--     cells-block-length, few-blocks, one_block, push-none      a block's length; few cells: they wait, or fill one block
--     block-cells, archive-cells      a block and an archive by their cells
use Prim.Native.Nat.{ℕ, zero, suc, ◌+◌, ◌-◌, ◌*◌, ◌/◌, ◌%◌, ◌≤◌, ◌<◌}
use native.Mathlib.Nat.{zero-add, add-zero, add_assoc}
use native.Mathlib.Decide.{dec_lt}
use native.Mathlib.Omega.{arith}
use mathlib.Core.Path.{◌≡◌, refl, sym, ap, ap₂, ◌∙◌}
use mathlib.Core.List.{List, [], ◌∷◌, ◌++◌, map, flatten, append_assoc, append-nil, map-append}
use lib.ListN.{length, take, drop, length-append, length-drop}
use lib.Seq.{take_all, take_at, take-add, take-nil, drop-drop, drop-append-le, drop_at, get_or-drop}
use borrow.Author.Tests.{eq-eqb, ne_eqb}
use Rattle.base_lists.specs.Lists.{padded, up_from}
use Rattle.base_lists.proofs.UpFrom.{up_from_add, map_shift, map_same}
use Rattle.base_lists.proofs.Parts.{flatten_append}
use Rattle.base_buffers.specs.Buffer.{part}
use Rattle.block_layout.specs.Cell.{cell_length}
use Rattle.block_layout.specs.Block.{cells_per_block, body_length, block_length, sealed, block_of}
use Rattle.base_buffers.proofs.Segments.{left}
use Rattle.base_buffers.proofs.Buffer.{padded-length}
use Rattle.block_layout.proofs.Cell.{cell_length_lem}
use Rattle.archive_model.specs.Row.{Row, row_last, row_cell, rows_header, rows_block}
use Rattle.archive_model.specs.Buffer.{blocks_for, rows_at, archive_of}
use Rattle.archive_model.proofs.Blocks.{Fit, Fits, no_row, short, header-length}
use Rattle.archive_model.proofs.Buffers.{group_fits}
use Rattle.archive_repack_model.specs.Packer.{Packing, start_packing, full_length, cells_block, full_blocks, pushed_blocks, pushed, waiting_block, cells_of}

-- ---- two lists of cells

module _ (xs ys : List ℕ) where
  abbrev n : ℕ
  n = length xs / full_length

  abbrev rest : List ℕ
  rest = drop (full_length * n) xs ++ ys

  both_drop : drop (full_length * n) (xs ++ ys) ≡ rest
  both_drop = drop-append-le (full_length * n) xs ys (omega arith)

  rest_length : length rest ≡ length xs - full_length * n + length ys
  rest_length =
      length-append (drop (full_length * n) xs) ys ∙ ap (λ (k : ℕ). k + length ys) (length-drop (full_length * n) xs)

  both_count : length (xs ++ ys) / full_length ≡ n + length rest / full_length
  both_count = omega (arith, length-append xs ys, rest_length)

  pub full_append : (k : ℕ) → full_blocks k (xs ++ ys) ≡ full_blocks k xs ++ full_blocks (k + n) rest
  unfolding full_blocks
  full_append k =
      let f : ℕ → List ℕ = λ j. cells_block (k + j) (part (full_length * j) full_length (xs ++ ys)) in
      let m = length rest / full_length in
      ap (λ (c : ℕ). flatten (map f (up_from 0 c))) both_count
      ∙ ap (λ (l : List ℕ). flatten (map f l))
      (up_from_add 0 n m ∙ ap (λ (c : ℕ). up_from 0 n ++ up_from c m) (zero-add n ∙ sym (add-zero n)))
      ∙ ap flatten (map-append f (up_from 0 n) (up_from (n + 0) m))
      ∙ flatten_append (map f (up_from 0 n)) (map f (up_from (n + 0) m))
      ∙ ap₂ ◌++◌
      (ap flatten (map_same f (λ j. cells_block (k + j) (part (full_length * j) full_length xs)) 0 n
      (λ j l h. ap (cells_block (k + j)) (left xs ys (length xs) (full_length * j) full_length refl (omega arith)))))
      (ap flatten (map_shift f n 0 m
      ∙ map_same (λ j. f (n + j)) (λ j. cells_block (k + n + j) (part (full_length * j) full_length rest)) 0 m
      (λ j l h.
      let e : full_length * (n + j) ≡ full_length * n + full_length * j = omega arith in
      ap₂ cells_block (sym (add_assoc k n j))
      (ap (λ (a : ℕ). part a full_length (xs ++ ys)) e
      ∙ ap (take full_length)
      (sym (drop-drop (full_length * j) (full_length * n) (xs ++ ys)) ∙ ap (drop (full_length * j)) both_drop)))))

-- ---- pushing

module _ (p : Packing) where
  abbrev w : List ℕ
  w = p.waiting

  pub push_waits : (cells : List ℕ) → length (pushed p cells).waiting < full_length
  unfolding pushed
  push_waits cells = omega (arith, length-drop (full_length * (length (w ++ cells) / full_length)) (w ++ cells))

  pub blocks_append : (xs ys : List ℕ) → pushed_blocks p (xs ++ ys)
      ≡ pushed_blocks p xs ++ pushed_blocks (pushed p xs) ys
  unfolding pushed
  blocks_append xs ys = ap (full_blocks p.next) (sym (append_assoc w xs ys)) ∙ full_append (w ++ xs) ys p.next

  pub push_append : (xs ys : List ℕ) → pushed p (xs ++ ys) ≡ pushed (pushed p xs) ys
  unfolding pushed
  push_append xs ys =
      let n = length (w ++ xs) / full_length in
      let m = length (drop (full_length * n) (w ++ xs) ++ ys) / full_length in
      let count : length (w ++ (xs ++ ys)) / full_length ≡ n + m =
      ap (λ (l : List ℕ). length l / full_length) (sym (append_assoc w xs ys)) ∙ both_count (w ++ xs) ys in
      let next : p.next + length (w ++ (xs ++ ys)) / full_length ≡ p.next + n + m = omega (arith, count) in
      let e : full_length * (n + m) ≡ full_length * n + full_length * m = omega arith in
      let waits : drop (full_length * (length (w ++ (xs ++ ys)) / full_length)) (w ++ (xs ++ ys))
      ≡ drop (full_length * m) (drop (full_length * n) (w ++ xs) ++ ys) =
      ap₂ (λ (c : ℕ) (l : List ℕ). drop (full_length * c) l) count (sym (append_assoc w xs ys))
      ∙ ap (λ (c : ℕ). drop c (w ++ xs ++ ys)) e ∙ sym (drop-drop (full_length * m) (full_length * n) (w ++ xs ++ ys))
      ∙ ap (drop (full_length * m)) (both_drop (w ++ xs) ys) in
      λ j. record { next = next j; waiting = waits j }

pub cells-block-length : (k : ℕ) (cells : List ℕ)
    → length cells ≤ full_length → length (cells_block k cells) ≡ block_length
unfolding cells_block sealed
cells-block-length k cells h =
    let head = rows_header k (length cells / cell_length) in
    let long : length (padded body_length (head ++ cells)) ≡ body_length =
    padded-length body_length (head ++ cells)
    (omega (arith, length-append head cells, header-length k (length cells / cell_length))) in
    length-append (padded body_length (head ++ cells)) _ ∙ omega (arith, long)

-- fewer than 15 cells fill no block
pub few_blocks : (k : ℕ) (cells : List ℕ) → length cells < full_length → full_blocks k cells ≡ []
unfolding full_blocks flatten up_from
few_blocks k cells h =
    let e : length cells / full_length ≡ 0 = omega arith in
    rw e

-- 15 to 29 cells fill one
pub one_block : (k : ℕ) (cells : List ℕ) → full_length ≤ length cells
    → length cells < full_length + full_length → full_blocks k cells ≡ cells_block k (take full_length cells)
unfolding full_blocks flatten up_from
one_block k cells h l =
    let e : length cells / full_length ≡ 1 = omega arith in
    rw (e, add-zero k) (append-nil (cells_block k (take full_length cells)))

pub push_none : (p : Packing) → length p.waiting < full_length → (pushed_blocks p [] ≡ []) × (pushed p [] ≡ p)
unfolding pushed
push_none p h =
    let e : length p.waiting / full_length ≡ 0 = omega arith in (
      ap (full_blocks p.next) (append-nil p.waiting) ∙ few_blocks p.next p.waiting h,
      rw (append-nil p.waiting, e, add-zero p.next),
    )

-- ---- the cells of rows

drop_nil : (n : ℕ) → drop {A = ℕ} n [] ≡ []
drop_nil zero = refl
drop_nil (suc n) = refl

row-length : (r : Row) → Fit r → length (row_cell r) ≡ cell_length
row-length r f = cell_length_lem r.time r.bytes (row_last r.loose) (short f)

head_fits : (r : Row) (rows : List Row) → Fits (r ∷ rows) → Fit r
unfolding Fits
head_fits r rows f = f 0 (omega arith)

tail_fits : (r : Row) (rows : List Row) → Fits (r ∷ rows) → Fits rows
unfolding Fits
tail_fits r rows f i h = f (suc i) (omega arith)

pub cells-length : (rows : List Row) → Fits rows → length (cells_of rows) ≡ cell_length * length rows
unfolding flatten
cells-length [] f = refl
cells-length (r ∷ rows) f =
    length-append (row_cell r) (cells_of rows)
    ∙ omega (arith, row-length r (head_fits r rows f), cells-length rows (tail_fits r rows f))

drop_cells : (n : ℕ) (rows : List Row) → Fits rows → drop (cell_length * n) (cells_of rows) ≡ cells_of (drop n rows)
unfolding flatten
drop_cells zero rows f = refl
drop_cells (suc n) [] f = drop_nil (cell_length * suc n)
drop_cells (suc n) (r ∷ rows) f =
    let e : cell_length * suc n ≡ cell_length + cell_length * n = omega arith in
    ap (λ (a : ℕ). drop a (row_cell r ++ cells_of rows)) e
    ∙ sym (drop-drop (cell_length * n) cell_length (row_cell r ++ cells_of rows))
    ∙ ap (drop (cell_length * n)) (drop_at (row_cell r) (cells_of rows) cell_length (row-length r (head_fits r rows f)))
    ∙ drop_cells n rows (tail_fits r rows f)

take_cells : (n : ℕ) (rows : List Row) → Fits rows → take (cell_length * n) (cells_of rows) ≡ cells_of (take n rows)
unfolding flatten
take_cells zero rows f = refl
take_cells (suc n) [] f = take-nil (cell_length * suc n)
take_cells (suc n) (r ∷ rows) f =
    let e : cell_length * suc n ≡ cell_length + cell_length * n = omega arith in
    let l = row-length r (head_fits r rows f) in
    ap (λ (a : ℕ). take a (row_cell r ++ cells_of rows)) e
    ∙ take-add cell_length (cell_length * n) (row_cell r ++ cells_of rows)
    ∙ ap₂ (λ (x y : List ℕ). x ++ take (cell_length * n) y)
    (take_at (row_cell r) (cells_of rows) cell_length l) (drop_at (row_cell r) (cells_of rows) cell_length l)
    ∙ ap (λ (x : List ℕ). row_cell r ++ x) (take_cells n rows (tail_fits r rows f))

-- ---- the blocks of rows

pub block-cells : (k : ℕ) (rows : List Row) → Fits rows → rows_block k rows ≡ cells_block k (cells_of rows)
unfolding rows_block block_of cells_block
block-cells k rows f =
    let e : length rows ≡ length (cells_of rows) / cell_length = omega (arith, cells-length rows f) in
    ap (λ (n : ℕ). sealed (padded body_length (rows_header k n ++ cells_of rows))) e

module _ (rows : List Row) (fit : Fits rows) where
  abbrev cells : List ℕ
  cells = cells_of rows

  abbrev count : ℕ
  count = length rows / cells_per_block

  fits-drop : (a : ℕ) → Fits (drop a rows)
  unfolding Fits
  fits-drop a i h = rw (get_or-drop a rows i no_row) (fit (a + i) (omega (arith, length-drop a rows)))

  at_block : (k : ℕ) → rows_block k (rows_at k rows) ≡ cells_block k (part (full_length * k) full_length cells)
  at_block k =
      let e : full_length * k ≡ cell_length * (cells_per_block * k) = omega arith in
      block-cells k (rows_at k rows) (group_fits rows fit k)
      ∙ ap (cells_block k)
      (sym (ap (λ (a : ℕ). part a full_length cells) e
      ∙ ap (take full_length) (drop_cells (cells_per_block * k) rows fit)
      ∙ take_cells cells_per_block (drop (cells_per_block * k) rows) (fits-drop (cells_per_block * k))))

  abbrev write : ℕ → List ℕ
  write k = rows_block k (rows_at k rows)

  full_count : length cells / full_length ≡ count
  full_count = omega (arith, cells-length rows fit)

  full_rows : flatten (map write (up_from 0 count)) ≡ full_blocks 0 cells
  unfolding full_blocks
  full_rows =
      ap flatten (map_same write (λ j. cells_block (0 + j) (part (full_length * j) full_length cells)) 0 count
      (λ k l h. at_block k ∙ ap (λ (i : ℕ). cells_block i (part (full_length * k) full_length cells))
      (sym (zero-add k))))
      ∙ ap (λ (c : ℕ). flatten (map (λ j. cells_block (0 + j) (part (full_length * j) full_length cells))
      (up_from 0 c)))
      (sym full_count)

  one_more : (k : ℕ) → flatten (map write (up_from k 1)) ≡ write k
  unfolding flatten up_from
  one_more k = append-nil (write k)

  -- all blocks of an archive
  pub archive-cells : archive_of rows ≡ pushed_blocks start_packing cells ++ waiting_block (pushed start_packing cells)
  unfolding archive_of waiting_block pushed
  archive-cells = elim (dec_lt 0 (length rows % cells_per_block)) [
    | yes h ↦
        (let b : blocks_for (length rows) ≡ count + 1 = omega arith in
        let long : length (drop (full_length * (length cells / full_length)) cells)
        ≡ cell_length * (length rows % cells_per_block) =
        length-drop (full_length * (length cells / full_length)) cells
        ∙ omega (arith, full_count, cells-length rows fit) in
        let some : length (drop (full_length * (length cells / full_length)) cells) ≡ 0 → ⊥ =
        λ z. omega (arith, long, h, z) in
        let last : flatten (map write (up_from count 1))
        ≡ cells_block (0 + length cells / full_length) (drop (full_length * (length cells / full_length)) cells) =
        one_more count ∙ at_block count
        ∙ ap (λ (k : ℕ). cells_block k (part (full_length * k) full_length cells)) (sym full_count)
        ∙ ap₂ cells_block (sym (zero-add (length cells / full_length)))
        (take_all full_length (drop (full_length * (length cells / full_length)) cells) (omega (arith, long))) in
        ap (λ (c : ℕ). flatten (map write (up_from 0 c))) b
        ∙ ap (λ (l : List ℕ). flatten (map write l))
        (up_from_add 0 count 1 ∙ ap (λ (c : ℕ). up_from 0 count ++ up_from c 1) (zero-add count))
        ∙ ap flatten (map-append write (up_from 0 count) (up_from count 1))
        ∙ flatten_append (map write (up_from 0 count)) (map write (up_from count 1))
        ∙ ap₂ ◌++◌ full_rows last ∙ (rw (ne_eqb _ 0 some)))
    | no h ↦
        (let b : blocks_for (length rows) ≡ count = omega arith in
        let none : length (drop (full_length * (length cells / full_length)) cells) ≡ 0 =
        length-drop (full_length * (length cells / full_length)) cells
        ∙ omega (arith, full_count, cells-length rows fit) in
        ap (λ (c : ℕ). flatten (map write (up_from 0 c))) b ∙ full_rows
        ∙ sym (append-nil (full_blocks 0 cells)) ∙ (rw (eq-eqb _ 0 none)))
  ]
