-- Rows put into the block where they go make it the block of the archive with these rows.
--     filled_is      the copy of the block with the last row, with rows put behind it
--     archive-is     the archive with that block
use Prim.Native.Nat.{ℕ, ◌+◌, ◌-◌, ◌*◌, ◌/◌, ◌%◌, ◌^◌, ◌≤◌, ◌<◌}
use native.Mathlib.Nat.{mod-eq_of_lt}
use native.Mathlib.Omega.{arith}
use mathlib.Core.Path.{◌≡◌, refl, sym, ap, ap₂, subst, ◌∙◌}
use mathlib.Core.Bool.{true, cond}
use mathlib.Core.List.{List, [], ◌∷◌, ◌++◌, append-nil}
use lib.Dec.{eqb, ltb}
use lib.ListN.{length, take, drop, replicate, get_or, length-append, length-take, length-drop}
use lib.Seq.{take_at, drop_at, drop-append-add}
use borrow.Author.Tests.{eqb-true, eqb-false, eq-eqb, lt-ltb, le-ltb}
use Rattle.base_lists.specs.Lists.{all}
use Rattle.base_lists.proofs.Choice.{both}
use Rattle.base_lists.proofs.Tests.{by_test, and-true}
use Rattle.base_lists.proofs.Padded.{drop-replicate}
use Rattle.base_buffers.proofs.Segments.{left, last}
use Rattle.block_layout.specs.Block.{cells_per_block, block_length}
use Rattle.archive_model.specs.Row.{Row, rows_block, is_row}
use Rattle.archive_model.specs.Buffer.{blocks_for, max_blocks, max_rows, rows_at, buffer_of, rows_in}
use Rattle.archive_model.specs.Append.{verdict, block_at, is_next, put_row, stored}
use Rattle.archive_model.proofs.Blocks.{Fits, no_row, all_from, number-back, count-back}
use Rattle.archive_model.proofs.Buffers.{blank_is, group_few, group_fits, group_length, buffer-length, used-block, free_block, rows_in_lem}
use Rattle.archive_model.proofs.Cursor.{written-verdict}
use Rattle.archive_model.proofs.Claims.{exact}
use Rattle.archive_fill.specs.Fill.{row_length, rows_given, put_rows, check_rows, put_rows_of, put_rows_given}
use Rattle.archive_fill.specs.Claims.{with_block}
use Rattle.archive_fill.proofs.Records.{rows-count}
use Rattle.archive_fill.proofs.Together.{row-long, put-length}
use Rattle.archive_fill.proofs.InArchive.{grown_by}
use Rattle.archive_cut.proofs.Cutting.{first_fits}
use Rattle.journal_model.specs.Claims.{last_block, file_block, files_of, padded_files}
use Rattle.journal_model.proofs.Blocks.{front, front_prefix, archive-length, archive_last, last_some, is_buffer, buffer_front}
use Rattle.journal_model.proofs.Files.{rest_fits}
use Rattle.journal_batch.specs.Batch.{batch_put_of, filled_of}

-- ---- rows in any block

puts_length : (rows : List Row) (n : ℕ) (block : List ℕ) → all is_row rows ≡ true → length block ≡ block_length
    → length (put_rows n rows block) ≡ block_length
unfolding put_rows
puts_length [] n block valid long = long
puts_length (r ∷ rows) n block valid long =
    let v = both (is_row r) (all is_row rows) valid in
    puts_length rows (n + 1) (put_row n r block) v.1 (put-length n r block long (row-long r v.0))

none_refused : (i : ℕ) (rows : List Row) → all is_row rows ≡ true → (check_rows i rows).number ≡ 0
unfolding check_rows
none_refused i [] valid = refl
none_refused i (r ∷ rows) valid =
    let v = both (is_row r) (all is_row rows) valid in
    rw v.0 (none_refused (i + 1) rows v.1)

-- ---- the block where the next row goes

module _ (rows new : List Row) (fit : Fits (rows ++ new)) (some : 1 ≤ length new)
    (few : length rows % cells_per_block + length new ≤ cells_per_block) (near : length rows < max_rows) where
  abbrev n : ℕ
  n = length rows

  abbrev j : ℕ
  j = n / cells_per_block

  abbrev room : n ≤ cells_per_block * (j + 1)
  room = omega arith

  low : j < max_blocks
  low = omega (arith, near)

  fit-rows : Fits rows
  fit-rows = rw (take_at rows new n refl) at (first_fits n (rows ++ new) fit)

  fit-new : Fits new
  fit-new = rw (drop_at rows new n refl) at (rest_fits n (rows ++ new) fit)

  valid : all is_row new ≡ true
  unfolding Fits
  valid = all_from is_row new (λ i h. (fit-new i h).valid)

  small : all (λ r. ltb r.time (2 ^ 64)) new ≡ true
  unfolding Fits
  small =
      all_from (λ r. ltb r.time (2 ^ 64)) new
      (λ i h. lt-ltb (get_or new i no_row).time (2 ^ 64) (fit-new i h).time)

  -- an archive of these rows, to the end of that block
  abbrev buffer : List ℕ
  buffer = buffer_of (block_length * (j + 1)) rows

  long : length buffer ≡ block_length * (j + 1)
  long = buffer-length rows (j + 1) fit-rows room

  abbrev block : List ℕ
  block = cond (eqb (n % cells_per_block) 0) (replicate block_length 0) (last_block max_blocks rows)

  last_rows : (n % cells_per_block ≡ 0 → ⊥) → last_block max_blocks rows ≡ rows_block j (rows_at j rows)
  last_rows u =
      let e : blocks_for n - 1 ≡ j = omega arith in
      last_some max_blocks rows (omega arith) ∙ ap (file_block max_blocks rows) e
      ∙ ap (λ (k : ℕ). rows_block k (rows_at j rows)) (mod-eq_of_lt low)

  block_is : block_at j buffer ≡ block
  block_is =
      by_test {X = block_at j buffer ≡ block} (eqb (n % cells_per_block) 0)
      (λ t.
      let z = eqb-true (n % cells_per_block) 0 t in
      rw t (free_block rows (j + 1) fit-rows room j (omega arith) (omega arith) ∙ blank_is))
      (λ f.
      let u = eqb-false (n % cells_per_block) 0 f in
      rw f (used-block rows (j + 1) fit-rows room j (omega arith) (omega arith) ∙ sym (last_rows u)))

  next_is : is_next n block ≡ true
  next_is =
      by_test {X = is_next n block ≡ true} (eqb (n % cells_per_block) 0) (λ t. rw t refl)
      (λ f.
      let u = eqb-false (n % cells_per_block) 0 f in
      let group = rows_at j rows in
      let ok = group_fits rows fit-rows j in
      let count : length group ≡ n % cells_per_block = group_length rows j ∙ omega arith in
      rw (f, last_rows u)
      (and-true (eq-eqb _ j (number-back j group ok (group_few rows j) low))
      (eq-eqb _ (n % cells_per_block) (count-back j group ok (group_few rows j) ∙ count))))

  block-long : length block ≡ block_length
  block-long = sym (ap length block_is) ∙ length-take block_length (drop (block_length * j) buffer)
      ∙ omega (arith, length-drop (block_length * j) buffer, long)

  abbrev after : List ℕ
  after = put_rows n new block

  after_long : length after ≡ block_length
  after_long = puts_length new n block valid block-long

  -- the archive of these rows and the new ones
  abbrev Grows : List Row → Type 0
  Grows xs =
      length xs / cells_per_block < length buffer / block_length
      → is_next (length xs) (block_at (length xs / cells_per_block) buffer) ≡ true → all is_row new ≡ true
      → all (λ x. ltb x.time (2 ^ 64)) new ≡ true → length xs % cells_per_block + length new ≤ cells_per_block
      → let k = length xs / cells_per_block in
      let w = with_block k (put_rows (length xs) new (block_at k buffer)) buffer in
      ((verdict w).number ≡ 0) × (rows_in w ≡ xs ++ new)

  abbrev grown : List ℕ
  grown = with_block j after buffer

  grows : ((verdict grown).number ≡ 0) × (rows_in grown ≡ rows ++ new)
  grows =
      let v = written-verdict rows (j + 1) fit-rows room (omega (arith, low)) in
      let g : Grows rows = subst Grows (rows_in_lem rows (j + 1) fit-rows room) (grown_by new buffer v) in
      rw block_is at (g (omega (arith, long)) (ap (is_next n) block_is ∙ next_is) valid small few)

  abbrev before : List ℕ
  before = take (block_length * j) buffer

  before_long : length before ≡ block_length * j
  before_long = length-take (block_length * j) buffer ∙ omega (arith, long)

  abbrev rest : List ℕ
  rest = drop (block_length * j + block_length) buffer

  both_long : length (before ++ after) ≡ block_length * j + block_length
  both_long = length-append before after ∙ omega (arith, before_long, after_long)

  grown-long : length grown ≡ block_length * (j + 1)
  grown-long =
      length-append (before ++ after) rest
      ∙ omega (arith, both_long, length-drop (block_length * j + block_length) buffer, long)

  all_long : length (rows ++ new) ≡ n + length new
  all_long = length-append rows new

  after_is : after ≡ file_block max_blocks (rows ++ new) j
  after_is =
      sym (left (before ++ after) rest (block_length * j + block_length) (block_length * j) block_length both_long
      (omega arith)
      ∙ last before after (block_length * j) block_length before_long after_long)
      ∙ ap (block_at j) (sym (exact grown grows.0).0 ∙ ap₂ buffer_of grown-long grows.1)
      ∙ used-block (rows ++ new) (j + 1) fit (omega (arith, all_long)) j (omega arith) (omega (arith, all_long))
      ∙ ap (λ (k : ℕ). rows_block k (rows_at j (rows ++ new))) (sym (mod-eq_of_lt low))

  last_is : file_block max_blocks (rows ++ new) j ≡ last_block max_blocks (rows ++ new)
  last_is =
      let e : blocks_for (length (rows ++ new)) - 1 ≡ j = omega (arith, all_long) in
      sym (last_some max_blocks (rows ++ new) (omega (arith, all_long)) ∙ ap (file_block max_blocks (rows ++ new)) e)

  put_is : put_rows_of block n new ≡ stored after
  unfolding put_rows_of
  put_is = rw (
    eq-eqb (length block) block_length block-long,
    lt-ltb n max_rows near,
    next_is,
    none_refused 0 new valid,
    le-ltb cells_per_block (n % cells_per_block + length new) few,
  )

  -- ---- the archive, with rows of that block behind, or none

  pub archive_is : (behind : List Row) (m : ℕ) → Fits (rows ++ behind)
      → n + length behind ≤ cells_per_block * (j + 1) → j < m
      → with_block j (last_block max_blocks (rows ++ new)) (padded_files max_blocks (block_length * m) (rows ++ behind))
      ≡ padded_files max_blocks (block_length * m) (rows ++ new)
  archive_is behind m ok less inside =
      let files = files_of max_blocks (rows ++ behind) in
      let zeros = replicate {A = ℕ} (block_length * m - length files) 0 in
      let b : blocks_for (length (rows ++ new)) ≡ j + 1 = omega (arith, all_long) in
      let size = archive-length max_blocks (rows ++ behind) ok in
      let beyond : length files + (block_length * j + block_length - length files) ≡ block_length * j + block_length
      = omega (arith, size, length-append rows behind) in
      let front_is : take (block_length * j) (padded_files max_blocks (block_length * m) (rows ++ behind))
      ≡ front max_blocks j (rows ++ new)
      = buffer_front max_blocks (rows ++ behind) (block_length * m) j ok (omega (arith, length-append rows behind))
      ∙ front_prefix max_blocks rows behind j (omega arith) ∙ sym (front_prefix max_blocks rows new j (omega arith)) in
      let last_one : blocks_for (length (rows ++ new)) - 1 ≡ j = omega (arith, b) in
      let whole : front max_blocks j (rows ++ new) ++ last_block max_blocks (rows ++ new)
      ≡ files_of max_blocks (rows ++ new)
      = ap (λ (x : List ℕ). front max_blocks j (rows ++ new) ++ x) (sym last_is)
      ∙ sym (archive_last max_blocks (rows ++ new) (omega (arith, all_long))
      ∙ ap (λ (k : ℕ). front max_blocks k (rows ++ new) ++ file_block max_blocks (rows ++ new) k) last_one) in
      let left_over : block_length * m - length files - (block_length * j + block_length - length files)
      ≡ block_length * m - length (files_of max_blocks (rows ++ new))
      = omega (arith, size, length-append rows behind, archive-length max_blocks (rows ++ new) fit, b) in
      let tail_is : drop (block_length * j + block_length) (padded_files max_blocks (block_length * m) (rows ++ behind))
      ≡ replicate {A = ℕ} (block_length * m - length (files_of max_blocks (rows ++ new))) 0
      = ap₂ drop (sym beyond) (sym (is_buffer max_blocks (block_length * m) (rows ++ behind)))
      ∙ drop-append-add files zeros (block_length * j + block_length - length files)
      ∙ drop-replicate (block_length * j + block_length - length files) (block_length * m - length files) 0
      ∙ ap (λ (k : ℕ). replicate {A = ℕ} k 0) left_over in
      ap₂ (λ (x y : List ℕ). x ++ last_block max_blocks (rows ++ new) ++ y) front_is tail_is
      ∙ ap (λ (x : List ℕ). x ++ replicate {A = ℕ}
      (block_length * m - length (files_of max_blocks (rows ++ new))) 0) whole
      ∙ is_buffer max_blocks (block_length * m) (rows ++ new)

-- ---- rows that are given

module _ (rows new : List Row) (times records : List ℕ) (given : rows_given times records ≡ new)
    (sized : length records ≡ row_length * length times) (fit : Fits (rows ++ new))
    (few : length rows % cells_per_block + length new ≤ cells_per_block)
    (room : length rows + length new ≤ max_rows) where
  count : length times ≡ length new
  count = sym (rows-count times records) ∙ ap length given

  empty : (xs : List Row) → length xs ≡ 0 → xs ≡ []
  empty [] e = refl
  empty (x ∷ xs) e = absurd (omega arith)

  pub filled_is : filled_of (last_block max_blocks rows) (length rows) times records
      ≡ record { number = 0; block = last_block max_blocks (rows ++ new) }
  unfolding filled_of batch_put_of put_rows_given
  filled_is =
      by_test (eqb (length times) 0)
      (λ t.
      let z : new ≡ [] = empty new (sym count ∙ eqb-true (length times) 0 t) in
      rw t (ap (λ (l : List Row). record { number = 0; block = last_block max_blocks l })
      (sym (ap (λ (l : List Row). rows ++ l) z ∙ append-nil rows))))
      (λ f.
      let some : 1 ≤ length new = omega (arith, eqb-false (length times) 0 f, count) in
      let near : length rows < max_rows = omega (arith, some, room) in
      let ends = after_is rows new fit some few near ∙ last_is rows new fit some few near in
      rw (f, eq-eqb (length records) (row_length * length times) sized, given, put_is rows new fit some few near)
      (ap (λ (b : List ℕ). record { number = 0; block = b }) ends))
