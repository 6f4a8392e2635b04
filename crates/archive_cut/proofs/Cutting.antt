-- An archive cut after its first rows: the buffer of those rows is the old one before block `rows / 15`, that block cut, and zeros.
--     split, zeros-from         a list around one part; blocks that are all zero
--     first_fits                the first of rows that fit
--     after_is                  the buffer, part by part
--     CutDone, cut-is, cut-done     what a cut that is answered 0 says
use Prim.Native.Nat.{ℕ, zero, suc, ◌+◌, ◌-◌, ◌*◌, ◌/◌, ◌%◌, ◌≤◌, ◌<◌}
use native.Mathlib.Omega.{arith}
use mathlib.Core.Path.{◌≡◌, refl, sym, ap, ap₂, ◌∙◌}
use mathlib.Core.Bool.{Bool, true, false, cond, not}
use mathlib.Core.List.{List, [], ◌++◌, map, flatten, append_assoc}
use lib.Dec.{ltb, eqb}
use lib.ListN.{length, take, drop, replicate, length-take, length-drop, take-append-drop, replicate-append-replicate}
use lib.Seq.{take_all, take-add, take-take, drop_at, drop-drop, get_or-take}
use borrow.Author.Tests.{eqb-true, eqb-false, ltb-false, lt-ltb, le-ltb}
use Rattle.base_lists.specs.Lists.{padded, up_from}
use Rattle.base_lists.proofs.Tests.{by_test}
use Rattle.base_lists.proofs.UpFrom.{map_same}
use Rattle.base_refusal.specs.Number.{number_of}
use Rattle.base_refusal.specs.declared.Refusal.TheVariants.{Argument}
use Rattle.base_buffers.specs.Buffer.{part}
use Rattle.block_layout.specs.Block.{cells_per_block, block_length}
use Rattle.base_buffers.proofs.Segments.{part-take}
use Rattle.archive_model.specs.Row.{Row, rows_block, block_number, row_count, rows_of, is_sound}
use Rattle.archive_model.specs.Buffer.{rows_at, buffer_of, max_blocks, rows_in}
use Rattle.archive_model.specs.Append.{verdict, refused_append, stored, block_at}
use Rattle.archive_model.proofs.Blocks.{Fits, no_row, number-back, count-back, rows_back, block_sound}
use Rattle.archive_model.proofs.Buffers.{pieces, blank, blank_is, group_length, group_few, group_fits, used-block, free_block}
use Rattle.archive_model.proofs.Buffers.{buffer-length, rows_in_lem}
use Rattle.archive_model.proofs.Cursor.{written-verdict, blocks_of, is_exact, rows_fit, rows_few}
use Rattle.archive_cut.specs.Cut.{first_rows, cut_of}
use Rattle.archive_cut.proofs.Blocks.{first_none, first_some}

-- ---- lists

split : (a w : ℕ) (xs : List ℕ) → take a xs ++ part a w xs ++ drop (a + w) xs ≡ xs
split a w xs =
    append_assoc (take a xs) (part a w xs) (drop (a + w) xs)
    ∙ ap (λ (l : List ℕ). take a xs ++ (part a w xs ++ l)) (sym (drop-drop w a xs))
    ∙ ap (λ (l : List ℕ). take a xs ++ l) (take-append-drop w (drop a xs)) ∙ take-append-drop a xs

-- rows of a front, from where it has r more
drop_front : (a r : ℕ) (xs : List Row) → a ≤ length xs → drop a (take (a + r) xs) ≡ take r (drop a xs)
drop_front a r xs h =
    let l : length (take a xs) ≡ a = length-take a xs ∙ omega arith in
    ap (drop a) (take-add a r xs) ∙ drop_at (take a xs) (take r (drop a xs)) a l

blanks : (f : ℕ → List ℕ) (a n : ℕ) → ((j : ℕ) → a ≤ j → j < a + n → f j ≡ blank)
    → flatten (map f (up_from a n)) ≡ replicate (block_length * n) 0
unfolding flatten up_from
blanks f a zero h = refl
blanks f a (suc n) h =
    let e : block_length + block_length * n ≡ block_length * suc n = omega arith in
    ap₂ ◌++◌ (h a (omega arith) (omega arith) ∙ blank_is)
    (blanks f (suc a) n (λ j p q. h j (omega arith) (omega arith)))
    ∙ replicate-append-replicate block_length (block_length * n) 0 ∙ ap (λ (c : ℕ). replicate c 0) e

-- ---- what is written of the first rows

pub first_fits : (m : ℕ) (rows : List Row) → Fits rows → Fits (take m rows)
unfolding Fits
first_fits m rows fit i h =
    let l = length-take m rows in
    rw (get_or-take m rows i no_row (omega (arith, l, h))) (fit i (omega (arith, l, h)))

module _ (rows : List Row) (n : ℕ) (fit : Fits rows)
    (fits : length rows ≤ cells_per_block * n) (mb : n ≤ max_blocks) (m : ℕ)
    (some : m < length rows) where
  abbrev k : ℕ
  k = m / cells_per_block

  abbrev first : List Row
  first = take m rows

  first_length : length first ≡ m
  first_length = length-take m rows ∙ omega arith

  abbrev before : List ℕ
  before = buffer_of (block_length * n) rows

  abbrev after : List ℕ
  after = buffer_of (block_length * n) first

  abbrev after_fits : Fits first
  after_fits = first_fits m rows fit

  after_few : length first ≤ cells_per_block * n
  after_few = omega (arith, first_length)

  -- the blocks before the cut
  front : take (block_length * k) after ≡ take (block_length * k) before
  front =
      sym (pieces block_length after 0 k)
      ∙ ap flatten
      (map_same (λ j. part (block_length * j) block_length after)
      (λ j. part (block_length * j) block_length before) 0 k same)
      ∙ pieces block_length before 0 k
    where
      same : (j : ℕ) → 0 ≤ j → j < 0 + k
          → part (block_length * j) block_length after ≡ part (block_length * j) block_length before
      same j z h =
          used-block first n after_fits after_few j (omega arith) (omega (arith, first_length))
          ∙ ap (rows_block j) (part-take (cells_per_block * j) cells_per_block m rows (omega arith))
          ∙ sym (used-block rows n fit fits j (omega arith) (omega arith))

  -- the block that is cut
  abbrev block : List ℕ
  block = block_at k before

  block_is : block ≡ rows_block k (rows_at k rows)
  block_is = used-block rows n fit fits k (omega arith) (omega arith)

  group_is : rows_at k first ≡ take (m % cells_per_block) (rows_at k rows)
  group_is =
      let a = cells_per_block * k in
      let r = m % cells_per_block in
      let e : m ≡ a + r = omega arith in
      let l = length-take r (drop a rows) in
      ap (λ (c : ℕ). take cells_per_block (drop a (take c rows))) e
      ∙ ap (take cells_per_block) (drop_front a r rows (omega arith))
      ∙ take_all cells_per_block (take r (drop a rows)) (omega (arith, l))
      ∙ sym (take-take r cells_per_block (drop a rows) (omega arith))

  middle : block_at k after ≡ first_rows (m % cells_per_block) block
  middle =
      by_test {X = block_at k after ≡ first_rows (m % cells_per_block) block} (eqb (m % cells_per_block) 0)
      (λ t.
      let z = eqb-true (m % cells_per_block) 0 t in
      free_block first n after_fits after_few k (omega (arith, first_length)) (omega (arith, first_length))
      ∙ blank_is ∙ first_none block
      ∙ ap (λ (r : ℕ). first_rows r block) (sym z))
      (λ f.
      let u = eqb-false (m % cells_per_block) 0 f in
      let number : block_number block ≡ k =
      ap block_number block_is
      ∙ number-back k (rows_at k rows) (group_fits rows fit k) (group_few rows k) (omega arith) in
      let says : rows_of block ≡ rows_at k rows =
      ap rows_of block_is ∙ rows_back k (rows_at k rows) (group_fits rows fit k) (group_few rows k) in
      used-block first n after_fits after_few k (omega arith) (omega (arith, first_length)) ∙ ap (rows_block k) group_is
      ∙ sym (ap₂ (λ (c : ℕ) (l : List Row). rows_block c (take (m % cells_per_block) l)) number says)
      ∙ first_some (m % cells_per_block) block u)

  -- the blocks after it
  back : drop (block_length * k + block_length) after
      ≡ replicate (block_length * n - (block_length * k + block_length)) 0
  back =
      let c = n - suc k in
      let e : block_length * suc k ≡ block_length * k + block_length = omega arith in
      let d : block_length * c ≡ block_length * n - (block_length * k + block_length) = omega arith in
      let l : length (drop (block_length * k + block_length) after) ≤ block_length * c =
      omega (arith, length-drop (block_length * k + block_length) after, buffer-length first n after_fits after_few) in
      sym (take_all (block_length * c) (drop (block_length * k + block_length) after) l)
      ∙ ap (λ (a : ℕ). take (block_length * c) (drop a after)) (sym e) ∙ sym (pieces block_length after (suc k) c)
      ∙ blanks (λ j. part (block_length * j) block_length after) (suc k) c
      (λ j p q. free_block first n after_fits after_few j (omega (arith, first_length)) (omega (arith, first_length)))
      ∙ ap (λ (a : ℕ). replicate a 0) d

  pub after_is : take (block_length * k) before ++ first_rows (m % cells_per_block) block
      ++ replicate (block_length * n - (block_length * k + block_length)) 0
      ≡ after
  after_is =
      ap₂ (λ (x y : List ℕ). x ++ y ++ replicate (block_length * n - (block_length * k + block_length)) 0)
      (sym front) (sym middle)
      ∙ ap (λ (z : List ℕ). take (block_length * k) after ++ block_at k after ++ z) (sym back)
      ∙ split (block_length * k) block_length after

  -- that block is sound, and has at least the rows that stay in it
  pub block-enough : (is_sound block ≡ true) × (m % cells_per_block ≤ row_count block)
  block-enough =
      let group = group_length rows k in
      let sound =
      block_sound k (rows_at k rows) (group_fits rows fit k)
      (group_few rows k) (omega (arith, group)) (omega arith) in
      let count = count-back k (rows_at k rows) (group_fits rows fit k) (group_few rows k) in
      (ap is_sound block_is ∙ sound, omega (arith, ap row_count block_is, count, group))

-- ---- any archive

module _ (m : ℕ) (buffer : List ℕ) where
  abbrev rows_now : List Row
  rows_now = rows_in buffer

  -- the first rows in the same buffer
  abbrev pub remaining : List ℕ
  remaining = buffer_of (length buffer) (take m rows_now)

  pub cut_is : (verdict buffer).number ≡ 0 → m ≤ length rows_now → stored remaining ≡ cut_of m buffer
  unfolding cut_of
  cut_is v h = rw (v, le-ltb (length rows_now) m h)

  pub cut_over : (verdict buffer).number ≡ 0 → length rows_now < m
      → refused_append (number_of Argument) 0 buffer ≡ cut_of m buffer
  unfolding cut_of
  cut_over v h = rw (v, lt-ltb (length rows_now) m h)

  pub record CutDone : Type 0 where
    pub archive : (verdict buffer).number ≡ 0
    pub few : m ≤ length (rows_in buffer)
    pub is : cut_of m buffer ≡ stored (buffer_of (length buffer) (take m (rows_in buffer)))

  pub cut_done : (cut_of m buffer).number ≡ 0 → CutDone
  unfolding cut_of
  cut_done z = go (eqb (verdict buffer).number 0) (ltb (length rows_now) m) refl refl z
    where
      go : (a b : Bool) → eqb (verdict buffer).number 0 ≡ a → ltb (length rows_now) m ≡ b
          → (cond (not a) (refused_append (verdict buffer).number (verdict buffer).position buffer)
          (cond b (refused_append (number_of Argument) 0 buffer) (stored remaining))).number
          ≡ 0
          → CutDone
      go false b e f q = absurd (eqb-false (verdict buffer).number 0 e q)
      go true true e f q = absurd (omega arith)
      go true false e f q =
          let v = eqb-true (verdict buffer).number 0 e in
          let h = ltb-false (length rows_now) m f in
          record { archive = v; few = h; is = sym (cut_is v h) }

  module _ (v : (verdict buffer).number ≡ 0) where
    abbrev blocks : ℕ
    blocks = length buffer / block_length

    remaining_is : remaining ≡ buffer_of (block_length * blocks) (take m rows_now)
    remaining_is = ap (λ (n : ℕ). buffer_of n (take m rows_now)) (blocks_of buffer v).0

    remaining_fits : Fits (take m rows_now)
    remaining_fits = first_fits m rows_now (rows_fit buffer v)

    remaining_few : length (take m rows_now) ≤ cells_per_block * blocks
    remaining_few = omega (arith, rows_few buffer v, length-take m rows_now)

    pub remaining_length : length remaining ≡ length buffer
    remaining_length =
        ap length remaining_is ∙ buffer-length (take m rows_now) blocks remaining_fits remaining_few
        ∙ sym (blocks_of buffer v).0

    pub remaining_verdict : (verdict remaining).number ≡ 0
    remaining_verdict =
        rw remaining_is (written-verdict (take m rows_now) blocks remaining_fits remaining_few (blocks_of buffer v).1)

    pub remaining_rows : rows_in remaining ≡ take m rows_now
    remaining_rows = rw remaining_is (rows_in_lem (take m rows_now) blocks remaining_fits remaining_few)

    -- all rows stay
    pub remaining_whole : length rows_now ≡ m → remaining ≡ buffer
    remaining_whole e = ap₂ buffer_of (blocks_of buffer v).0 (take_all m rows_now (omega arith)) ∙ is_exact buffer v

    module _ (some : m < length rows_now) where
      abbrev cut_block_lem : List ℕ
      cut_block_lem = block_at (m / cells_per_block) buffer

      pub cut_enough : (is_sound cut_block_lem ≡ true) × (m % cells_per_block ≤ row_count cut_block_lem)
      cut_enough =
          rw (is_exact buffer v) at
          (block-enough rows_now blocks (rows_fit buffer v) (rows_few buffer v) (blocks_of buffer v).1 m some)

      pub cut_parts : take (block_length * (m / cells_per_block)) buffer
          ++ first_rows (m % cells_per_block) cut_block_lem
          ++ replicate (length buffer - (block_length * (m / cells_per_block) + block_length)) 0
          ≡ remaining
      cut_parts =
          let a = block_length * (m / cells_per_block) in
          ap (λ (n : ℕ). take a buffer ++ first_rows (m % cells_per_block) cut_block_lem
          ++ replicate (n - (a + block_length)) 0)
          (blocks_of buffer v).0
          ∙ (rw (is_exact buffer v) at
          (after_is rows_now blocks (rows_fit buffer v) (rows_few buffer v) (blocks_of buffer v).1 m some))
          ∙ sym remaining_is

      -- the same as it is written in place
      pub cut_written : (at : ℕ) → at ≡ block_length * (m / cells_per_block)
          → length ([] ++ part 0 (at - 0) buffer
          ++ first_rows (m % cells_per_block) (part at (at + block_length - at) buffer))
          ≡ at + block_length
          → padded (length buffer)
          ([] ++ part 0 (at - 0) buffer ++ first_rows (m % cells_per_block) (part at (at + block_length - at) buffer))
          ≡ remaining
      cut_written at e long =
          let z : at - 0 ≡ at = omega arith in
          let d : at + block_length - at ≡ block_length = omega arith in
          let r = m % cells_per_block in
          ap (λ (n : ℕ). part 0 (at - 0) buffer ++ first_rows r (part at (at + block_length - at) buffer)
          ++ replicate (length buffer - n) 0)
          long
          ∙ ap₂ (λ (x y : ℕ). take x buffer ++ first_rows r (part at y buffer)
          ++ replicate (length buffer - (at + block_length)) 0)
          z d
          ∙ ap (λ (x : ℕ). take x buffer ++ first_rows r (part x block_length buffer)
          ++ replicate (length buffer - (x + block_length)) 0)
          e
          ∙ cut_parts

  -- a buffer that is no archive
  pub cut_not : (number position : ℕ)
      → (number ≡ (verdict buffer).number) × (position ≡ (verdict buffer).position)
      × (eqb (verdict buffer).number 0 ≡ false)
      → refused_append number position buffer ≡ cut_of m buffer
  unfolding cut_of
  cut_not number position v = rw v.2 (ap₂ (λ (x y : ℕ). refused_append x y buffer) v.0 v.1)
