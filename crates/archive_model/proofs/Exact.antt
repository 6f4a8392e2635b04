-- A buffer in which every block matches is just what is written of the rows that it says.
--     sound-is, sound-fits, sound-few     a sound block is what is written of its rows, which fit, 1 to 15 of them
--     Good, Shape, shape                  what it means for blocks that none of them does not match
--     exact                               the buffer is what is written of its rows
--     exact-fits, exact-few               which fit, and are at most 15 for each block
use Prim.Native.Nat.{ℕ, zero, suc, ◌+◌, ◌-◌, ◌*◌, ◌/◌, ◌^◌, ◌≤◌, ◌<◌}
use native.Mathlib.Nat.{zero-add, add-zero, add-suc, suc-add}
use native.Mathlib.Decide.{dec_lt}
use native.Mathlib.Omega.{arith}
use mathlib.Core.Path.{◌≡◌, refl, sym, ap, ap₂, ◌∙◌}
use mathlib.Core.Bool.{Bool, true, false, cond, not, ◌&&◌}
use mathlib.Core.List.{List, [], ◌∷◌, ◌++◌, map, flatten, append_assoc, append-nil}
use lib.Dec.{eqb, leb}
use lib.ListN.{length, get_or, replicate, length-append, length-map, length-replicate, replicate-append-replicate, get_or-append}
use lib.Seq.{take_all, take_at, get_or-append-add}
use borrow.Author.Tests.{eqb-true, leb-true, ltb-false, not-false}
use Rattle.base_lists.specs.Lists.{all, equal, padded, up_from}
use Rattle.base_lists.proofs.Choice.{both}
use Rattle.base_lists.proofs.Equal.{equal_eq}
use Rattle.base_lists.proofs.Tests.{by_test, all_get_d}
use Rattle.base_lists.proofs.UpFrom.{length-up_from, get_d_up_from, map_same}
use Rattle.radio_erp1.specs.Subtelegram.{check_of}
use Rattle.radio_erp1.proofs.Checks.{check_facts}
use Rattle.base_buffers.specs.Buffer.{part}
use Rattle.block_layout.specs.Cell.{cell_time}
use Rattle.block_layout.specs.Block.{cells_per_block, block_length, block_cell}
use Rattle.base_buffers.proofs.Segments.{part_length, right, Each}
use Rattle.block_layout.proofs.Cell.{cell_time_lt}
use Rattle.archive_model.specs.Row.{Row, row_last, row_cell, rows_block, block_number, row_count, row_in, rows_of, is_row, is_sound, is_blank}
use Rattle.archive_model.specs.Buffer.{At, None, blocks_for, rows_at, archive_of, buffer_of, blocks_in, rows_in, non_zero, is_short, is_followed, mismatch_from, mismatch}
use Rattle.archive_model.proofs.Blocks.{Fits, Shorts, no_row, written-length, written_cell}
use Rattle.archive_model.proofs.Buffers.{pieces, blank, blank_is, none_flat}
use Rattle.archive_model.proofs.Pieces.{blocks-count, rows-count, at_none}

-- ---- one sound block

module _ (b : List ℕ) (sound : is_sound b ≡ true) where
  pub tests : (1 ≤ row_count b) × (row_count b ≤ cells_per_block) × (all is_row (rows_of b) ≡ true)
      × (equal (rows_block (block_number b) (rows_of b)) b ≡ true)
  unfolding is_sound
  tests =
      let x = both (leb 1 (row_count b)) _ sound in
      let y = both (leb (row_count b) cells_per_block) _ x.1 in
      let z = both (all is_row (rows_of b)) _ y.1 in
      (leb-true 1 (row_count b) x.0, leb-true (row_count b) cells_per_block y.0, z.0, z.1)

  pub sound_is : rows_block (block_number b) (rows_of b) ≡ b
  sound_is = equal_eq (rows_block (block_number b) (rows_of b)) b (rw tests.3 tt)

  pub sound_some : 1 ≤ length (rows_of b)
  sound_some = omega (arith, rows-count b, tests.0)

  pub sound_few : length (rows_of b) ≤ cells_per_block
  sound_few = omega (arith, rows-count b, tests.1)

  pub valid_at : (i : ℕ) → i < length (rows_of b) → is_row (get_or (rows_of b) i no_row) ≡ true
  valid_at i h = all_get_d is_row (rows_of b) i no_row tests.2 h

  pub sound_shorts : Shorts (rows_of b)
  unfolding Shorts
  sound_shorts i h =
      let bytes = (get_or (rows_of b) i no_row).bytes in
      (check_facts bytes (eqb-true (check_of bytes) 0 (valid_at i h))).high

  pub sound_long : length b ≡ block_length
  sound_long = ap length (sym sound_is) ∙ written-length (block_number b) (rows_of b) sound_shorts sound_few

  -- the row is what is read of its cell, which is what is written of the row: so its time fits
  pub row_is : (i : ℕ) → i < length (rows_of b) → get_or (rows_of b) i no_row ≡ row_in (block_cell i b)
  unfolding rows_of
  row_is i h =
      get_d_up_from (λ j. row_in (block_cell j b)) 0 (row_count b) i no_row
      (omega (
        arith,
        length-map (up_from 0 (row_count b)) (λ j. row_in (block_cell j b)),
        length-up_from 0 (row_count b),
      ))
      ∙ ap (λ j. row_in (block_cell j b)) (zero-add i)

  pub cell_is : (i : ℕ) → i < length (rows_of b) → block_cell i b ≡ row_cell (get_or (rows_of b) i no_row)
  cell_is i h = ap (block_cell i) (sym sound_is) ∙ written_cell (block_number b) (rows_of b) sound_shorts sound_few i h

  time-fits : (i : ℕ) → i < length (rows_of b) → (get_or (rows_of b) i no_row).time < 2 ^ 64
  unfolding Shorts
  time-fits i h =
      let r = get_or (rows_of b) i no_row in
      let e : r.time ≡ cell_time (row_cell r) = ap (λ (q : Row). q.time) (row_is i h) ∙ ap cell_time (cell_is i h) in
      rw e (cell_time_lt r.time r.bytes (row_last r.loose) (sound_shorts i h))

  pub sound_fits : Fits (rows_of b)
  unfolding Fits
  sound_fits i h = record { valid = valid_at i h; time = time-fits i h }

-- ---- all-zero blocks

pub zeros : (b : List ℕ) → is_blank b ≡ true → b ≡ replicate (length b) 0
zeros [] t = refl
zeros (x ∷ b) t =
    let p = both (eqb x 0) _ t in
    ap₂ ◌∷◌ (eqb-true x 0 p.0) (zeros b p.1)

blank_of : (b : List ℕ) → length b ≡ block_length → is_blank b ≡ true → b ≡ blank
blank_of b l t = zeros b t ∙ ap (λ n. replicate n 0) l ∙ sym blank_is

-- ---- blocks of which none does not match

-- block k, which matches by itself
pub record Good (k : ℕ) (b : List ℕ) : Type 0 where
  pub sound : is_sound b ≡ true
  pub number : block_number b ≡ k
  pub long : length b ≡ block_length

pub data Shape : ℕ → List (List ℕ) → Type 0 where
  ended : {k : ℕ} (z : ℕ) → Shape k (replicate z blank)
  last : {k : ℕ} {b : List ℕ} (z : ℕ) → Good k b → Shape k (b ∷ replicate z blank)
  more : {k : ℕ} {b : List ℕ} {bs : List (List ℕ)} → Good k b
      → cells_per_block ≤ row_count b → Shape (suc k) bs → Shape k (b ∷ bs)

all_blank : (k : ℕ) (bs : List (List ℕ)) → Each block_length bs → non_zero k bs ≡ None
    → bs ≡ replicate (length bs) blank
all_blank k [] each e = refl
all_blank k (b ∷ bs) each e =
    by_test {X = b ∷ bs ≡ replicate (length (b ∷ bs)) blank} (is_blank b)
    (λ t. ap₂ ◌∷◌ (blank_of b (each 0 (omega arith)) t)
    (all_blank (suc k) bs (λ i h. each (suc i) (omega arith)) (rw t at e)))
    (λ f. absurd (at_none k (rw f at e)))

-- behind a short block
after_short : (k : ℕ) (bs : List (List ℕ)) → Each block_length bs → is_followed bs ≡ false
    → mismatch_from k bs ≡ None → bs ≡ replicate (length bs) blank
unfolding mismatch_from
after_short k [] each f e = refl
after_short k (b ∷ bs) each f e =
    let t : is_blank b ≡ true = not-false (is_blank b) f in
    ap₂ ◌∷◌ (blank_of b (each 0 (omega arith)) t) (all_blank (suc k) bs (λ i h. each (suc i) (omega arith)) (rw t at e))

-- one that is not all zero: what the tests after that say
tested : (k : ℕ) (b : List ℕ) (bs : List (List ℕ)) → is_blank b ≡ false → mismatch_from k (b ∷ bs) ≡ None
    → (is_sound b && eqb (block_number b) k ≡ true)
    × (is_short b && is_followed bs ≡ false) × (mismatch_from (suc k) bs ≡ None)
unfolding mismatch_from
tested k b bs f e = go (is_sound b && eqb (block_number b) k) (is_short b && is_followed bs) (rw f at e)
  where
    go : (x y : Bool) → cond (not x) (At k) (cond y (At k) (mismatch_from (suc k) bs)) ≡ None
        → (x ≡ true) × (y ≡ false) × (mismatch_from (suc k) bs ≡ None)
    go true true q = absurd (at_none k q)
    go true false q = (refl, refl, q)
    go false y q = absurd (at_none k q)

pub shape : (k : ℕ) (bs : List (List ℕ)) → Each block_length bs → mismatch_from k bs ≡ None → Shape k bs
unfolding mismatch_from
shape k [] each e = ended 0
shape k (b ∷ bs) each e =
    let rest : Each block_length bs = λ i h. each (suc i) (omega arith) in
    by_test {X = Shape k (b ∷ bs)} (is_blank b)
    (λ t. rw (blank_of b (each 0 (omega arith)) t, all_blank (suc k) bs rest (rw t at e)) (ended (suc (length bs))))
    (λ f.
    let p = tested k b bs f e in
    let q = both (is_sound b) _ p.0 in
    let good : Good k b =
    record { sound = q.0; number = eqb-true (block_number b) k q.1; long = each 0 (omega arith) } in
    by_test {X = Shape k (b ∷ bs)} (is_short b)
    (λ s. rw (after_short (suc k) bs rest (ap (λ (u : Bool). u && is_followed bs) (sym s) ∙ p.1) p.2)
    (last (length bs) good))
    (λ s. more good (ltb-false (row_count b) cells_per_block s) (shape (suc k) bs rest p.2)))

-- ---- the rows that they say

pub fits_append : (xs ys : List Row) → Fits xs → Fits ys → Fits (xs ++ ys)
unfolding Fits
fits_append xs ys f g i h = elim (dec_lt i (length xs)) [
  | yes l ↦ rw (get_or-append xs ys no_row i l) (f i l)
  | no l ↦
      (let e : i ≡ length xs + (i - length xs) = omega arith in
      let k : i - length xs < length ys = omega (arith, length-append xs ys) in
      rw (e, get_or-append-add xs ys (i - length xs) no_row) (g (i - length xs) k))
]

fits_none : (z : ℕ) → Fits (flatten (map rows_of (replicate z blank)))
unfolding Fits
fits_none z i h = absurd (omega (arith, ap length (none_flat z)))

shape_fits : {k : ℕ} {bs : List (List ℕ)} → Shape k bs → Fits (flatten (map rows_of bs))
unfolding flatten
shape_fits (ended z) = fits_none z
shape_fits (last {k} {b} z g) =
    fits_append (rows_of b) (flatten (map rows_of (replicate z blank))) (sound_fits b g.sound) (fits_none z)
shape_fits (more {k} {b} {bs} g f s) =
    fits_append (rows_of b) (flatten (map rows_of bs)) (sound_fits b g.sound) (shape_fits s)

shape_few : {k : ℕ} {bs : List (List ℕ)} → Shape k bs → length (flatten (map rows_of bs)) ≤ cells_per_block * length bs
unfolding flatten
shape_few (ended z) = omega (arith, ap length (none_flat z))
shape_few (last {k} {b} z g) =
    omega (
      arith,
      ap length (none_flat z),
      length-append (rows_of b) (flatten (map rows_of (replicate z blank))),
      sound_few b g.sound,
    )
shape_few (more {k} {b} {bs} g f s) =
    omega (arith, length-append (rows_of b) (flatten (map rows_of bs)), sound_few b g.sound, shape_few s)

-- ---- the bytes that are written of them

-- the blocks of rows, the first of them block k
unfoldable archive_from : ℕ → List Row → List ℕ
archive_from k rows = flatten (map (λ j. rows_block (k + j) (rows_at j rows)) (up_from 0 (blocks_for (length rows))))

shift : {A : Type 0} (f : ℕ → A) (a n : ℕ) → map f (up_from (suc a) n) ≡ map (λ i. f (suc i)) (up_from a n)
unfolding up_from
shift f a zero = refl
shift f a (suc n) = ap (λ (l : List _). f (suc a) ∷ l) (shift f (suc a) n)

archive_none : (k : ℕ) → archive_from k [] ≡ []
unfolding archive_from flatten up_from
archive_none k = refl

-- one block alone
archive_one : (k : ℕ) (xs : List Row) → 1 ≤ length xs → length xs ≤ cells_per_block
    → archive_from k xs ≡ rows_block k xs
unfolding archive_from flatten up_from
archive_one k xs h l =
    let e : blocks_for (length xs) ≡ 1 = omega arith in
    rw (e, add-zero k, take_all cells_per_block xs l) (append-nil (rows_block k xs))

-- a full block, and those behind it
archive_next : (k : ℕ) (xs ys : List Row) → length xs ≡ cells_per_block
    → archive_from k (xs ++ ys) ≡ rows_block k xs ++ archive_from (suc k) ys
unfolding archive_from flatten up_from
archive_next k xs ys l =
    let f : ℕ → List ℕ = λ j. rows_block (k + j) (rows_at j (xs ++ ys)) in
    let e : blocks_for (length (xs ++ ys)) ≡ suc (blocks_for (length ys)) = omega (arith, length-append xs ys) in
    ap (λ (n : ℕ). flatten (map f (up_from 0 n))) e
    ∙ ap₂ ◌++◌ (ap₂ rows_block (add-zero k) (take_at xs ys cells_per_block l))
    (ap flatten (shift f 0 (blocks_for (length ys))
    ∙ map_same (λ j. f (suc j)) (λ j. rows_block (suc k + j) (rows_at j ys)) 0 (blocks_for (length ys))
    (λ j p q.
    let d : cells_per_block * suc j ≡ cells_per_block + cells_per_block * j = omega arith in
    ap₂ rows_block (add-suc k j ∙ sym (suc-add k j))
    (ap (λ (a : ℕ). part a cells_per_block (xs ++ ys)) d
    ∙ right xs ys cells_per_block (cells_per_block * j) cells_per_block l))))

padded_none : (n : ℕ) → replicate n 0 ≡ padded n []
padded_none n =
    let e : n - 0 ≡ n = omega arith in
    rw e

zeros_flat : (z : ℕ) → flatten (replicate z blank) ≡ replicate (block_length * z) 0
unfolding flatten
zeros_flat zero = refl
zeros_flat (suc z) =
    let e : block_length + block_length * z ≡ block_length * suc z = omega arith in
    ap₂ ◌++◌ blank_is (zeros_flat z)
    ∙ replicate-append-replicate block_length (block_length * z) 0 ∙ ap (λ n. replicate n 0) e

good_is : {k : ℕ} {b : List ℕ} → Good k b → rows_block k (rows_of b) ≡ b
good_is {k} {b} g = ap (λ (n : ℕ). rows_block n (rows_of b)) (sym g.number) ∙ sound_is b g.sound

-- zeros behind a block
padded_next : (b xs : List ℕ) (n : ℕ) → length b ≡ block_length
    → b ++ padded (block_length * n) xs ≡ padded (block_length * suc n) (b ++ xs)
padded_next b xs n l =
    let e : block_length * n - length xs ≡ block_length * suc n - length (b ++ xs) =
    omega (arith, length-append b xs) in
    sym (append_assoc b xs (replicate (block_length * n - length xs) 0)) ∙ ap (λ m. b ++ xs ++ replicate m 0) e

shape_written : {k : ℕ} {bs : List (List ℕ)} → Shape k bs
    → flatten bs ≡ padded (block_length * length bs) (archive_from k (flatten (map rows_of bs)))
unfolding flatten
shape_written {k} (ended z) =
    zeros_flat z ∙ ap (λ n. replicate (block_length * n) 0) (sym (length-replicate z blank))
    ∙ padded_none (block_length * length (replicate z blank))
    ∙ ap (padded (block_length * length (replicate z blank))) (sym (ap (archive_from k) (none_flat z) ∙ archive_none k))
shape_written (last {k} {b} z g) =
    let rows : flatten (map rows_of (b ∷ replicate z blank)) ≡ rows_of b =
    ap (λ (l : List Row). rows_of b ++ l) (none_flat z) ∙ append-nil (rows_of b) in
    let is : archive_from k (flatten (map rows_of (b ∷ replicate z blank))) ≡ b =
    ap (archive_from k) rows
    ∙ archive_one k (rows_of b) (sound_some b g.sound) (sound_few b g.sound) ∙ good_is g in
    ap (λ (l : List ℕ). b ++ l)
    (zeros_flat z ∙ ap (λ n. replicate (block_length * n) 0) (sym (length-replicate z blank))
    ∙ padded_none (block_length * length (replicate z blank)))
    ∙ padded_next b [] (length (replicate z blank)) g.long
    ∙ ap (padded (block_length * suc (length (replicate z blank)))) (append-nil b ∙ sym is)
shape_written (more {k} {b} {bs} g f s) =
    let full : length (rows_of b) ≡ cells_per_block = omega (arith, rows-count b, sound_few b g.sound) in
    ap (λ (l : List ℕ). b ++ l) (shape_written s)
    ∙ padded_next b (archive_from (suc k) (flatten (map rows_of bs))) (length bs) g.long
    ∙ ap (padded (block_length * suc (length bs)))
    (sym (archive_next k (rows_of b) (flatten (map rows_of bs)) full
    ∙ ap (λ (l : List ℕ). l ++ archive_from (suc k) (flatten (map rows_of bs))) (good_is g)))

archive-from : (rows : List Row) → archive_from 0 rows ≡ archive_of rows
unfolding archive_from archive_of
archive-from rows =
    ap flatten
    (map_same (λ j. rows_block (0 + j) (rows_at j rows)) (λ j. rows_block j (rows_at j rows)) 0
    (blocks_for (length rows)) (λ j p q. ap (λ (n : ℕ). rows_block n (rows_at j rows)) (zero-add j)))

-- ---- the buffer

module _ (buffer : List ℕ) (m : ℕ) (long : length buffer ≡ block_length * m) where
  count : length buffer / block_length ≡ m
  count = omega arith

  abbrev at : ℕ → List ℕ
  at k = part (block_length * k) block_length buffer

  m_blocks : length (blocks_in buffer) ≡ m
  m_blocks = blocks-count buffer ∙ count

  each : Each block_length (blocks_in buffer)
  unfolding blocks_in
  each i h =
      let l : i < m = omega (arith, m_blocks) in
      ap length (get_d_up_from at 0 (length buffer / block_length) i [] (omega (arith, count)) ∙ ap at (zero-add i))
      ∙ part_length (block_length * i) block_length buffer (omega arith)

  pub blocks_flat : flatten (blocks_in buffer) ≡ buffer
  unfolding blocks_in
  blocks_flat =
      pieces block_length buffer 0 (length buffer / block_length)
      ∙ take_all (block_length * (length buffer / block_length)) buffer (omega (arith, count))

  module _ (none : mismatch buffer ≡ None) where
    pub is_shape : Shape 0 (blocks_in buffer)
    unfolding mismatch
    is_shape = shape 0 (blocks_in buffer) each none

    pub exact : buffer_of (block_length * m) (rows_in buffer) ≡ buffer
    unfolding buffer_of rows_in
    exact =
        ap₂ padded (ap (λ (n : ℕ). block_length * n) (sym m_blocks))
        (sym (archive-from (flatten (map rows_of (blocks_in buffer)))))
        ∙ sym (shape_written is_shape) ∙ blocks_flat

    pub exact_fits : Fits (rows_in buffer)
    unfolding rows_in
    exact_fits = shape_fits is_shape

    pub exact_few : length (rows_in buffer) ≤ cells_per_block * m
    unfolding rows_in
    exact_few = omega (arith, shape_few is_shape, m_blocks)
