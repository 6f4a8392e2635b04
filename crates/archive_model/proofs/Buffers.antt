-- A buffer that rows were written to: it is an archive, and the rows are read back.
--     blocks-back     its blocks: those of the rows, then all-zero ones
--     rows_in         the rows that it says
--     no-mismatch     every block matches
--     blank-count, not-blank     an all-zero block says no rows, and one with a row is not all zero
use Prim.Native.Nat.{ℕ, zero, suc, ◌+◌, ◌-◌, ◌*◌, ◌/◌, ◌^◌, ◌≤◌, ◌<◌, min}
use native.Mathlib.Nat.{zero-add, add_comm, mul-suc, mul-zero}
use native.Mathlib.Decide.{dec_lt}
use native.Mathlib.Omega.{arith}
use mathlib.Core.Path.{◌≡◌, refl, sym, ap, ap₂, ◌∙◌}
use mathlib.Core.Bool.{Bool, true, false, ◌&&◌}
use mathlib.Core.List.{List, [], ◌∷◌, ◌++◌, map, flatten, append-nil, map-append, map-map}
use lib.ListN.{length, get_or, take, drop, replicate, length-map, length-take, length-drop, get_or-eq_default}
use lib.Seq.{take_all, take-add, drop-drop}
use lib.Dec.{eqb}
use borrow.Author.Tests.{eqb-true, eq-eqb, le-ltb}
use Rattle.base_lists.specs.Lists.{up_from}
use Rattle.base_lists.proofs.Tests.{by_test, all_get_d}
use Rattle.base_lists.proofs.UpFrom.{length-up_from, get_d_up_from, up_from_add, map_same}
use Rattle.base_lists.proofs.Parts.{flatten_append}
use Rattle.base_buffers.specs.Buffer.{part}
use Rattle.block_layout.specs.Block.{cells_per_block, block_length}
use Rattle.base_buffers.proofs.Segments.{part_at, left, right, part-replicate, Each, flatten-length, flatten-part}
use Rattle.base_buffers.proofs.Buffer.{padded-length}
use Rattle.archive_model.specs.Row.{Row, rows_block, block_number, row_count, rows_of, is_sound, is_blank}
use Rattle.archive_model.specs.Buffer.{None, blocks_for, rows_at, archive_of, buffer_of, max_blocks, blocks_in, rows_in, non_zero, is_short, is_followed, mismatch_from, mismatch}
use Rattle.archive_model.proofs.Blocks.{Fits, rows-block-length, number-back, count-back, rows_back, block_sound}

-- ---- lists over numbers in a row

map_constant : {A : Type 0} (x : A) (a n : ℕ) → map (λ (i : ℕ). x) (up_from a n) ≡ replicate n x
unfolding up_from
map_constant x a zero = refl
map_constant x a (suc n) = ap (λ (l : List _). x ∷ l) (map_constant x (suc a) n)

-- a list in pieces of w
pub pieces : {A : Type 0} (w : ℕ) (xs : List A) (a n : ℕ)
    → flatten (map (λ k. part (w * k) w xs) (up_from a n)) ≡ part (w * a) (w * n) xs
unfolding flatten up_from
pieces w xs a zero = ap (λ (k : ℕ). take k (drop (w * a) xs)) (sym (mul-zero w))
pieces w xs a (suc n) =
    let e : w * suc n ≡ w + w * n = mul-suc w n ∙ add_comm (w * n) w in
    let d : w * suc a ≡ w * a + w = mul-suc w a in
    ap (λ (l : List _). part (w * a) w xs ++ l)
    (pieces w xs (suc a) n ∙ ap (λ (k : ℕ). take (w * n) (drop k xs)) d
    ∙ ap (take (w * n)) (sym (drop-drop w (w * a) xs)))
    ∙ sym (take-add w (w * n) (drop (w * a) xs)) ∙ ap (λ (k : ℕ). take k (drop (w * a) xs)) (sym e)

-- an all-zero block
unfoldable pub blank : List ℕ
blank = replicate block_length 0

pub blank_is : blank ≡ replicate block_length 0
unfolding blank
blank_is = refl

-- it says no rows
pub no_rows : rows_of blank ≡ []
unfolding blank rows_of up_from
no_rows = refl

pub none_flat : (k : ℕ) → flatten (map rows_of (replicate k blank)) ≡ []
unfolding flatten
none_flat zero = refl
none_flat (suc k) = ap (λ (l : List Row). l ++ flatten (map rows_of (replicate k blank))) no_rows ∙ none_flat k

-- ---- the rows of one block

module _ (rows : List Row) where
  abbrev n : ℕ
  n = length rows

  pub group_length : (k : ℕ) → length (rows_at k rows) ≡ min cells_per_block (n - cells_per_block * k)
  group_length k = simp (length-take, length-drop)

  pub group_few : (k : ℕ) → length (rows_at k rows) ≤ cells_per_block
  group_few k = omega (arith, group_length k)

  pub group_fits : Fits rows → (k : ℕ) → Fits (rows_at k rows)
  unfolding Fits
  group_fits fit k i h =
      rw (part_at (cells_per_block * k) cells_per_block rows i _ (omega (arith, group_length k)))
      (fit (cells_per_block * k + i) (omega (arith, group_length k)))

-- ---- the blocks of a buffer

module _ (rows : List Row) (m : ℕ) (fit : Fits rows) (fits : length rows ≤ cells_per_block * m) where
  abbrev b : ℕ
  b = blocks_for (length rows)

  few : b ≤ m
  few = omega arith

  abbrev block_for : ℕ → List ℕ
  block_for k = rows_block k (rows_at k rows)

  abbrev segments : List (List ℕ)
  segments = map block_for (up_from 0 b)

  segments_count : length segments ≡ b
  segments_count = length-map (up_from 0 b) block_for ∙ length-up_from 0 b

  segment_at : (k : ℕ) → k < b → get_or segments k [] ≡ block_for k
  segment_at k h = get_d_up_from block_for 0 b k [] h ∙ ap block_for (zero-add k)

  each : Each block_length segments
  each k h =
      ap length (segment_at k (omega (arith, segments_count)))
      ∙ rows-block-length k (rows_at k rows) (group_fits rows fit k) (group_few rows k)

  archive-length : length (flatten segments) ≡ block_length * b
  archive-length = flatten-length block_length segments each ∙ ap (λ (k : ℕ). block_length * k) segments_count

  abbrev zeros : List ℕ
  zeros = replicate (block_length * m - length (flatten segments)) 0

  buffer_is : buffer_of (block_length * m) rows ≡ flatten segments ++ zeros
  unfolding buffer_of archive_of
  buffer_is = refl

  pub buffer-length : length (buffer_of (block_length * m) rows) ≡ block_length * m
  buffer-length =
      ap length buffer_is ∙ padded-length (block_length * m) (flatten segments) (omega (arith, archive-length, few))

  pub used-block : (k : ℕ) → 0 ≤ k → k < 0 + b
      → part (block_length * k) block_length (buffer_of (block_length * m) rows) ≡ block_for k
  used-block k l h =
      ap (part (block_length * k) block_length) buffer_is
      ∙ left (flatten segments) zeros (block_length * b) (block_length * k) block_length archive-length (omega arith)
      ∙ flatten-part block_length segments each k (omega (arith, segments_count)) ∙ segment_at k (omega arith)

  pub free_block : (k : ℕ) → b ≤ k → k < b + (m - b)
      → part (block_length * k) block_length (buffer_of (block_length * m) rows) ≡ blank
  free_block k l h =
      let e : block_length * k ≡ block_length * b + block_length * (k - b) = omega arith in
      ap (part (block_length * k) block_length) buffer_is
      ∙ ap (λ (a : ℕ). part a block_length (flatten segments ++ zeros)) e
      ∙ right (flatten segments) zeros (block_length * b) (block_length * (k - b)) block_length archive-length
      ∙ part-replicate (block_length * (k - b)) block_length
      (block_length * m - length (flatten segments)) 0 (omega (arith, archive-length))
      ∙ sym blank_is

  pub blocks-back : blocks_in (buffer_of (block_length * m) rows) ≡ segments ++ replicate (m - b) blank
  unfolding blocks_in
  blocks-back =
      let buffer = buffer_of (block_length * m) rows in
      let at : ℕ → List ℕ = λ k. part (block_length * k) block_length buffer in
      let count : length buffer / block_length ≡ b + (m - b) = omega (arith, buffer-length, few) in
      ap (λ (k : ℕ). map at (up_from 0 k)) count
      ∙ ap (map at) (up_from_add 0 b (m - b) ∙ ap (λ (k : ℕ). up_from 0 b ++ up_from k (m - b)) (zero-add b))
      ∙ map-append at (up_from 0 b) (up_from b (m - b))
      ∙ ap₂ ◌++◌ (map_same at block_for 0 b used-block)
      (map_same at (λ k. blank) b (m - b) free_block ∙ map_constant blank b (m - b))

  -- ---- the rows

  pub rows_in_lem : rows_in (buffer_of (block_length * m) rows) ≡ rows
  unfolding rows_in
  rows_in_lem =
      ap (λ (l : List (List ℕ)). flatten (map rows_of l)) blocks-back
      ∙ ap flatten (map-append rows_of segments (replicate (m - b) blank))
      ∙ flatten_append (map rows_of segments) (map rows_of (replicate (m - b) blank))
      ∙ ap₂ ◌++◌
      (ap flatten
      (map-map rows_of block_for (up_from 0 b)
      ∙ map_same (λ k. rows_of (block_for k)) (λ k. rows_at k rows) 0 b
      (λ k l h. rows_back k (rows_at k rows) (group_fits rows fit k) (group_few rows k)))
      ∙ pieces cells_per_block rows 0 b)
      (none_flat (m - b))
      ∙ append-nil (part (cells_per_block * 0) (cells_per_block * b) rows)
      ∙ take_all (cells_per_block * b) rows (omega arith)

-- ---- every block matches

pub blank_blank : is_blank blank ≡ true
unfolding blank
blank_blank = refl

zeros_end : (k j : ℕ) → non_zero k (replicate j blank) ≡ None
zeros_end k zero = refl
zeros_end k (suc j) = rw blank_blank (zeros_end (suc k) j)

zeros_match : (k j : ℕ) → mismatch_from k (replicate j blank) ≡ None
unfolding mismatch_from
zeros_match k zero = refl
zeros_match k (suc j) = rw blank_blank (zeros_end (suc k) j)

zeros_follow : (j : ℕ) → is_followed (replicate j blank) ≡ false
zeros_follow zero = refl
zeros_follow (suc j) = rw blank_blank

and-false : (a : Bool) {b : Bool} → b ≡ false → a && b ≡ false
and-false true e = e
and-false false e = refl

-- an all-zero block says no rows
pub blank_count : (block : List ℕ) → is_blank block ≡ true → row_count block ≡ 0
blank_count block t = elim (dec_lt 4 (length block)) [
  | yes h ↦ eqb-true (row_count block) 0 (all_get_d (λ (x : ℕ). eqb x 0) block 4 0 t h)
  | no h ↦ get_or-eq_default block 0 (omega arith)
]

-- a block with a row is not all zero
pub not_blank : (block : List ℕ) → length block ≡ block_length → 1 ≤ row_count block → is_blank block ≡ false
not_blank block l h =
    by_test {X = is_blank block ≡ false} (is_blank block)
    (λ t.
    absurd (let e : row_count block ≡ 0 =
    eqb-true (row_count block) 0 (all_get_d (λ (x : ℕ). eqb x 0) block 4 0 t (omega arith)) in
    omega arith))
    (λ f. f)

-- one block that matches, and those behind it
match_next : (k : ℕ) (block : List ℕ) (more : List (List ℕ))
    → is_blank block ≡ false → is_sound block ≡ true → block_number block ≡ k
    → is_short block && is_followed more ≡ false → mismatch_from (suc k) more ≡ None
    → mismatch_from k (block ∷ more) ≡ None
unfolding mismatch_from
match_next k block more nb so nu sh rest = rw (nb, so, eq-eqb (block_number block) k nu, sh) rest

module _ (rows : List Row) (m : ℕ) (fit : Fits rows)
    (fits : length rows ≤ cells_per_block * m) (buffer : m ≤ max_blocks) where
  -- the last one, or a full one
  last_or_full : (a j z : ℕ) → a + suc j ≡ blocks_for (length rows)
      → is_short (rows_block a (rows_at a rows))
      && is_followed (map (λ k. rows_block k (rows_at k rows)) (up_from (suc a) j) ++ replicate z blank)
      ≡ false
  unfolding up_from
  last_or_full a zero z e = and-false (is_short (rows_block a (rows_at a rows))) (zeros_follow z)
  last_or_full a (suc j) z e =
      let count = count-back a (rows_at a rows) (group_fits rows fit a) (group_few rows a) in
      let full : cells_per_block ≤ row_count (rows_block a (rows_at a rows)) =
      omega (arith, count, group_length rows a) in
      rw (le-ltb (row_count (rows_block a (rows_at a rows))) cells_per_block full)

  matches : (a j z : ℕ) → a + j ≡ blocks_for (length rows)
      → mismatch_from a (map (λ k. rows_block k (rows_at k rows)) (up_from a j) ++ replicate z blank) ≡ None
  unfolding up_from
  matches a zero z e = zeros_match a z
  matches a (suc j) z e =
      let block = rows_block a (rows_at a rows) in
      let long = group_length rows a in
      let count = count-back a (rows_at a rows) (group_fits rows fit a) (group_few rows a) in
      let some : 1 ≤ length (rows_at a rows) = omega (arith, long) in
      let low : a < 2 ^ 32 = omega arith in
      match_next a block (map (λ k. rows_block k (rows_at k rows)) (up_from (suc a) j) ++ replicate z blank)
      (not_blank block (rows-block-length a (rows_at a rows) (group_fits rows fit a) (group_few rows a))
      (omega (arith, count)))
      (block_sound a (rows_at a rows) (group_fits rows fit a) (group_few rows a) some low)
      (number-back a (rows_at a rows) (group_fits rows fit a) (group_few rows a) low)
      (last_or_full a j z e)
      (matches (suc a) j z (omega arith))

  pub no_mismatch : mismatch (buffer_of (block_length * m) rows) ≡ None
  unfolding mismatch
  no_mismatch =
      ap (mismatch_from 0) (blocks-back rows m fit fits)
      ∙ matches 0 (blocks_for (length rows)) (m - blocks_for (length rows)) (zero-add (blocks_for (length rows)))
