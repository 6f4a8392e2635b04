-- The rows of the sound blocks of a buffer, and the blocks that are dropped.
--     sound-rows-fit, sound-rows-few  the rows of its sound blocks fit, and are at most 15 a block
--     accounted                       every block is kept, dropped or all zero
--     intact-rows, intact-dropped     in an archive every row is in a sound block, and no block is dropped
use Prim.Native.Nat.{ℕ, zero, suc, ◌+◌, ◌*◌, ◌/◌, ◌≤◌, ◌<◌}
use native.Mathlib.Omega.{arith}
use mathlib.Core.Path.{◌≡◌, refl, sym, ap, ◌∙◌}
use mathlib.Core.Bool.{true, false}
use mathlib.Core.List.Memᴰ
use mathlib.Core.List.{List, [], ◌∷◌, ◌++◌, map, flatten, Memᴰ}
use mathlib.Core.Logic.{⊎_elim}
use lib.Dec.{ltb}
use lib.ListN.{length, replicate, length-append, length-map}
use borrow.Author.Tests.{lt-ltb}
use Rattle.base_lists.specs.Lists.{keep, count, pairwise, up_from}
use Rattle.base_lists.proofs.Tests.{by_test}
use Rattle.base_lists.proofs.Keep.{keep-map, keep_in, keep-from}
use Rattle.base_lists.proofs.Pairwise.{pairwise-keep}
use Rattle.base_lists.proofs.UpFrom.{up_from_in, pairwise_map}
use Rattle.block_layout.specs.Block.{cells_per_block, block_length}
use Rattle.archive_model.specs.Row.{Row, rows_of, is_sound, is_blank}
use Rattle.archive_model.specs.Buffer.{blocks_in, rows_in}
use Rattle.archive_model.specs.Append.{verdict, block_at}
use Rattle.archive_model.proofs.Blocks.{Fits}
use Rattle.archive_model.proofs.Buffers.{blank, no_rows, none_flat, blank_blank, blank_count}
use Rattle.archive_model.proofs.Pieces.{blocks-count, rows-count}
use Rattle.archive_model.proofs.Exact.{sound_some, sound_few, sound_fits, fits_append, Shape, is_shape}
use Rattle.archive_model.proofs.Cursor.{verdict_facts, blocks_of}
use Rattle.archive_repack_model.specs.Repack.{sound_rows, is_dropped, dropped}
use Rattle.archive_repack_model.specs.Claims.{Accounted}

-- ---- some blocks

abbrev pub rows_kept : List (List ℕ) → List Row
rows_kept bs = flatten (map rows_of (keep is_sound bs))

no_fits : Fits []
unfolding Fits
no_fits i h = absurd (omega arith)

pub kept-fit : (bs : List (List ℕ)) → Fits (rows_kept bs)
unfolding flatten
kept-fit [] = no_fits
kept-fit (b ∷ bs) =
    by_test {X = Fits (rows_kept (b ∷ bs))} (is_sound b)
    (λ t. rw t (fits_append (rows_of b) (rows_kept bs) (sound_fits b t) (kept-fit bs)))
    (λ f. rw f (kept-fit bs))

kept_few : (bs : List (List ℕ)) → length (rows_kept bs) ≤ cells_per_block * length bs
unfolding flatten
kept_few [] = omega arith
kept_few (b ∷ bs) =
    by_test {X = length (rows_kept (b ∷ bs)) ≤ cells_per_block * suc (length bs)} (is_sound b)
    (λ t. rw t (omega (arith, length-append (rows_of b) (rows_kept bs), sound_few b t, kept_few bs)))
    (λ f. rw f (omega (arith, kept_few bs)))

-- a sound block has a row, so it is not all zero
sound_not_blank : (b : List ℕ) → is_sound b ≡ true → is_blank b ≡ false
sound_not_blank b s =
    by_test {X = is_blank b ≡ false} (is_blank b)
    (λ t. absurd (omega (arith, sound_some b s, rows-count b, blank_count b t))) (λ f. f)

three_kinds : (bs : List (List ℕ)) → count is_sound bs + length (keep is_dropped bs) + count is_blank bs ≡ length bs
three_kinds [] = refl
three_kinds (b ∷ bs) =
    by_test {X = count is_sound (b ∷ bs) + length (keep is_dropped (b ∷ bs)) + count is_blank (b ∷ bs)
    ≡ suc (length bs)}
    (is_sound b)
    (λ s. rw (s, sound_not_blank b s) (omega (arith, three_kinds bs)))
    (λ n.
    by_test {X = count is_sound (b ∷ bs) + length (keep is_dropped (b ∷ bs)) + count is_blank (b ∷ bs)
    ≡ suc (length bs)}
    (is_blank b)
    (λ t. rw (n, t) (omega (arith, three_kinds bs)))
    (λ f. rw (n, f) (omega (arith, three_kinds bs))))

-- ---- the blocks of an archive

blank_unsound : is_sound blank ≡ false
blank_unsound =
    by_test {X = is_sound blank ≡ false} (is_sound blank)
    (λ t. absurd (omega (arith, sound_some blank t, ap length no_rows))) (λ f. f)

blanks_kept : (z : ℕ) → keep is_sound (replicate z blank) ≡ []
blanks_kept zero = refl
blanks_kept (suc z) = rw blank_unsound (blanks_kept z)

blanks_dropped : (z : ℕ) → keep is_dropped (replicate z blank) ≡ []
blanks_dropped zero = refl
blanks_dropped (suc z) = rw (blank_unsound, blank_blank) (blanks_dropped z)

shape_rows : {k : ℕ} {bs : List (List ℕ)} → Shape k bs → rows_kept bs ≡ flatten (map rows_of bs)
unfolding flatten
shape_rows (Shape.ended z) = ap (λ (l : List (List ℕ)). flatten (map rows_of l)) (blanks_kept z) ∙ sym (none_flat z)
shape_rows (Shape.last {k} {b} z g) =
    rw g.sound
    (ap (λ (l : List Row). rows_of b ++ l)
    (ap (λ (l : List (List ℕ)). flatten (map rows_of l)) (blanks_kept z) ∙ sym (none_flat z)))
shape_rows (Shape.more {k} {b} {bs} g f s) = rw g.sound (ap (λ (l : List Row). rows_of b ++ l) (shape_rows s))

shape_dropped : {k : ℕ} {bs : List (List ℕ)} → Shape k bs → keep is_dropped bs ≡ []
shape_dropped (Shape.ended z) = blanks_dropped z
shape_dropped (Shape.last {k} {b} z g) = rw g.sound (blanks_dropped z)
shape_dropped (Shape.more {k} {b} {bs} g f s) = rw g.sound (shape_dropped s)

-- ---- numbers in a row

pub map-id : (l : List ℕ) → map (λ (i : ℕ). i) l ≡ l
map-id [] = refl
map-id (x ∷ l) = ap (λ (m : List ℕ). x ∷ m) (map-id l)

up_from-below : {i : ℕ} (a n : ℕ) → Memᴰ i (up_from a n) → i < a + n
unfolding up_from
up_from-below a zero m = absurd (Memᴰ.not-nil m)
up_from-below {i} a (suc n) m =
    ⊎_elim (λ e. omega (arith, e)) (λ k. omega (arith, up_from-below (suc a) n k)) (Memᴰ.cases_cons m)

-- ---- a buffer

module _ (buffer : List ℕ) where
  abbrev blocks : ℕ
  blocks = length buffer / block_length

  abbrev at : ℕ → List ℕ
  at k = block_at k buffer

  pub sound_rows-fit : Fits (sound_rows buffer)
  unfolding sound_rows
  sound_rows-fit = kept-fit (blocks_in buffer)

  pub sound_rows_few : length (sound_rows buffer) ≤ cells_per_block * blocks
  unfolding sound_rows
  sound_rows_few = omega (arith, kept_few (blocks_in buffer), blocks-count buffer)

  -- the positions are those of the blocks that are dropped
  dropped-blocks : keep is_dropped (blocks_in buffer) ≡ map at (dropped buffer)
  unfolding blocks_in dropped
  dropped-blocks = keep-map is_dropped at (up_from 0 blocks)

  pub dropped-count : length (keep is_dropped (blocks_in buffer)) ≡ length (dropped buffer)
  dropped-count = ap length dropped-blocks ∙ length-map (dropped buffer) at

  up_from_rises : pairwise ltb (up_from 0 blocks) ≡ true
  up_from_rises =
      ap (pairwise ltb) (sym (map-id (up_from 0 blocks)))
      ∙ pairwise_map (λ (i : ℕ). i) ltb (λ i j h. lt-ltb i j h) 0 blocks

  pub accounted : Accounted buffer
  unfolding dropped
  accounted = record {
    blocks = omega (arith, three_kinds (blocks_in buffer), dropped-count, blocks-count buffer);
    rising = pairwise-keep ltb (λ k. is_dropped (at k)) (up_from 0 blocks) up_from_rises;
    listed =
        λ k m. (
          omega (arith, up_from-below 0 blocks (keep-from (λ k. is_dropped (at k)) (up_from 0 blocks) m).0),
          (keep-from (λ k. is_dropped (at k)) (up_from 0 blocks) m).1,
        );
    every = λ k h d. keep_in (λ k. is_dropped (at k)) (up_from_in 0 blocks k (omega arith) (omega arith)) d;
  }

  module _ (v : (verdict buffer).number ≡ 0) where
    pub intact_rows : sound_rows buffer ≡ rows_in buffer
    unfolding sound_rows rows_in
    intact_rows = shape_rows (is_shape buffer blocks (blocks_of buffer v).0 (verdict_facts buffer v).1)

    pub intact_dropped : dropped buffer ≡ []
    intact_dropped =
        empty (dropped buffer)
        (sym dropped-count
        ∙ ap length (shape_dropped (is_shape buffer blocks (blocks_of buffer v).0 (verdict_facts buffer v).1)))
      where
        empty : (l : List ℕ) → length l ≡ 0 → l ≡ []
        empty [] e = refl
        empty (x ∷ l) e = absurd (omega arith)
