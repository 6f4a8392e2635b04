-- A scan goes through blocks in pieces, and finds what the definition of the first mismatch says.
--     blocks-count, pieces-blocks     how many blocks a buffer has; those of two pieces
--     scan-append     the blocks of two pieces, one after the other
--     scan-found      what is found from the start is the first mismatch
--     scan-rows       and where there is none, the rows are those of all blocks
use Prim.Native.Nat.{ℕ, suc, ◌+◌, ◌-◌, ◌*◌, ◌/◌, ◌%◌}
use native.Mathlib.Nat.{zero-add, add-zero}
use native.Mathlib.Numerals.{add-one}
use native.Mathlib.Omega.{arith}
use mathlib.Core.Path.{◌≡◌, refl, sym, ap, ap₂, ◌∙◌}
use mathlib.Core.Bool.{Bool, true, false, cond, ◌&&◌}
use mathlib.Core.List.{List, [], ◌∷◌, ◌++◌, map, flatten, map-append}
use lib.Dec.{eqb}
use lib.ListN.{length, length-append, length-map}
use Rattle.base_lists.specs.Lists.{up_from}
use Rattle.base_lists.proofs.Tests.{by_test}
use Rattle.base_lists.proofs.UpFrom.{up_from_add, length-up_from, map_shift, map_same}
use Rattle.base_buffers.specs.Buffer.{part}
use Rattle.base_buffers.proofs.Segments.{left, right}
use Rattle.block_layout.specs.Block.{block_length, block_cell}
use Rattle.archive_model.specs.Row.{block_number, row_count, row_in, rows_of, is_sound, is_blank}
use Rattle.archive_model.specs.Buffer.{At, None, blocks_in, rows_in, non_zero, is_short, is_followed, mismatch_from, mismatch, Stage, Filling, Short, Ended, Wrong, Scan, start_scan, stage_after, stage_blank, scan_block, scan_blocks, stage_found}
use Rattle.archive_model.proofs.Buffers.{blank_count}

-- ---- the blocks of a buffer, and of two pieces

pub blocks-count : (buffer : List ℕ) → length (blocks_in buffer) ≡ length buffer / block_length
unfolding blocks_in
blocks-count buffer =
    let n = length buffer / block_length in
    length-map (up_from 0 n) (λ k. part (block_length * k) block_length buffer) ∙ length-up_from 0 n

module _ (xs ys : List ℕ) (e : length xs % block_length ≡ 0) where
  abbrev n : ℕ
  n = length xs / block_length

  abbrev m : ℕ
  m = length ys / block_length

  abbrev at : ℕ → List ℕ
  at k = part (block_length * k) block_length (xs ++ ys)

  pub pieces_blocks : blocks_in (xs ++ ys) ≡ blocks_in xs ++ blocks_in ys
  unfolding blocks_in
  pieces_blocks =
      let count : length (xs ++ ys) / block_length ≡ n + m = omega (arith, length-append xs ys) in
      ap (λ (c : ℕ). map at (up_from 0 c)) count
      ∙ ap (map at) (up_from_add 0 n m ∙ ap (λ (c : ℕ). up_from 0 n ++ up_from c m) (zero-add n ∙ sym (add-zero n)))
      ∙ map-append at (up_from 0 n) (up_from (n + 0) m)
      ∙ ap₂ ◌++◌
      (map_same at (λ k. part (block_length * k) block_length xs) 0 n
      (λ k l h. left xs ys (length xs) (block_length * k) block_length refl (omega arith)))
      (map_shift at n 0 m
      ∙ map_same (λ k. at (n + k)) (λ k. part (block_length * k) block_length ys) 0 m
      (λ k l h.
      let d : block_length * (n + k) ≡ length xs + block_length * k = omega arith in
      ap (λ (a : ℕ). part a block_length (xs ++ ys)) d ∙ right xs ys (length xs) (block_length * k) block_length refl))

-- ---- a scan of two lists of blocks

pub scan_append : (s : Scan) (xs ys : List (List ℕ)) → scan_blocks s (xs ++ ys) ≡ scan_blocks (scan_blocks s xs) ys
unfolding scan_blocks
scan_append s [] ys = refl
scan_append s (b ∷ xs) ys = scan_append (scan_block s b) xs ys

-- ---- one block

module _ (s : Scan) (b : List ℕ) where
  blank_stage : is_blank b ≡ true → (st : Stage) → s.stage ≡ st → (scan_block s b).stage ≡ stage_blank st
  unfolding scan_block
  blank_stage t st e = rw (t, e)

  other-stage : is_blank b ≡ false → (st : Stage) → s.stage ≡ st → (scan_block s b).stage ≡ stage_after st s.blocks b
  unfolding scan_block
  other-stage f st e = rw (f, e)

  blocks_more : (scan_block s b).blocks ≡ suc s.blocks
  unfolding scan_block
  blocks_more = add-one s.blocks

-- ---- the stages

wrong_stays : (bs : List (List ℕ)) (s : Scan) (j : ℕ) → s.stage ≡ Wrong j → (scan_blocks s bs).stage ≡ Wrong j
unfolding scan_blocks
wrong_stays [] s j e = e
wrong_stays (b ∷ bs) s j e =
    wrong_stays bs (scan_block s b) j
    (by_test {X = (scan_block s b).stage ≡ Wrong j} (is_blank b)
    (λ t. blank_stage s b t (Wrong j) e) (λ f. other-stage s b f (Wrong j) e))

ended : (bs : List (List ℕ)) (s : Scan) → s.stage ≡ Ended
    → stage_found (scan_blocks s bs).stage ≡ non_zero s.blocks bs
unfolding scan_blocks
ended [] s e = ap stage_found e
ended (b ∷ bs) s e =
    by_test {X = stage_found (scan_blocks (scan_block s b) bs).stage ≡ non_zero s.blocks (b ∷ bs)} (is_blank b)
    (λ t. ended bs (scan_block s b) (blank_stage s b t Ended e)
    ∙ ap (λ (k : ℕ). non_zero k bs) (blocks_more s b) ∙ (rw t))
    (λ f. ap stage_found (wrong_stays bs (scan_block s b) s.blocks (other-stage s b f Ended e)) ∙ (rw f))

short : (bs : List (List ℕ)) (s : Scan) → s.stage ≡ Short
    → stage_found (scan_blocks s bs).stage ≡ cond (is_followed bs) (At (s.blocks - 1)) (mismatch_from s.blocks bs)
unfolding scan_blocks mismatch_from
short [] s e = ap stage_found e
short (b ∷ bs) s e =
    by_test {X = stage_found (scan_blocks (scan_block s b) bs).stage
    ≡ cond (is_followed (b ∷ bs)) (At (s.blocks - 1)) (mismatch_from s.blocks (b ∷ bs))}
    (is_blank b)
    (λ t. ended bs (scan_block s b) (blank_stage s b t Short e)
    ∙ ap (λ (k : ℕ). non_zero k bs) (blocks_more s b) ∙ (rw t))
    (λ f. ap stage_found (wrong_stays bs (scan_block s b) (s.blocks - 1) (other-stage s b f Short e)) ∙ (rw f))

-- a block that matches: it is short, or full
matching : (bs : List (List ℕ)) (s : Scan) (b : List ℕ) → is_blank b ≡ false
    → is_sound b && eqb (block_number b) s.blocks ≡ true → s.stage ≡ Filling
    → ((scan_block s b).stage ≡ Filling
    → stage_found (scan_blocks (scan_block s b) bs).stage ≡ mismatch_from (scan_block s b).blocks bs)
    → stage_found (scan_blocks (scan_block s b) bs).stage ≡ mismatch_from s.blocks (b ∷ bs)
unfolding mismatch_from
matching bs s b f m e more =
    let after : (scan_block s b).stage ≡ cond (is_short b) Short Filling =
    other-stage s b f Filling e
    ∙ ap (λ (t : Bool). cond t (cond (is_short b) Short Filling) (Wrong s.blocks)) m in
    let back : (scan_block s b).blocks - 1 ≡ s.blocks = omega (arith, blocks_more s b) in
    by_test {X = stage_found (scan_blocks (scan_block s b) bs).stage ≡ mismatch_from s.blocks (b ∷ bs)} (is_short b)
    (λ t.
    short bs (scan_block s b) (after ∙ ap (λ (u : Bool). cond u Short Filling) t)
    ∙ ap (λ (k : ℕ). cond (is_followed bs) (At k) (mismatch_from (scan_block s b).blocks bs)) back
    ∙ ap (λ (k : ℕ). cond (is_followed bs) (At s.blocks) (mismatch_from k bs)) (blocks_more s b) ∙ (rw (f, m, t)))
    (λ n. more (after ∙ ap (λ (u : Bool). cond u Short Filling) n)
    ∙ ap (λ (k : ℕ). mismatch_from k bs) (blocks_more s b) ∙ (rw (f, m, n)))

filling : (bs : List (List ℕ)) (s : Scan) → s.stage ≡ Filling
    → stage_found (scan_blocks s bs).stage ≡ mismatch_from s.blocks bs
unfolding scan_blocks mismatch_from
filling [] s e = ap stage_found e
filling (b ∷ bs) s e =
    by_test {X = stage_found (scan_blocks (scan_block s b) bs).stage ≡ mismatch_from s.blocks (b ∷ bs)} (is_blank b)
    (λ t. ended bs (scan_block s b) (blank_stage s b t Filling e)
    ∙ ap (λ (k : ℕ). non_zero k bs) (blocks_more s b) ∙ (rw t))
    (λ f.
    by_test {X = stage_found (scan_blocks (scan_block s b) bs).stage ≡ mismatch_from s.blocks (b ∷ bs)}
    (is_sound b && eqb (block_number b) s.blocks)
    (λ m. matching bs s b f m e (filling bs (scan_block s b)))
    (λ n. ap stage_found
    (wrong_stays bs (scan_block s b) s.blocks
    (other-stage s b f Filling e
    ∙ ap (λ (t : Bool). cond t (cond (is_short b) Short Filling) (Wrong s.blocks)) n))
    ∙ (rw (f, n))))

pub scan-found : (buffer : List ℕ) → stage_found (scan_blocks start_scan (blocks_in buffer)).stage ≡ mismatch buffer
unfolding mismatch
scan-found buffer = filling (blocks_in buffer) start_scan refl

-- ---- the rows

pub rows-count : (b : List ℕ) → length (rows_of b) ≡ row_count b
unfolding rows_of
rows-count b = length-map (up_from 0 (row_count b)) (λ i. row_in (block_cell i b)) ∙ length-up_from 0 (row_count b)

-- a block that is neither all zero nor sound never matches
unsound : (b : List ℕ) (st : Stage) (k : ℕ) → is_sound b ≡ false → (j : ℕ) × (stage_after st k b ≡ Wrong j)
unsound b Filling k f = (k, rw f)
unsound b Short k f = (k - 1, refl)
unsound b Ended k f = (k, refl)
unsound b (Wrong j) k f = (j, refl)

pub at_none : (j : ℕ) → At j ≡ None → ⊥
at_none j e = let z : ◌≡◌ {A = ℕ} 0 1 = cc in omega arith

-- the rows that a block adds, where no mismatch is found
adds : (bs : List (List ℕ)) (s : Scan) (b : List ℕ) → stage_found (scan_blocks (scan_block s b) bs).stage ≡ None
    → (scan_block s b).rows ≡ s.rows + length (rows_of b)
unfolding scan_block
adds bs s b none =
    by_test {X = s.rows + cond (is_sound b) (row_count b) 0 ≡ s.rows + length (rows_of b)} (is_sound b)
    (λ t. rw t (omega (arith, rows-count b)))
    (λ f.
    by_test {X = s.rows + cond (is_sound b) (row_count b) 0 ≡ s.rows + length (rows_of b)} (is_blank b)
    (λ z. rw f (omega (arith, rows-count b, blank_count b z)))
    (λ n.
    let u = unsound b s.stage s.blocks f in
    absurd (at_none u.0
    (sym (ap stage_found (wrong_stays bs (scan_block s b) u.0 (other-stage s b n s.stage refl ∙ u.1)))
    ∙ none))))

rows_over : (bs : List (List ℕ)) (s : Scan) → stage_found (scan_blocks s bs).stage ≡ None
    → (scan_blocks s bs).rows ≡ s.rows + length (flatten (map rows_of bs))
unfolding scan_blocks flatten
rows_over [] s none = omega arith
rows_over (b ∷ bs) s none =
    rows_over bs (scan_block s b) none
    ∙ omega (arith, adds bs s b none, length-append (rows_of b) (flatten (map rows_of bs)))

pub scan-rows : (buffer : List ℕ) → mismatch buffer ≡ None
    → (scan_blocks start_scan (blocks_in buffer)).rows ≡ length (rows_in buffer)
unfolding rows_in
scan-rows buffer none =
    rows_over (blocks_in buffer) start_scan (scan-found buffer ∙ none)
    ∙ zero-add (length (flatten (map rows_of (blocks_in buffer))))
