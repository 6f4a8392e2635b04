-- The scan of blocks, as the code goes through them.
--     sound-le, blank_none                                    the rows of a block: at most 15, and none in an all-zero one
--     stage-wrong, stage-number, stage-short, stage-full      what a block makes of the stage where all before it are full
--     scanned-blank, scanned                                  one block more
--     scanned-count, scan-none, scan-next                     the loop over the blocks: a turn's count; its end, a turn
--     blocks-none, blocks-next                                the blocks of a piece, the first of them first
--     blocks_from, rest-first                                 those from a position on
use Prim.Native.Nat.{ℕ, ◌+◌, ◌-◌, ◌*◌, ◌/◌, ◌≤◌, ◌<◌}
use native.Mathlib.Omega.{arith}
use mathlib.Core.Path.{◌≡◌, refl, ap, ◌∙◌}
use mathlib.Core.Bool.{true, false}
use mathlib.Core.List.{List, [], ◌∷◌, ◌++◌, map}
use lib.Dec.{leb}
use lib.ListN.{length}
use lib.Seq.{take_all}
use borrow.Author.Tests.{eq-eqb, ne_eqb, lt-ltb, le-ltb, leb-true}
use Rattle.base_lists.specs.Lists.{up_from}
use Rattle.base_lists.proofs.Choice.{both}
use Rattle.base_lists.proofs.Tests.{by_test}
use Rattle.base_buffers.specs.Buffer.{part}
use Rattle.block_layout.specs.Block.{cells_per_block, block_length}
use Rattle.archive_model.specs.Row.{block_number, row_count, is_sound, is_blank}
use Rattle.archive_model.specs.Buffer.{blocks_in, Stage, Filling, Short, Wrong, Scan, stage_after, stage_blank, scan_block, scan_blocks}
use Rattle.archive_model.proofs.Buffers.{blank_count}
use Rattle.archive_model.proofs.Pieces.{pieces_blocks}
use Rattle.archive_file.specs.Archive.{sound_count}

module _ (block : List ℕ) where
  -- a sound block has a row, and at most 15
  few : is_sound block ≡ true → (1 ≤ row_count block) × (row_count block ≤ cells_per_block)
  unfolding is_sound
  few h =
      let a = both (leb 1 (row_count block)) _ h in (
        leb-true 1 (row_count block) a.0,
        leb-true (row_count block) cells_per_block (both (leb (row_count block) cells_per_block) _ a.1).0,
      )

  pub sound_le : sound_count block ≤ cells_per_block
  sound_le =
      by_test {X = sound_count block ≤ cells_per_block} (is_sound block) (λ t. rw t (few t).1) (λ f. rw f (omega arith))

  none_sound : sound_count block ≡ 0 → is_sound block ≡ false
  none_sound h =
      by_test {X = is_sound block ≡ false} (is_sound block)
      (λ t. absurd (let e : row_count block ≡ 0 = rw t at h in omega (arith, (few t).0))) (λ f. f)

  some_sound : (sound_count block ≡ 0 → ⊥) → is_sound block ≡ true
  some_sound n = by_test {X = is_sound block ≡ true} (is_sound block) (λ t. t) (λ f. absurd (n (rw f refl)))

  -- an all-zero block has no row
  pub blank_none : is_blank block ≡ true → sound_count block ≡ 0
  blank_none h = by_test {X = sound_count block ≡ 0} (is_sound block) (λ t. rw t (blank_count block h)) (λ f. rw f refl)

  -- ---- what it makes of the stage

  module _ (k : ℕ) where
    pub stage_wrong : sound_count block ≡ 0 → Wrong k ≡ stage_after Filling k block
    stage_wrong h = rw (none_sound h)

    module _ (some : sound_count block ≡ 0 → ⊥) where
      pub stage-number : (block_number block ≡ k → ⊥) → Wrong k ≡ stage_after Filling k block
      stage-number h = rw (some_sound some, ne_eqb (block_number block) k h)

      module _ (e : block_number block ≡ k) where
        rows_are : row_count block ≡ sound_count block
        rows_are = rw (some_sound some)

        pub stage-short : sound_count block < cells_per_block → Short ≡ stage_after Filling k block
        stage-short h =
            rw (
              some_sound some,
              eq-eqb (block_number block) k e,
              lt-ltb (row_count block) cells_per_block (omega (arith, rows_are)),
            )

        pub stage_full : cells_per_block ≤ sound_count block → Filling ≡ stage_after Filling k block
        stage_full h =
            rw (
              some_sound some,
              eq-eqb (block_number block) k e,
              le-ltb (row_count block) cells_per_block (omega (arith, rows_are)),
            )

  -- ---- one block more

  module _ (s : Scan) (stage : Stage) where
    pub scanned_blank : is_blank block ≡ true → stage ≡ stage_blank s.stage
        → record { blocks = s.blocks + 1; rows = s.rows; stage = stage } ≡ scan_block s block
    unfolding scan_block
    scanned_blank h e =
        let z : s.rows ≡ s.rows + sound_count block = omega (arith, blank_none h) in
        rw (h, ← e) (λ j. record { blocks = s.blocks + 1; rows = z j; stage = stage })

    pub scanned : is_blank block ≡ false → stage ≡ stage_after s.stage s.blocks block
        → (used : ℕ) → used ≡ sound_count block
        → record { blocks = s.blocks + 1; rows = s.rows + used; stage = stage } ≡ scan_block s block
    unfolding scan_block
    scanned h e used u = rw (h, e, u)

-- ---- the loop

-- n blocks of a piece from block a on
unfoldable pub blocks_from : List ℕ → ℕ → ℕ → List (List ℕ)
blocks_from piece a n = map (λ k. part (block_length * k) block_length piece) (up_from a n)

pub rest_first : (piece : List ℕ) (n : ℕ) → n ≡ length piece / block_length
    → blocks_from piece 0 (n - 0) ≡ blocks_in piece
unfolding blocks_from blocks_in
rest_first piece n e =
    let z : n - 0 ≡ length piece / block_length = omega arith in
    rw z

pub scanned-count : (r s : Scan) (block : List ℕ) → r ≡ scan_block s block → r.blocks ≡ s.blocks + 1
unfolding scan_block
scanned-count r s block e = ap (λ (t : Scan). t.blocks) e

pub blocks_none : (rest : List ℕ) → length rest < block_length → blocks_in rest ≡ []
unfolding blocks_in up_from
blocks_none rest h =
    let z : length rest / block_length ≡ 0 = omega arith in
    rw z

pub scan_none : (s : Scan) (rest : List ℕ) → length rest < block_length → scan_blocks s (blocks_in rest) ≡ s
unfolding scan_blocks
scan_none s rest h = ap (scan_blocks s) (blocks_none rest h)

-- a block, and those of what follows it
module _ (block rest : List ℕ) (h : length block ≡ block_length) where
  alone : blocks_in block ≡ block ∷ []
  unfolding blocks_in up_from
  alone =
      let n : length block / block_length ≡ 1 = omega arith in
      rw n (ap (λ (l : List ℕ). l ∷ []) (take_all block_length block (omega arith)))

  pub blocks_next : blocks_in (block ++ rest) ≡ block ∷ blocks_in rest
  blocks_next = pieces_blocks block rest (omega arith) ∙ ap (λ (l : List (List ℕ)). l ++ blocks_in rest) alone

  pub scan_next : (s : Scan)
      → scan_blocks s (blocks_in (block ++ rest)) ≡ scan_blocks (scan_block s block) (blocks_in rest)
  unfolding scan_blocks
  scan_next s = ap (scan_blocks s) blocks_next
