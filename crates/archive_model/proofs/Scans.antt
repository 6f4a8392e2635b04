-- What blocks give is accepted as a scan.
--     scan-facts, is-scan                  the parts of `is_scan`
--     rows-after, blocks-after, used-few   what a block adds
--     scanned-next                         a block more
use Prim.Native.Nat.{ℕ, ◌+◌, ◌-◌, ◌*◌, ◌≤◌, ◌<◌}
use native.Mathlib.Omega.{arith}
use mathlib.Core.Path.{◌≡◌, refl, sym, ap, ◌∙◌}
use mathlib.Core.Bool.{true, cond}
use mathlib.Core.List.{List}
use lib.Dec.{leb, eqb}
use borrow.Author.Tests.{le-leb, leb-true, lt-ltb, ltb-true, ltb-false, eq-eqb, eqb-true}
use Rattle.base_lists.proofs.Choice.{both}
use Rattle.base_lists.proofs.Tests.{and-true, by_test}
use Rattle.block_layout.specs.Block.{cells_per_block}
use Rattle.archive_model.specs.Row.{block_number, row_count, is_sound, is_blank}
use Rattle.archive_model.specs.Buffer.{max_blocks, is_short, Stage, Filling, Short, Ended, Wrong, Scan, stage_after, stage_blank, scan_block}
use Rattle.archive_model.specs.Append.{is_stage, is_scan}
use Rattle.archive_model.proofs.Buffers.{blank_count}
use Rattle.archive_model.proofs.Exact.{tests}

-- ---- an accepted scan

module _ (s : Scan) where
  pub scan_facts : is_scan s ≡ true
      → (s.blocks ≤ max_blocks) × (s.rows ≤ cells_per_block * s.blocks)
      × (is_stage s.stage s.blocks s.rows ≡ true)
  scan_facts h =
      let b = both (leb s.blocks max_blocks) _ h in
      let c = both (leb s.rows (cells_per_block * s.blocks)) _ b.1 in
      (leb-true s.blocks max_blocks b.0, leb-true s.rows (cells_per_block * s.blocks) c.0, c.1)

  pub is_scan_lem : s.blocks ≤ max_blocks → s.rows ≤ cells_per_block * s.blocks
      → is_stage s.stage s.blocks s.rows ≡ true → is_scan s ≡ true
  is_scan_lem a b c =
      and-true (le-leb s.blocks max_blocks a) (and-true (le-leb s.rows (cells_per_block * s.blocks) b) c)

-- ---- a block

-- the rows that it adds
abbrev pub sound_rows : List ℕ → ℕ
sound_rows block = cond (is_sound block) (row_count block) 0

module _ (block : List ℕ) where
  pub rows_after : (s : Scan) → (scan_block s block).rows ≡ s.rows + sound_rows block
  unfolding scan_block
  rows_after s = refl

  pub blocks_after : (s : Scan) → (scan_block s block).blocks ≡ s.blocks + 1
  unfolding scan_block
  blocks_after s = refl

  pub used_few : (used : ℕ) → used ≡ sound_rows block → used ≤ cells_per_block
  used_few used e =
      by_test {X = used ≤ cells_per_block} (is_sound block)
      (λ t. rw (e, t) (tests block t).1) (λ f. rw (e, f) (omega arith))

  blank_none : is_blank block ≡ true → sound_rows block ≡ 0
  blank_none z = by_test {X = sound_rows block ≡ 0} (is_sound block) (λ t. rw t (blank_count block z)) (λ f. rw f)

-- what an all-zero block makes of a stage
blank_stage : (st : Stage) (n rows : ℕ) → rows ≤ cells_per_block * n
    → is_stage st n rows ≡ true → is_stage (stage_blank st) (n + 1) rows ≡ true
blank_stage Filling n rows h t = le-leb (rows + cells_per_block) (cells_per_block * (n + 1)) (omega arith)
blank_stage Short n rows h t = le-leb (rows + cells_per_block) (cells_per_block * (n + 1)) (omega arith)
blank_stage Ended n rows h t = le-leb (rows + cells_per_block) (cells_per_block * (n + 1)) (omega arith)
blank_stage (Wrong j) n rows h t = let l = ltb-true j n t in lt-ltb j (n + 1) (omega arith)

-- what any other makes of it
after_stage : (b : List ℕ) (st : Stage) (n rows : ℕ) → is_stage st n rows ≡ true
    → is_stage (stage_after st n b) (n + 1) (rows + sound_rows b) ≡ true
after_stage b Filling n rows t =
    let full : rows ≡ cells_per_block * n = eqb-true rows (cells_per_block * n) t in
    let next = n + 1 in
    by_test {X = is_stage (stage_after Filling n b) next (rows + sound_rows b) ≡ true} (is_sound b)
    (λ s.
    by_test {X = is_stage (stage_after Filling n b) next (rows + sound_rows b) ≡ true} (eqb (block_number b) n)
    (λ e.
    by_test {X = is_stage (stage_after Filling n b) next (rows + sound_rows b) ≡ true} (is_short b)
    (λ h.
    let few = ltb-true (row_count b) cells_per_block h in
    rw (s, e, h)
    (and-true (lt-ltb (rows + row_count b) (cells_per_block * next) (omega arith))
    (lt-ltb (cells_per_block * next) (rows + row_count b + cells_per_block) (omega (arith, (tests b s).0)))))
    (λ h.
    let many = ltb-false (row_count b) cells_per_block h in
    rw (s, e, h) (eq-eqb (rows + row_count b) (cells_per_block * next) (omega (arith, (tests b s).1)))))
    (λ e. rw (s, e) (lt-ltb n next (omega arith))))
    (λ s. rw s (lt-ltb n next (omega arith)))
after_stage b Short n rows t = lt-ltb (n - 1) (n + 1) (omega arith)
after_stage b Ended n rows t = lt-ltb n (n + 1) (omega arith)
after_stage b (Wrong j) n rows t = let l = ltb-true j n t in lt-ltb j (n + 1) (omega arith)

pub scanned_next : (block : List ℕ) (s : Scan) → is_scan s ≡ true
    → s.blocks < max_blocks → is_scan (scan_block s block) ≡ true
unfolding scan_block
scanned_next b s t h =
    let f = scan_facts s t in
    let few = used_few b (sound_rows b) refl in
    is_scan_lem (scan_block s b) (omega arith) (omega (arith, f.1, few))
    (by_test {X = is_stage (scan_block s b).stage (s.blocks + 1) (s.rows + sound_rows b) ≡ true} (is_blank b)
    (λ z.
    let same : s.rows ≡ s.rows + sound_rows b = omega (arith, blank_none b z) in
    rw z
    (ap (is_stage (stage_blank s.stage) (s.blocks + 1)) (sym same)
    ∙ blank_stage s.stage s.blocks s.rows f.1 f.2))
    (λ n. rw n (after_stage b s.stage s.blocks s.rows f.2)))
