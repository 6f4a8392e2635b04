-- A block put of the first 15 of some cells, where there are so many.
--     flush-few, flush-full       what waits and what is put, of fewer than 15 cells and of 15 to 29
use Prim.Native.Nat.{ℕ, ◌+◌, ◌-◌, ◌*◌, ◌/◌, ◌≤◌, ◌<◌}
use native.Mathlib.Omega.{arith}
use mathlib.Core.Path.{◌≡◌, sym, ap, ap₂, ◌∙◌}
use mathlib.Core.List.{List, ◌++◌, append-nil}
use lib.ListN.{length, take, drop, length-take, length-drop, drop_of_length-le}
use lib.Seq.{take-take, take-append-le}
use Rattle.base_lists.proofs.Parts.{drop-take}
use Rattle.base_buffers.specs.Buffer.{part}
use Rattle.block_layout.specs.Cell.{cell_length}
use Rattle.block_layout.specs.Block.{cells_per_block, block_length}
use Rattle.archive_repack_model.specs.Packer.{full_length, cells_block, full_blocks, pending_length}
use Rattle.archive_repack_model.proofs.Packing.{few_blocks, one_block, cells-block-length}
use Rattle.archive_repack.specs.Private.{Flushed}

module _ (k total : ℕ) (before : List ℕ) where
  abbrev cells : List ℕ
  cells = take (cell_length * total) before

  pub flush_few : (full : List ℕ) → length before ≡ pending_length
      → total < cells_per_block → Flushed k total before before full full total
  flush_few full l h =
      let long : length cells < full_length = omega (arith, length-take (cell_length * total) before) in
      let none : total / cells_per_block ≡ 0 = omega arith in
      record {
        rest = omega arith;
        are = rw none;
        put = rw (few_blocks k cells long);
      }

  module _ (after full full2 : List ℕ) (l : length before ≡ pending_length) (some : cells_per_block ≤ total)
      (few : total < cells_per_block + cells_per_block) where
    pub flush_full : length full ≡ block_length → full2 ≡ cells_block k (part 0 full_length before)
        → after ≡ drop full_length before ++ drop full_length before
        → Flushed k total before after full full2 (total - cells_per_block)
    flush_full f put moved =
        let long : length cells ≡ cell_length * total = length-take (cell_length * total) before ∙ omega arith in
        let one : total / cells_per_block ≡ 1 = omega arith in
        let split : cell_length * total ≡ full_length + cell_length * (total - cells_per_block) = omega arith in
        let left : full_length + cell_length * (total - cells_per_block) - full_length
        ≡ cell_length * (total - cells_per_block) =
        omega arith in
        let first : take full_length cells ≡ take full_length before =
        take-take full_length (cell_length * total) before (omega arith) in
        let block : full_blocks k cells ≡ cells_block k (take full_length before) =
        one_block k cells (omega (arith, long)) (omega (arith, long)) ∙ ap (cells_block k) first in
        let size : length (cells_block k (take full_length before)) ≡ block_length =
        cells-block-length k (take full_length before) (omega (arith, length-take full_length before)) in
        let past : length full ≤ length (cells_block k (take full_length before)) = omega (arith, f, size) in
        record {
          rest = omega arith;
          are =
              ap (take (cell_length * (total - cells_per_block))) moved
              ∙ take-append-le (cell_length * (total - cells_per_block)) (drop full_length before)
              (drop full_length before)
              (omega (arith, length-drop full_length before))
              ∙ sym (ap₂ (λ (a b : ℕ). drop (full_length * a) (take b before)) one split
              ∙ drop-take before full_length (full_length + cell_length * (total - cells_per_block))
              ∙ ap (λ (n : ℕ). take n (drop full_length before)) left);
          put =
              put ∙ sym (append-nil (cells_block k (take full_length before)))
              ∙ sym (ap (λ (b : List ℕ). b ++ drop (length b) full) block
              ∙ ap (λ (t : List ℕ). cells_block k (take full_length before) ++ t) (drop_of_length-le full past));
        }
