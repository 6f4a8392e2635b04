-- The answers of removal, each from the facts that its tests give.
--     removed-rows, removed-few       how many rows stay
--     remove-done                     an archive that was packed anew and closed
--     remove-many, remove-not         more than 32 identities; a buffer that is no archive
use Prim.Native.Nat.{ℕ, ◌+◌, ◌-◌, ◌*◌, ◌/◌, ◌≤◌, ◌<◌}
use native.Mathlib.Omega.{arith}
use mathlib.Core.Path.{◌≡◌, sym, ap, ap₂, ◌∙◌}
use mathlib.Core.Bool.{false, not}
use mathlib.Core.List.{List, ◌++◌, append_assoc}
use lib.Dec.{eqb}
use lib.ListN.{length, drop, replicate, length-append, replicate-append-replicate}
use lib.Seq.{drop_at}
use borrow.Author.Tests.{lt-ltb}
use Rattle.base_lists.proofs.Tests.{length-keep}
use Rattle.base_refusal.specs.Number.{number_of}
use Rattle.base_refusal.specs.declared.Refusal.TheVariants.{Argument}
use Rattle.block_layout.specs.Block.{cells_per_block, block_length}
use Rattle.archive_model.specs.Row.{Row}
use Rattle.archive_model.specs.Buffer.{blocks_for, rows_in, archive_of, buffer_of}
use Rattle.archive_model.specs.Append.{verdict}
use Rattle.archive_model.proofs.Buffers.{buffer-length}
use Rattle.archive_model.proofs.Cursor.{blocks_of, is_exact}
use Rattle.archive_repack_model.specs.Repack.{max_identities, is_listed, others, fronted, Removed, remove_of}
use Rattle.archive_repack_model.specs.Packer.{start_packing, pushed_blocks, pushed, kept_cells, pending_length, packing}
use Rattle.archive_repack_model.proofs.Rows.{intact_rows}
use Rattle.archive_repack_model.proofs.Removal.{removed_is, rest_fits}
use Rattle.archive_repack.specs.Private.{packed_buffer}
use Rattle.archive_repack.proofs.Closing.{counted, kept-long, closed-archive}
use Rattle.archive_repack.proofs.Within.{in_use_few, in_use_length, in_use_archive}

module _ (buffer identities : List ℕ) (v : (verdict buffer).number ≡ 0)
    (blocks : ℕ) (used : blocks ≡ blocks_for (length (rows_in buffer))) where
  abbrev rows : List Row
  rows = rows_in buffer

  abbrev rest : List Row
  rest = others identities rows

  abbrev end : ℕ
  end = block_length * blocks

  rest_short : length rest ≤ length rows
  rest_short = length-keep (λ r. not (is_listed identities r)) rows

  -- the other rows in the blocks that were in use, and what stood behind these: zeros
  zeros_behind : drop end buffer ≡ replicate (length buffer - end) 0
  unfolding buffer_of
  zeros_behind =
      let long : length (archive_of rows) ≡ end =
      sym (ap length (in_use_archive buffer v blocks used)) ∙ in_use_length buffer v blocks used in
      let left : ℕ = block_length * (length buffer / block_length) - length (archive_of rows) in
      let n : left ≡ length buffer - end = omega (arith, long, (blocks_of buffer v).0) in
      ap (drop end) (sym (is_exact buffer v))
      ∙ drop_at (archive_of rows) (replicate left 0) end long ∙ ap (λ (k : ℕ). replicate k 0) n

  rest_behind : buffer_of end rest ++ drop end buffer ≡ buffer_of (length buffer) rest
  unfolding buffer_of
  rest_behind =
      let archive = archive_of rest in
      let long : length (archive ++ replicate (end - length archive) 0) ≡ end =
      buffer-length rest blocks (rest_fits buffer identities v) (omega (arith, rest_short)) in
      let low : length archive ≤ end = omega (arith, length-append archive (replicate (end - length archive) 0)) in
      let sum : end - length archive + (length buffer - end) ≡ length buffer - length archive =
      omega (arith, low, in_use_few buffer v blocks used) in
      ap (λ (l : List ℕ). archive ++ replicate (end - length archive) 0 ++ l) zeros_behind
      ∙ append_assoc archive (replicate (end - length archive) 0) (replicate (length buffer - end) 0)
      ∙ ap (λ (l : List ℕ). archive ++ l) (replicate-append-replicate (end - length archive) (length buffer - end) 0
      ∙ ap (λ (k : ℕ). replicate k 0) sum)

  module _ (next waits : ℕ) (pending : List ℕ) (l : length pending ≡ pending_length) (few : waits < cells_per_block)
      (is : packing next waits pending ≡ pushed start_packing (kept_cells identities buffer)) where
    pub removed_rows : cells_per_block * next + waits ≡ length rest
    removed_rows = omega (
      arith,
      counted identities buffer next waits pending l few is,
      kept-long identities buffer,
      ap (λ (x : List Row). length (others identities x)) (intact_rows buffer v),
    )

    pub removed_few : cells_per_block * next + waits ≤ length rows
    removed_few = omega (arith, removed_rows, rest_short)

    pub remove_done : (out1 out2 : List ℕ) → length identities ≤ max_identities
        → block_length * 0 + length (pushed_blocks start_packing (kept_cells identities buffer)) ≡ block_length * next
        → out1 ≡ fronted (pushed_blocks start_packing (kept_cells identities buffer)) buffer
        → out2 ≡ packed_buffer (packing next waits pending) end out1
        → (after : ℕ) → after ≡ blocks_for (cells_per_block * next + waits)
        → record { number = 0; position = 0; freed = blocks - after; buffer = out2 } ≡ remove_of buffer identities
    remove_done out1 out2 listed long put out-is after e =
        let freed : blocks - after ≡ blocks_for (length rows) - blocks_for (length rest) =
        omega (arith, used, e, removed_rows) in
        let is-rest : out2 ≡ buffer_of (length buffer) rest =
        out-is ∙ closed-archive identities buffer next waits pending l few is end buffer out1 (omega (arith, long))
        (omega (arith, long, removed_few)) put
        ∙ ap (λ (x : List Row). buffer_of end (others identities x) ++ drop end buffer) (intact_rows buffer v)
        ∙ rest_behind in
        (λ j. record { number = 0; position = 0; freed = freed j; buffer = is-rest j })
        ∙ sym (removed_is buffer identities v listed)

module _ (buffer identities : List ℕ) where
  abbrev as_it_was : ℕ → ℕ → Removed
  as_it_was number position = record { number = number; position = position; freed = 0; buffer = buffer }

  pub remove_many : (verdict buffer).number ≡ 0 → max_identities < length identities
      → as_it_was (number_of Argument) 0 ≡ remove_of buffer identities
  unfolding remove_of
  remove_many v h = rw (v, lt-ltb max_identities (length identities) h)

  pub remove_not : (number position : ℕ) → (number ≡ (verdict buffer).number) × (position ≡ (verdict buffer).position)
      × (eqb (verdict buffer).number 0 ≡ false)
      → as_it_was number position ≡ remove_of buffer identities
  unfolding remove_of
  remove_not number position v = rw v.2 (ap₂ as_it_was v.0 v.1)
