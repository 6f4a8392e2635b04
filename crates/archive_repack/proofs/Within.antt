-- An archive that is packed anew in its own buffer.
--     in-use-few, in-use-block, in-use-count      the blocks in use: they lie in the buffer, and each is sound
--     in-use-cells                                what stays of their rows is what stays of the archive's
--     removed-rows, removed-few, remove-done, remove-many, remove-damaged, remove-refused     the answers of removal
use Prim.Native.Nat.{ℕ, ◌+◌, ◌-◌, ◌*◌, ◌/◌, ◌^◌, ◌≤◌, ◌<◌}
use native.Mathlib.Nat.{zero-add}
use native.Mathlib.Omega.{arith}
use mathlib.Core.Path.{◌≡◌, sym, ap, ◌∙◌}
use mathlib.Core.Bool.{true}
use mathlib.Core.List.{List, ◌++◌, map, flatten, append-nil}
use lib.ListN.{length, take, replicate, length-take}
use Rattle.base_lists.specs.Lists.{up_from}
use Rattle.base_lists.proofs.UpFrom.{map_same}
use Rattle.block_layout.specs.Block.{cells_per_block, block_length}
use Rattle.base_buffers.proofs.Segments.{part-take}
use Rattle.archive_model.specs.Row.{Row, rows_block, row_count, is_sound}
use Rattle.archive_model.specs.Buffer.{blocks_for, rows_at, rows_in, archive_of, buffer_of, max_blocks}
use Rattle.archive_model.specs.Append.{verdict, block_at}
use Rattle.archive_model.proofs.Blocks.{block_sound}
use Rattle.archive_model.proofs.Buffers.{pieces, group_fits, group_few, group_length, used-block, rows_in_lem}
use Rattle.archive_model.proofs.Cursor.{blocks_of, is_exact, rows_fit, rows_few, written-verdict}
use Rattle.archive_file.specs.Archive.{sound_count}
use Rattle.archive_repack_model.specs.Repack as model
use Rattle.archive_repack_model.specs.Packer.{kept_cells, cells_of}
use Rattle.archive_repack_model.proofs.Rows.{intact_rows}
use Rattle.archive_repack.specs.Private.{Flushed}

-- the first block is block 0
pub flushed_next : {put total rest : ℕ} {before after full full2 : List ℕ}
    → Flushed put total before after full full2 rest
    → Flushed (0 + put) total before after full full2 rest
flushed_next {put} f = rw (zero-add put) f

module _ (buffer : List ℕ) (v : (verdict buffer).number ≡ 0) (blocks : ℕ)
    (used : blocks ≡ blocks_for (length (rows_in buffer))) where
  abbrev rows : List Row
  rows = rows_in buffer

  abbrev m : ℕ
  m = length buffer / block_length

  -- the blocks in use, by themselves
  abbrev in_use : List ℕ
  in_use = take (block_length * blocks) buffer

  pub in_use_few : blocks ≤ m
  in_use_few = omega (arith, rows_few buffer v)

  pub in_use_length : length in_use ≡ block_length * blocks
  in_use_length = length-take (block_length * blocks) buffer ∙ omega (arith, in_use_few)

  pub in_use_block : (k : ℕ) → k < blocks → block_at k in_use ≡ block_at k buffer
  in_use_block k h = part-take (block_length * k) block_length (block_length * blocks) buffer (omega arith)

  block_is : (k : ℕ) → k < blocks → block_at k buffer ≡ rows_block k (rows_at k rows)
  block_is k h =
      ap (block_at k) (sym (is_exact buffer v))
      ∙ used-block rows m (rows_fit buffer v) (rows_few buffer v) k (omega arith) (omega arith)

  in_use_sound : (k : ℕ) → k < blocks → is_sound (block_at k buffer) ≡ true
  in_use_sound k h =
      let some : 1 ≤ length (rows_at k rows) = omega (arith, group_length rows k) in
      let low : k < 2 ^ 32 = omega (arith, (blocks_of buffer v).1, in_use_few) in
      ap is_sound (block_is k h)
      ∙ block_sound k (rows_at k rows) (group_fits rows (rows_fit buffer v) k) (group_few rows k) some low

  pub in_use_count : (k : ℕ) → k < blocks → row_count (block_at k buffer) ≡ sound_count (block_at k in_use)
  in_use_count k h = sym (ap sound_count (in_use_block k h) ∙ (rw (in_use_sound k h)))

  pub in_use_archive : in_use ≡ archive_of rows
  unfolding archive_of
  in_use_archive =
      sym (pieces block_length buffer 0 blocks)
      ∙ ap flatten
      (map_same (λ k. block_at k buffer) (λ k. rows_block k (rows_at k rows)) 0 blocks
      (λ k l h. block_is k (omega arith)))
      ∙ ap (λ (n : ℕ). flatten (map (λ k. rows_block k (rows_at k rows)) (up_from 0 n))) used

  in_use_is : in_use ≡ buffer_of (block_length * blocks) rows
  unfolding buffer_of
  in_use_is =
      let none : block_length * blocks - length (archive_of rows) ≡ 0 =
      omega (arith, in_use_length, ap length in_use_archive) in
      in_use_archive ∙ sym (append-nil (archive_of rows)) ∙ ap (λ (n : ℕ). archive_of rows ++ replicate n 0) (sym none)

  in_use_rows : model.sound_rows in_use ≡ rows
  in_use_rows =
      let fit = rows_fit buffer v in
      let few : length rows ≤ cells_per_block * blocks = omega arith in
      let low : blocks ≤ max_blocks = omega (arith, (blocks_of buffer v).1, in_use_few) in
      ap model.sound_rows in_use_is
      ∙ intact_rows (buffer_of (block_length * blocks) rows) (written-verdict rows blocks fit few low)
      ∙ rows_in_lem rows blocks fit few

  pub in_use_cells : (identities : List ℕ) → kept_cells identities in_use ≡ kept_cells identities buffer
  unfolding kept_cells
  in_use_cells identities =
      ap (λ (l : List Row). cells_of (model.others identities l)) (in_use_rows ∙ sym (intact_rows buffer v))
