-- What stays of a buffer's rows, block by block and piece by piece.
--     keptIn, kept_next, kept-none    the cells that stay of some blocks; of one block more, and of none
--     kept_pieces                     those of two pieces
--     packed-archive                  what is packed of all of them is an archive
--     held                            a packing is read back from what a packer is lent
use Prim.Native.Nat.{ℕ, ◌-◌, ◌*◌, ◌/◌, ◌%◌}
use native.Mathlib.Omega.{arith}
use mathlib.Core.Path.{◌≡◌, refl, sym, ap, ap₂, ◌∙◌}
use mathlib.Core.Bool.{Bool, not}
use mathlib.Core.List.{List, [], ◌∷◌, ◌++◌, map, flatten, map-append}
use lib.ListN.{length, take, replicate}
use lib.Seq.{take_at}
use Rattle.base_lists.specs.Lists.{keep}
use Rattle.base_lists.proofs.Keep.{keep_append}
use Rattle.base_lists.proofs.Parts.{flatten_append}
use Rattle.block_layout.specs.Cell.{cell_length}
use Rattle.block_layout.specs.Block.{block_length}
use Rattle.archive_model.specs.Row.{Row, row_cell, rows_of, is_sound}
use Rattle.archive_model.specs.Buffer.{blocks_in, archive_of}
use Rattle.archive_model.proofs.Pieces.{pieces_blocks}
use Rattle.archive_repack_model.specs.Repack.{sound_rows, is_listed, others}
use Rattle.archive_repack_model.specs.Packer.{start_packing, pushed_blocks, pushed, waiting_block, cells_of, kept_cells, pending_length}
use Rattle.archive_repack_model.specs.Claims.{PackingHeld}
use Rattle.archive_repack_model.proofs.Rows.{rows_kept, sound_rows-fit}
use Rattle.archive_repack_model.proofs.Packing.{archive-cells}
use Rattle.archive_repack_model.proofs.Removal.{fits-keep}

-- ---- the cells that stay

module _ (identities : List ℕ) where
  unfoldable pub kept_in : List (List ℕ) → List ℕ
  kept_in bs = cells_of (others identities (rows_kept bs))

  pub kept_is : (piece : List ℕ) → kept_cells identities piece ≡ kept_in (blocks_in piece)
  unfolding kept_in kept_cells sound_rows
  kept_is piece = refl

  pub kept_none : kept_in [] ≡ []
  unfolding kept_in flatten
  kept_none = refl

  kept_append : (bs cs : List (List ℕ)) → kept_in (bs ++ cs) ≡ kept_in bs ++ kept_in cs
  unfolding kept_in
  kept_append bs cs =
      let p : Row → Bool = λ r. not (is_listed identities r) in
      let rows : rows_kept (bs ++ cs) ≡ rows_kept bs ++ rows_kept cs =
      ap (λ (l : List (List ℕ)). flatten (map rows_of l)) (keep_append is_sound bs cs)
      ∙ ap flatten (map-append rows_of (keep is_sound bs) (keep is_sound cs))
      ∙ flatten_append (map rows_of (keep is_sound bs)) (map rows_of (keep is_sound cs)) in
      ap (λ (l : List Row). cells_of (others identities l)) rows
      ∙ ap cells_of (keep_append p (rows_kept bs) (rows_kept cs))
      ∙ ap flatten (map-append row_cell (keep p (rows_kept bs)) (keep p (rows_kept cs)))
      ∙ flatten_append (map row_cell (keep p (rows_kept bs))) (map row_cell (keep p (rows_kept cs)))

  pub kept_next : (b : List ℕ) (bs : List (List ℕ)) → kept_in (b ∷ bs) ≡ kept_in (b ∷ []) ++ kept_in bs
  kept_next b bs = kept_append (b ∷ []) bs

  -- of two pieces
  pub kept_pieces : (xs ys : List ℕ) → length xs % block_length ≡ 0
      → kept_cells identities (xs ++ ys) ≡ kept_cells identities xs ++ kept_cells identities ys
  kept_pieces xs ys e =
      kept_is (xs ++ ys) ∙ ap kept_in (pieces_blocks xs ys e)
      ∙ kept_append (blocks_in xs) (blocks_in ys) ∙ sym (ap₂ ◌++◌ (kept_is xs) (kept_is ys))

-- the archive of what stays
pub packed-archive : (identities : List ℕ) (piece : List ℕ)
    → pushed_blocks start_packing (kept_cells identities piece)
    ++ waiting_block (pushed start_packing (kept_cells identities piece))
    ≡ archive_of (others identities (sound_rows piece))
unfolding kept_cells
packed-archive identities piece =
    sym (archive-cells (others identities (sound_rows piece))
    (fits-keep (λ r. not (is_listed identities r)) (sound_rows piece) (sound_rows-fit piece)))

pub held : PackingHeld
held count p output positions h =
    let ws = p.waiting in
    let zeros = replicate {A = ℕ} (pending_length - length ws) 0 in
    let e : cell_length * (length ws / cell_length) ≡ length ws = omega arith in
    ap (λ (w : List ℕ). record { next = p.next; waiting = w })
    (ap (λ (n : ℕ). take n (ws ++ zeros)) e ∙ take_at ws zeros (length ws) refl)
