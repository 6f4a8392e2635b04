-- The end of a packing: the last block in its place, and zeros behind it.
--     before                          what stands before some index, as it was
--     closed_none, closed-last        no cell waits; some do
--     counted                         how many cells were packed
--     closed-archive                  a packing that is closed is the archive of the rows that stay
--     salvaged-rows, salvaged-few, salvage-done, salvage-size, salvage-short, salvage-list     the answers of salvage
use Prim.Native.Nat.{ℕ, ◌+◌, ◌-◌, ◌*◌, ◌/◌, ◌≤◌, ◌<◌}
use native.Mathlib.Nat.{zero-add}
use native.Mathlib.Omega.{arith}
use mathlib.Core.Path.{◌≡◌, refl, sym, ap, ap₂, ◌∙◌}
use mathlib.Core.Bool.{true, false, not}
use mathlib.Core.List.{List, [], ◌∷◌, ◌++◌, append_assoc}
use lib.Dec.{leb}
use lib.ListN.{length, take, drop, replicate, length-append, length-take, length-drop}
use lib.Seq.{take_at, drop-drop, drop-append-add}
use borrow.Author.Tests.{eq-eqb, ne_eqb, le-ltb, lt-ltb, leb-false}
use Rattle.base_lists.specs.Lists.{padded}
use Rattle.base_refusal.specs.Number.{number_of}
use Rattle.base_refusal.specs.declared.Refusal.TheVariants.{ShortOutput, Size}
use Rattle.block_layout.specs.Cell.{cell_length}
use Rattle.block_layout.specs.Block.{cells_per_block, block_length}
use Rattle.base_buffers.proofs.Segments.{Begun, begin, named, skip}
use Rattle.archive_model.specs.Row.{Row}
use Rattle.archive_model.specs.Buffer.{archive_of, buffer_of, is_whole}
use Rattle.archive_repack_model.specs.Repack.{is_listed, others, sound_rows, dropped, fronted, Salvaged, salvage_of}
use Rattle.archive_repack_model.specs.Packer.{Packing, start_packing, full_length, cells_block, pushed_blocks, pushed, waiting_block, kept_cells, pending_length, packing}
use Rattle.archive_repack_model.proofs.Packing.{cells-block-length, cells-length}
use Rattle.archive_repack_model.proofs.Rows.{sound_rows-fit, sound_rows_few}
use Rattle.archive_repack_model.proofs.Salvage.{salvaged_length}
use Rattle.archive_repack_model.proofs.Removal.{fits-keep}
use Rattle.archive_repack_model.proofs.Pieces.{packed-archive}
use Rattle.archive_repack.specs.Private.{packed_buffer}

-- what stands before some index
pub before : (xs : List ℕ) (at : ℕ) → at ≤ length xs → Begun xs (take at xs) at xs
before xs at h =
    let z : at - 0 ≡ at = omega arith in
    named (skip (begin xs) at (omega arith) h) (take at xs) (ap (λ (n : ℕ). take n xs) z)

module _ (next used : ℕ) (pending : List ℕ) (l : length pending ≡ pending_length) (few : used < cells_per_block) where
  waiting-long : length (take (cell_length * used) pending) ≡ cell_length * used
  waiting-long = length-take (cell_length * used) pending ∙ omega arith

  pub last_none : used ≡ 0 → waiting_block (packing next used pending) ≡ []
  unfolding waiting_block
  last_none z =
      let e : length (take (cell_length * used) pending) ≡ 0 = waiting-long ∙ omega arith in
      rw (eq-eqb _ 0 e)

  pub last_some : (used ≡ 0 → ⊥)
      → waiting_block (packing next used pending) ≡ cells_block next (take (cell_length * used) pending)
  unfolding waiting_block
  last_some z =
      let e : length (take (cell_length * used) pending) ≡ 0 → ⊥ = λ q. z (omega (arith, waiting-long, q)) in
      rw (ne_eqb _ 0 e)

  pub last_long : length (cells_block next (take (cell_length * used) pending)) ≡ block_length
  last_long = cells-block-length next (take (cell_length * used) pending) (omega (arith, waiting-long))

  module _ (end : ℕ) (out xs : List ℕ) where
    abbrev at : ℕ
    at = block_length * next

    pub closed_none : used ≡ 0 → Begun out (take at out ++ replicate (end - at) 0) end xs
        → xs ≡ packed_buffer (packing next used pending) end out
    closed_none z b =
        let n : end - at - 0 ≡ end - at = omega arith in
        b.is ∙ ap (λ (m : ℕ). take at out ++ replicate m 0 ++ drop end out) (sym n)
        ∙ ap (λ (x : List ℕ). take at out ++ padded (end - at) x ++ drop end out) (sym (last_none z))

    pub closed_last : (used ≡ 0 → ⊥) → Begun out
        (take at out ++ cells_block next (take (cell_length * used) pending) ++ replicate (end - (at + block_length)) 0)
        end xs
        → xs ≡ packed_buffer (packing next used pending) end out
    closed_last z b =
        let block = cells_block next (take (cell_length * used) pending) in
        let n : end - (at + block_length) ≡ end - at - length block = omega (arith, last_long) in
        b.is
        ∙ ap (λ (x : List ℕ). x ++ drop end out)
        (append_assoc (take at out) block (replicate (end - (at + block_length)) 0)
        ∙ ap (λ (m : ℕ). take at out ++ (block ++ replicate m 0)) n)
        ∙ ap (λ (x : List ℕ). take at out ++ padded (end - at) x ++ drop end out) (sym (last_some z))

-- ---- a packing from the start

module _ (identities piece : List ℕ) (next used : ℕ) (pending : List ℕ)
    (l : length pending ≡ pending_length) (few : used < cells_per_block)
    (is : packing next used pending ≡ pushed start_packing (kept_cells identities piece)) where
  abbrev cells : List ℕ
  cells = kept_cells identities piece

  next_is : next ≡ length cells / full_length
  unfolding pushed
  next_is = ap (λ (p : Packing). p.next) is ∙ zero-add (length cells / full_length)

  pub counted : cell_length * (cells_per_block * next + used) ≡ length cells
  unfolding pushed
  counted =
      let w : length (take (cell_length * used) pending) ≡ length cells - full_length * (length cells / full_length) =
      ap (λ (p : Packing). length p.waiting) is ∙ length-drop (full_length * (length cells / full_length)) cells in
      omega (arith, w, waiting-long next used pending l few, next_is)

  pub closed-archive : (end : ℕ) (out out1 : List ℕ) → length (pushed_blocks start_packing cells) ≡ block_length * next
      → length (pushed_blocks start_packing cells) ≤ end
      → out1 ≡ fronted (pushed_blocks start_packing cells) out
      → packed_buffer (packing next used pending) end out1
      ≡ buffer_of end (others identities (sound_rows piece)) ++ drop end out
  unfolding buffer_of
  closed-archive end out out1 long fits put =
      let front = pushed_blocks start_packing cells in
      let last = waiting_block (packing next used pending) in
      let e : out1 ≡ front ++ drop (length front) out = put in
      let first : take (block_length * next) out1 ≡ front = ap (take (block_length * next)) e
      ∙ take_at front (drop (length front) out) (block_length * next) long in
      let d : length front + (end - length front) ≡ end = omega arith in
      let past : drop end out1 ≡ drop end out =
      ap (drop end) e ∙ ap (λ (m : ℕ). drop m (front ++ drop (length front) out)) (sym d)
      ∙ drop-append-add front (drop (length front) out) (end - length front)
      ∙ drop-drop (end - length front) (length front) out ∙ ap (λ (m : ℕ). drop m out) d in
      let archive : front ++ last ≡ archive_of (others identities (sound_rows piece)) =
      ap (λ (p : Packing). front ++ waiting_block p) is
      ∙ packed-archive identities piece in
      let n : end - block_length * next - length last ≡ end - length (front ++ last) =
      omega (arith, length-append front last, long) in
      ap₂ (λ (x y : List ℕ). x ++ padded (end - block_length * next) last ++ y) first past
      ∙ ap (λ (x : List ℕ). x ++ drop end out)
      (sym (append_assoc front last (replicate (end - block_length * next - length last) 0))
      ∙ ap (λ (m : ℕ). front ++ last ++ replicate m 0) n)
      ∙ ap (λ (x : List ℕ). padded end x ++ drop end out) archive

-- ---- salvage

others_none : (rows : List Row) → others [] rows ≡ rows
others_none [] = refl
others_none (r ∷ rows) = ap (λ (l : List Row). r ∷ l) (others_none rows)

pub kept-long : (identities piece : List ℕ)
    → length (kept_cells identities piece) ≡ cell_length * length (others identities (sound_rows piece))
unfolding kept_cells
kept-long identities piece =
    cells-length (others identities (sound_rows piece))
    (fits-keep (λ r. not (is_listed identities r)) (sound_rows piece) (sound_rows-fit piece))

module _ (buffer : List ℕ) (next used : ℕ) (pending : List ℕ)
    (l : length pending ≡ pending_length) (few : used < cells_per_block)
    (is : packing next used pending ≡ pushed start_packing (kept_cells [] buffer)) where
  pub salvaged_rows : cells_per_block * next + used ≡ length (sound_rows buffer)
  salvaged_rows =
      omega (
        arith,
        counted [] buffer next used pending l few is,
        kept-long [] buffer,
        ap length (others_none (sound_rows buffer)),
      )

  pub salvaged_few : cells_per_block * next + used ≤ cells_per_block * (length buffer / block_length)
  salvaged_few = omega (arith, salvaged_rows, sound_rows_few buffer)

  pub salvage_done : (output positions out1 out2 positions2 : List ℕ)
      → is_whole (length buffer) ≡ true → length buffer ≤ length output
      → length (dropped buffer) ≤ length positions
      → block_length * 0 + length (pushed_blocks start_packing (kept_cells [] buffer)) ≡ block_length * next
      → out1 ≡ fronted (pushed_blocks start_packing (kept_cells [] buffer)) output
      → out2 ≡ packed_buffer (packing next used pending) (length buffer) out1
      → positions2 ≡ fronted (dropped buffer) positions → (gone : ℕ)
      → gone ≡ length (dropped buffer)
      → record { number = 0; count = gone; rows = cells_per_block * next + used; output = out2; positions = positions2 }
      ≡ salvage_of buffer output positions
  unfolding salvage_of
  salvage_done output positions out1 out2 positions2 w fits listable long put out-is list gone count =
      let done : out2 ≡ fronted (buffer_of (length buffer) (sound_rows buffer)) output =
      out-is ∙ closed-archive [] buffer next used pending l few is (length buffer) output out1 (omega (arith, long))
      (omega (arith, long, salvaged_few)) put
      ∙ ap (λ (rows : List Row). buffer_of (length buffer) rows ++ drop (length buffer) output)
      (others_none (sound_rows buffer))
      ∙ ap (λ (n : ℕ). buffer_of (length buffer) (sound_rows buffer) ++ drop n output)
      (sym (salvaged_length buffer w)) in
      rw (w, le-ltb (length output) (length buffer) fits, le-ltb (length positions) (length (dropped buffer)) listable)
      (λ j. record { number = 0; count = count j; rows = salvaged_rows j; output = done j; positions = list j })

module _ (buffer output positions : List ℕ) where
  abbrev refused : ℕ → Salvaged
  refused number = record { number = number; count = 0; rows = 0; output = output; positions = positions }

  pub salvage_size : is_whole (length buffer) ≡ false → refused (number_of Size) ≡ salvage_of buffer output positions
  unfolding salvage_of
  salvage_size w = rw w

  pub salvage_short : is_whole (length buffer) ≡ true → length output < length buffer
      → refused (number_of ShortOutput) ≡ salvage_of buffer output positions
  unfolding salvage_of
  salvage_short w h = rw (w, lt-ltb (length output) (length buffer) h)

  pub salvage_list : is_whole (length buffer) ≡ true → length buffer ≤ length output
      → leb (length (dropped buffer)) (length positions) ≡ false
      → refused (number_of ShortOutput) ≡ salvage_of buffer output positions
  unfolding salvage_of
  salvage_list w h f = rw (
    w,
    le-ltb (length output) (length buffer) h,
    lt-ltb (length positions) (length (dropped buffer)) (leb-false (length (dropped buffer)) (length positions) f),
  )
