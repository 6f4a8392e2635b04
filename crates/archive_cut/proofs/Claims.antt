-- The claims on an archive that is cut.
use Prim.Native.Nat.{ℕ, ◌+◌, ◌-◌, ◌*◌, ◌/◌, ◌%◌, ◌≤◌, ◌<◌}
use native.Mathlib.Omega.{arith}
use mathlib.Core.Path.{◌≡◌, refl, sym, ap, ap₂, ◌∙◌}
use mathlib.Core.List.{List, [], ◌∷◌, ◌++◌, append_assoc, append-nil}
use lib.ListN.{length, take, drop, replicate, length-append, length-take, take-append-drop, replicate-append-replicate, get_or-append}
use lib.Seq.{take-take, get_or_at}
use borrow.Author.Tests.{lt-leb}
use Rattle.block_layout.specs.Block.{cells_per_block, block_length}
use Rattle.archive_model.specs.Row.{Row}
use Rattle.archive_model.specs.Buffer.{buffer_of, max_blocks, rows_in}
use Rattle.archive_model.specs.Append.{stored, append_of, block_at}
use Rattle.archive_model.specs.Claims.{after_appends}
use Rattle.archive_model.proofs.Blocks.{Fit, Fits, no_row}
use Rattle.archive_model.proofs.Buffers.{buffer-length, rows_in_lem}
use Rattle.archive_model.proofs.Exact.{sound_long}
use Rattle.archive_model.proofs.Cursor.{written-verdict, blocks_of, is_exact, rows_fit, rows_few}
use Rattle.archive_cut.specs.Cut.{first_rows, CutBlock}
use Rattle.archive_cut.specs.Claims.{FirstRowsRemain, CutAgain, Undone, AtOneBlock, ZerosBehind}
use Rattle.archive_cut.proofs.Blocks.{first_none, block-done}
use Rattle.archive_cut.proofs.Cutting.{remaining, cut_is, cut_done, remaining_length, remaining_verdict, remaining_rows, cut_enough, cut_parts}

pub remains : FirstRowsRemain
remains m buffer z =
    let d = cut_done m buffer z in
    rw d.is (
      remaining_verdict m buffer d.archive,
      remaining_rows m buffer d.archive,
      remaining_length m buffer d.archive,
    )

pub cut_again : CutAgain
cut_again m buffer z =
    let d = cut_done m buffer z in
    let v = d.archive in
    let rows = remaining_rows m buffer v in
    let few : m ≤ length (rows_in (remaining m buffer)) =
    omega (arith, ap length rows, length-take m (rows_in buffer), d.few) in
    let same : take m (rows_in (remaining m buffer)) ≡ take m (rows_in buffer) =
    ap (take m) rows ∙ take-take m m (rows_in buffer) (omega arith) in
    rw d.is
    (sym (cut_is m (remaining m buffer) (remaining_verdict m buffer v) few)
    ∙ ap stored (ap₂ buffer_of (remaining_length m buffer v) same))

-- ---- the rows appended again

fits_front : (xs ys : List Row) → Fits (xs ++ ys) → Fits xs
unfolding Fits
fits_front xs ys fit i h = rw (get_or-append xs ys no_row i h) at (fit i (omega (arith, length-append xs ys)))

fit_next : (xs : List Row) (y : Row) (ys : List Row) → Fits (xs ++ (y ∷ ys)) → Fit y
unfolding Fits
fit_next xs y ys fit =
    rw (get_or_at xs y ys no_row (length xs) refl) at (fit (length xs) (omega (arith, length-append xs (y ∷ ys))))

module _ (n : ℕ) (mb : n ≤ max_blocks) where
  append_one : (xs : List Row) (r : Row) → Fits xs → Fit r → length xs < cells_per_block * n
      → (append_of (buffer_of (block_length * n) xs) r).buffer ≡ buffer_of (block_length * n) (xs ++ (r ∷ []))
  unfolding append_of
  append_one xs r fit one room =
      let buffer = buffer_of (block_length * n) xs in
      let l = buffer-length xs n fit (omega arith) in
      let free : length xs < cells_per_block * (length buffer / block_length) = omega (arith, l) in
      let full = lt-leb (cells_per_block * (length buffer / block_length)) (length xs) free in
      rw (written-verdict xs n fit (omega arith) mb, one.valid, rows_in_lem xs n fit (omega arith), full, l)

  append_all : (xs ys : List Row) → Fits (xs ++ ys) → length (xs ++ ys) ≤ cells_per_block * n
      → after_appends (buffer_of (block_length * n) xs) ys ≡ buffer_of (block_length * n) (xs ++ ys)
  append_all xs [] fit few = ap (buffer_of (block_length * n)) (sym (append-nil xs))
  append_all xs (y ∷ ys) fit few =
      let e = append_assoc xs (y ∷ []) ys in
      let room : length xs < cells_per_block * n = omega (arith, length-append xs (y ∷ ys)) in
      ap (λ (b : List ℕ). after_appends b ys) (append_one xs y (fits_front xs (y ∷ ys) fit) (fit_next xs y ys fit) room)
      ∙ append_all (xs ++ (y ∷ [])) ys (rw e fit) (rw e few) ∙ ap (buffer_of (block_length * n)) e

pub undone : Undone
undone m buffer z =
    let d = cut_done m buffer z in
    let v = d.archive in
    let rows = rows_in buffer in
    let e = take-append-drop m rows in
    let n = length buffer / block_length in
    rw d.is
    (ap (λ (c : ℕ). after_appends (buffer_of c (take m rows)) (drop m rows)) (blocks_of buffer v).0
    ∙ append_all n (blocks_of buffer v).1 (take m rows) (drop m rows)
    (rw e (rows_fit buffer v)) (rw e (rows_few buffer v))
    ∙ ap (buffer_of (block_length * n)) e ∙ is_exact buffer v)

-- ---- one block

pub at_one_block : AtOneBlock
at_one_block m buffer v some =
    let h = cut_enough m buffer v some in
    let at = block_length * (m / cells_per_block) in
    let b = block_at (m / cells_per_block) buffer in
    let done = block-done (m % cells_per_block) b (sound_long b h.0) h.0 h.1 in (
      ap (λ (c : CutBlock). c.number) (sym done),
      sym (cut_is m buffer v (omega arith)) ∙ ap stored (sym (cut_parts m buffer v some))
          ∙ ap (λ (c : CutBlock).
          stored (take at buffer ++ c.block ++ replicate (length buffer - (at + block_length)) 0))
          done,
    )

pub zeros_behind : ZerosBehind
zeros_behind k buffer v some =
    let d : cells_per_block * k / cells_per_block ≡ k = omega arith in
    let r : cells_per_block * k % cells_per_block ≡ 0 = omega arith in
    let b = block_at k buffer in
    let n = length buffer in
    let e : block_length + (n - (block_length * k + block_length)) ≡ n - block_length * k =
    omega (arith, rows_few buffer v) in
    let parts : take (block_length * k) buffer ++ first_rows 0 b ++ replicate (n - (block_length * k + block_length)) 0
    ≡ remaining (cells_per_block * k) buffer
    = rw (d, r) at (cut_parts (cells_per_block * k) buffer v some) in
    let zeros : first_rows 0 b ++ replicate (n - (block_length * k + block_length)) 0
    ≡ replicate (n - block_length * k) 0
    = ap (λ (l : List ℕ). l ++ replicate (n - (block_length * k + block_length)) 0) (sym (first_none b))
    ∙ replicate-append-replicate block_length (n - (block_length * k + block_length)) 0
    ∙ ap (λ (c : ℕ). replicate c 0) e in
    sym (cut_is (cells_per_block * k) buffer v (omega arith))
    ∙ ap stored
    (sym parts
    ∙ append_assoc (take (block_length * k) buffer) (first_rows 0 b)
    (replicate (n - (block_length * k + block_length)) 0)
    ∙ ap (λ (l : List ℕ). take (block_length * k) buffer ++ l) zeros)
