-- A row that is read: what is written of it, by the number; its bytes, zero filled.
use mathlib.Core.Path.{◌≡◌, ap, ap₂, ◌∙◌}
use mathlib.Core.Bool.{Bool}
use mathlib.Core.List.{List, [], ◌∷◌, ◌++◌}
use Prim.Native.Nat.{ℕ}
use lib.ListN.{length, take}
use borrow.Author.Tests.{eq-eqb, ne_eqb}
use Rattle.base_buffers.specs.Buffer.{resized}
use Rattle.block_layout.specs.Cell.{cell_capacity, cell_field}
use Rattle.archive_model.specs.Append.{cell_at, row_at_of}
use Rattle.archive_model.proofs.Reading.{row_field}
use Rattle.archive_file.specs.Archive.{ShownRow, row_shown}
use Rattle.c_layout.specs.Frame.{wrong_size, frame_bytes, flag_byte}
use Rattle.archive_fill.specs.Fill.{row_length}
use Rattle.c_archive.specs.Calls.{row_bytes, row_answer, row_call}

module _ (buffer : List ℕ) (i : ℕ) (old : List ℕ) (was : ℕ) where
  pub row_other : (length old ≡ row_length → ⊥) → row_answer wrong_size old was ≡ row_call buffer i old was
  unfolding row_call
  row_other h = rw (ne_eqb (length old) row_length h)

  module _ (h : length old ≡ row_length) where
    pub row-not : (number : ℕ) → number ≡ (row_at_of buffer i).number
        → (number ≡ 0 → ⊥) → row_answer number old was ≡ row_call buffer i old was
    unfolding row_call
    row-not number is n =
        rw (eq-eqb (length old) row_length h, ne_eqb (row_at_of buffer i).number 0 (λ z. n (is ∙ z)), is)

    pub row_done : (row_at_of buffer i).number ≡ 0
        → row_answer (row_at_of buffer i).number (row_bytes (row_at_of buffer i).row) (row_at_of buffer i).row.time
        ≡ row_call buffer i old was
    unfolding row_call
    row_done z = rw (eq-eqb (length old) row_length h, z)

-- what is written of a row that was found
module _ (buffer : List ℕ) (i flag number len time : ℕ) (xs : List ℕ) (loose : Bool) where
  pub row_are : flag ≡ flag_byte loose → (row_at_of buffer i).number ≡ 0
      → ◌≡◌ {A = ShownRow} (record { number = number; len = len; bytes = xs; time = time; loose = loose })
      (row_shown (row_at_of buffer i) (cell_at i buffer))
      → row_answer number ((flag ∷ len ∷ []) ++ resized cell_capacity (take len xs)) time
      ≡ row_answer (row_at_of buffer i).number (row_bytes (row_at_of buffer i).row) (row_at_of buffer i).row.time
  unfolding frame_bytes row_bytes
  row_are f z e =
      let l = ap (λ (s : ShownRow). s.len) e in
      let b : xs ≡ cell_field (cell_at i buffer) = ap (λ (s : ShownRow). s.bytes) e ∙ (rw z) in
      let is : take len xs ≡ (row_at_of buffer i).row.bytes = ap₂ take l b ∙ row_field buffer i z in
      rw (
        is,
        f,
        ap (λ (s : ShownRow). s.loose) e,
        ap (λ (s : ShownRow). s.number) e,
        l,
        ap (λ (s : ShownRow). s.time) e,
      )
