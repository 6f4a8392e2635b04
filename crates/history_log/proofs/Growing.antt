-- Rows put into the next block of an archive: none is refused, and the archive has them behind its own.
use Prim.Native.Nat.{ℕ, ◌+◌, ◌-◌, ◌*◌, ◌/◌, ◌%◌, ◌^◌, ◌≤◌, ◌<◌}
use native.Mathlib.Omega.{arith}
use mathlib.Core.Path.{◌≡◌, refl, sym, ap, ap₂, ◌∙◌}
use mathlib.Core.Bool.{true, false}
use mathlib.Core.List.{List, [], ◌∷◌, ◌++◌, append_assoc, append-nil}
use lib.Dec.{ltb, eqb}
use lib.ListN.{length, take, drop}
use lib.Seq.{sets, sets-eq}
use borrow.Author.Tests.{ltb-true, lt-ltb, le-ltb, eq-eqb, ne_eqb, lt-leb}
use borrow.Rule.Slice.PartMut.{mid_of, put_mid, Post-is}
use Rattle.base_lists.specs.Lists.{all}
use Rattle.base_lists.proofs.Choice.{both}
use Rattle.base_lists.proofs.Tests.{by_test, all_both}
use Rattle.block_layout.specs.Cell.{cell_length}
use Rattle.block_layout.specs.Block.{cells_per_block, block_length}
use Rattle.base_buffers.specs.Buffer.{part}
use Rattle.base_buffers.proofs.Segments.{part_length, part-ends}
use Rattle.collector_state.proofs.Moving.{put-copied}
use Rattle.archive_model.specs.Row.{Row, is_row}
use Rattle.archive_model.specs.Buffer.{max_rows, rows_in}
use Rattle.archive_model.specs.Append.{Appended, stored, block_at, is_next, append_of, append_at_of}
use Rattle.archive_model.specs.Claims.{is_fit}
use Rattle.archive_model.proofs.Cursor.{verdict_facts, blocks_of, cursor}
use Rattle.archive_fill.specs.Fill.{row_length, rows_given, put_rows, put_rows_of, put_rows_given}
use Rattle.archive_fill.specs.Claims.{with_block}
use Rattle.archive_fill.proofs.InArchive.{grown_by}
use Rattle.archive_fill.proofs.Records.{rows-count}
use Rattle.history_archived.proofs.Given.{none_refused}
use Rattle.history_log.specs.Keep.{capacity_of}
use Rattle.history_log.specs.Private.{Holds, put_in, Grown}

-- a row that an archive holds is valid, and its time has 64 bits
fit-valid : (r : Row) → is_fit r ≡ true → is_fit r ≡ true → is_row r ≡ true
fit-valid r e _ = (both (is_row r) _ e).0

fit_small : (r : Row) → is_fit r ≡ true → is_fit r ≡ true → ltb r.time (2 ^ 64) ≡ true
fit_small r e _ = (both (is_row r) _ e).1

module _ (archive : List ℕ) (n : ℕ) (h : Holds archive n) (r : Row) (fit : is_fit r ≡ true)
    (inside : n / cells_per_block < length archive / block_length) where
  abbrev k : ℕ
  k = n / cells_per_block

  -- its block says that row n is the next: a row can be appended there
  is_next_lem : is_next n (block_at k archive) ≡ true
  unfolding append_of append_at_of
  is_next_lem =
      let w = both (is_row r) (ltb r.time (2 ^ 64)) fit in
      let full = lt-leb (cells_per_block * (length archive / block_length)) (length (rows_in archive))
      (omega (arith, h.count)) in
      let done : (append_of archive r).number ≡ 0 = rw (h.right, w.0, full) in
      let same : (append_at_of archive n r).number ≡ 0 =
      ap (λ (i : ℕ). (append_at_of archive i r).number) (sym h.count)
      ∙ ap (λ (a : Appended). a.number) (cursor archive h.right r (ltb-true r.time (2 ^ 64) w.1))
      ∙ done in
      by_test (is_next n (block_at k archive)) (λ t. t)
      (λ f. absurd (let q : 12 ≡ 0 = rw (
        (verdict_facts archive h.right).0,
        lt-ltb k
            (length archive / block_length) inside,
        f,
      ) at same in omega arith))

module _ (archive : List ℕ) (n : ℕ) (h : Holds archive n) where
  abbrev block : List ℕ
  block = block_at (n / cells_per_block) archive

  -- rows that fit are put
  put_is : (r : Row) (rows : List Row) → all is_fit (r ∷ rows) ≡ true
      → n % cells_per_block + length (r ∷ rows) ≤ cells_per_block
      → n / cells_per_block < length archive / block_length
      → put_rows_of block n (r ∷ rows) ≡ stored (put_rows n (r ∷ rows) block)
  unfolding put_rows_of
  put_is r rows fit few inside =
      let long : length block ≡ block_length = part_length (block_length * (n / cells_per_block)) block_length archive
      (omega arith) in
      let near : n < max_rows = omega (arith, (blocks_of archive h.right).1) in
      let next = is_next_lem archive n h r (both (is_fit r) (all is_fit rows) fit).0 inside in
      rw (
        eq-eqb (length block) block_length long,
        lt-ltb n max_rows near,
        next,
        none_refused (r ∷ rows) 0 fit,
        le-ltb cells_per_block (n % cells_per_block + length (r ∷ rows)) few,
      )

  pub put-grown : (rows : List Row) → all is_fit rows ≡ true → n % cells_per_block + length rows ≤ cells_per_block
      → n + length rows ≤ capacity_of (length archive) → length (put_in archive n rows) ≡ length archive
      → Grown archive rows (put_in archive n rows)
  unfolding put_in
  put-grown [] fit few room long = record { right = h.right; rows = sym (append-nil (rows_in archive)); long = refl }
  put-grown (r ∷ rows) fit few room long =
      let all_rows = r ∷ rows in
      let inside : n / cells_per_block < length archive / block_length = omega arith in
      let some : eqb (length all_rows) 0 ≡ false = ne_eqb (length all_rows) 0 (λ z. omega arith) in
      let is : put_in archive n all_rows ≡ with_block (n / cells_per_block) (put_rows n all_rows block) archive =
      rw (some, put_is r rows fit few inside) in
      let valid = all_both is_fit is_fit is_row fit-valid all_rows fit fit in
      let small = all_both is_fit is_fit (λ x. ltb x.time (2 ^ 64)) fit_small all_rows fit fit in
      let c = h.count in
      let next = is_next_lem archive n h r (both (is_fit r) (all is_fit rows) fit).0 inside in
      let g = grown_by all_rows archive h.right (rw c inside) (rw c next) valid small (rw c few) in
      let f = rw c at g in
      record { right = rw is f.0; rows = rw is f.1; long = long }

-- ---- the call's part of the archive

module _ (archive : List ℕ) (n : ℕ) (times records : List ℕ) where
  pub none_put : length times ≡ 0 → put_in archive n (rows_given times records) ≡ archive
  unfolding put_in
  none_put z = rw (eq-eqb (length (rows_given times records)) 0 (rows-count times records ∙ z))

  abbrev at : ℕ
  at = block_length * (n / cells_per_block)

  pub put_there : (block : List ℕ) → length records ≡ row_length * length times → (length times ≡ 0 → ⊥)
      → block ≡ (put_rows_given (part at (at + block_length - at) archive) n times records).buffer
      → put_mid at (at + block_length - at) archive block ≡ put_in archive n (rows_given times records)
  unfolding put_in put_rows_given
  put_there block sized some e =
      let rows = rows_given times records in
      let full : eqb (length rows) 0 ≡ false = ne_eqb (length rows) 0
      (λ z. some (sym (rows-count times records) ∙ z)) in
      let given : block ≡ (put_rows_of (block_at (n / cells_per_block) archive) n rows).buffer =
      e ∙ rw (eq-eqb (length records) (row_length * length times) sized, part-ends at block_length archive) in
      rw full
      (ap₂ (λ (x y : List ℕ). take at archive ++ (x ++ y)) given (Post-is at (at + block_length) archive (omega arith))
      ∙ sym (append_assoc (take at archive) (put_rows_of (block_at (n / cells_per_block) archive) n rows).buffer
      (drop (at + block_length) archive)))

-- ---- the bytes of what closed

pub closings_there : (heard : List ℕ) (m : ℕ) (cells ys : List ℕ) → cell_length * m + length cells ≤ length heard
    → ys ≡ take (length cells) cells
    ++ drop (length cells) (mid_of (cell_length * m) (length heard - cell_length * m) heard)
    → put_mid (cell_length * m) (length heard - cell_length * m) heard ys ≡ sets heard (cell_length * m) cells
closings_there heard m cells ys h e =
    let at = cell_length * m in
    put-copied at cells heard ys h e ∙ sym (append_assoc (take at heard) cells (drop (at + length cells) heard))
    ∙ sym (sets-eq cells heard at h)
