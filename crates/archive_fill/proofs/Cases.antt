-- The cases of `put_rows_given`, each from the facts that its tests give.
--     given-block, given-far, given-other, given-same, given-facts     the test of the lengths, by what the code tests; what it says
--     check-next, check-stop, check-end, check-valid                   the walk to the first row that the check refuses; where there is none
--     put-size, put_other, put-invalid, put-many, put-done, put-none   the answers
use Prim.Native.Nat.{ℕ, ◌+◌, ◌*◌, ◌/◌, ◌%◌, ◌≤◌, ◌<◌}
use native.Mathlib.Numerals.{add-one}
use native.Mathlib.Omega.{arith}
use mathlib.Core.Path.{◌≡◌, refl, sym, ◌∙◌}
use mathlib.Core.Bool.{Bool, true, false, cond, not, ◌&&◌, false≢true}
use mathlib.Core.List.{List, [], ◌∷◌}
use lib.Dec.{ltb, eqb}
use lib.ListN.{length, get_or, drop, drop_of_length-le}
use lib.Seq.{drop-cons}
use borrow.Author.Tests.{eqb-true, eqb-false, ltb-true, eq-eqb, ne_eqb, lt-ltb, le-ltb}
use Rattle.base_lists.specs.Lists.{all}
use Rattle.base_lists.proofs.Choice.{both}
use Rattle.base_lists.proofs.Tests.{by_test, and-true}
use Rattle.base_refusal.specs.Number.{number_of}
use Rattle.base_refusal.specs.declared.Refusal.{Refusal}
use Rattle.base_refusal.specs.declared.Refusal.TheVariants.{ShortOutput, Mismatch, Size}
use Rattle.radio_erp1.specs.Subtelegram.{check_of}
use Rattle.radio_erp1.proofs.Checks.{not_valid}
use Rattle.block_layout.specs.Block.{cells_per_block, block_length}
use Rattle.archive_model.specs.Row.{Row, is_row}
use Rattle.archive_model.specs.Buffer.{max_rows}
use Rattle.archive_model.specs.Append.{refused_append, stored, is_next, no_row}
use Rattle.archive_fill.specs.Fill.{row_length, rows_given, put_rows, check_rows, put_rows_of, put_rows_given}
use Rattle.archive_fill.specs.Private.{is_given}
use Rattle.archive_fill.proofs.Records.{rows-count}

-- ---- the lengths

module _ (block n times records : ℕ) where
  pub given-block : (block ≡ block_length → ⊥) → false ≡ is_given block n times records
  given-block h = rw (ne_eqb block block_length h)

  module _ (long : block ≡ block_length) where
    pub given_far : max_rows ≤ n → false ≡ is_given block n times records
    given_far h = rw (eq-eqb block block_length long, le-ltb n max_rows h)

    module _ (near : n < max_rows) where
      pub given-other : (records / row_length ≡ times → ⊥) → false ≡ is_given block n times records
      given-other h =
          let other : records ≡ row_length * times → ⊥ = λ e. h (omega arith) in
          rw (eq-eqb block block_length long, lt-ltb n max_rows near, ne_eqb records (row_length * times) other)

      pub given_same : records / row_length ≡ times → eqb (records % row_length) 0 ≡ is_given block n times records
      given_same e = rw (eq-eqb block block_length long, lt-ltb n max_rows near) same
        where
          same : eqb (records % row_length) 0 ≡ eqb records (row_length * times)
          same =
              by_test (eqb (records % row_length) 0)
              (λ t.
              let z : records % row_length ≡ 0 = eqb-true (records % row_length) 0 t in
              t ∙ sym (eq-eqb records (row_length * times) (omega arith)))
              (λ t. t
              ∙ sym (ne_eqb records (row_length * times) (λ s. eqb-false (records % row_length) 0 t (omega arith))))

  pub given_facts : is_given block n times records ≡ true
      → (block ≡ block_length) × (n < max_rows) × (records ≡ row_length * times)
  given_facts h =
      let a = both (eqb block block_length) (ltb n max_rows && eqb records (row_length * times)) h in
      let b = both (ltb n max_rows) (eqb records (row_length * times)) a.1 in
      (eqb-true block block_length a.0, ltb-true n max_rows b.0, eqb-true records (row_length * times) b.1)

-- ---- the rows

module _ (rows : List Row) (i : ℕ) where
  module _ (h : i < length rows) where
    pub check_next : is_row (get_or rows i no_row) ≡ true
        → check_rows i (drop i rows) ≡ check_rows (i + 1) (drop (i + 1) rows)
    unfolding check_rows
    check_next v = rw (drop-cons rows i no_row h, v, add-one i)

    pub check-stop : (why : Refusal) → number_of why ≡ check_of (get_or rows i no_row).bytes
        → record { number = number_of why; position = i } ≡ check_rows i (drop i rows)
    unfolding check_rows
    check-stop why e = rw (drop-cons rows i no_row h, not_valid (get_or rows i no_row).bytes why e, e)

  pub check_end : length rows ≤ i → record { number = 0; position = 0 } ≡ check_rows i (drop i rows)
  unfolding check_rows
  check_end h = rw (drop_of_length-le rows h)

pub check-valid : (i : ℕ) (rows : List Row) → (check_rows i rows).number ≡ 0 → all is_row rows ≡ true
unfolding check_rows
check-valid i [] e = refl
check-valid i (r ∷ rows) e =
    by_test (is_row r)
    (λ v.
    let rest : (check_rows (i + 1) rows).number ≡ 0 = rw v at e in
    and-true v (check-valid (i + 1) rows rest))
    (λ v.
    let zero : check_of r.bytes ≡ 0 = rw v at e in
    absurd (eqb-false (check_of r.bytes) 0 v zero))

-- ---- the answers

module _ (block : List ℕ) (n : ℕ) (times records : List ℕ) where
  abbrev rows : List Row
  rows = rows_given times records

  pub put-size : is_given (length block) n (length times) (length records) ≡ false
      → refused_append (number_of Size) 0 block ≡ put_rows_given block n times records
  unfolding put_rows_given put_rows_of
  put-size h = go (eqb (length records) (row_length * length times)) (eqb (length block) block_length)
      (ltb n max_rows) h
    where
      go : (c a b : Bool) → a && (b && c) ≡ false
          → refused_append (number_of Size) 0 block
          ≡ cond (not c) (refused_append (number_of Size) 0 block)
          (cond (not (a && b)) (refused_append (number_of Size) 0 block)
          (cond (not (is_next n block)) (refused_append (number_of Mismatch) (n / cells_per_block) block)
          (cond (not (eqb (check_rows 0 rows).number 0))
          (refused_append (check_rows 0 rows).number (check_rows 0 rows).position block)
          (cond (ltb cells_per_block (n % cells_per_block + length rows))
          (refused_append (number_of ShortOutput) 0 block)
          (stored (put_rows n rows block))))))
      go false a b e = refl
      go true false b e = refl
      go true true false e = refl
      go true true true e = absurd (false≢true (sym e))

  module _ (given : (length block ≡ block_length) × (n < max_rows) × (length records ≡ row_length * length times)) where
    pub put_other : is_next n block ≡ false
        → refused_append (number_of Mismatch) (n / cells_per_block) block ≡ put_rows_given block n times records
    unfolding put_rows_given put_rows_of
    put_other h =
        rw (
          eq-eqb (length records) (row_length * length times) given.2,
          eq-eqb (length block) block_length given.0,
          lt-ltb n max_rows given.1,
          h,
        )

    module _ (next : is_next n block ≡ true) where
      pub put-invalid : ((check_rows 0 rows).number ≡ 0 → ⊥)
          → refused_append (check_rows 0 rows).number (check_rows 0 rows).position block
          ≡ put_rows_given block n times records
      unfolding put_rows_given put_rows_of
      put-invalid h =
          rw (
            eq-eqb (length records) (row_length * length times) given.2,
            eq-eqb (length block) block_length given.0,
            lt-ltb n max_rows given.1,
            next,
            ne_eqb (check_rows 0 rows).number 0 h,
          )

      module _ (valid : (check_rows 0 rows).number ≡ 0) where
        pub put_many : cells_per_block < n % cells_per_block + length times
            → refused_append (number_of ShortOutput) 0 block ≡ put_rows_given block n times records
        unfolding put_rows_given put_rows_of
        put_many h =
            rw (
              eq-eqb (length records) (row_length * length times) given.2,
              eq-eqb (length block) block_length given.0,
              lt-ltb n max_rows given.1,
              next,
              valid,
              rows-count times records,
              lt-ltb cells_per_block (n % cells_per_block + length times) h,
            )

        pub put-done : n % cells_per_block + length times ≤ cells_per_block
            → stored (put_rows n rows block) ≡ put_rows_given block n times records
        unfolding put_rows_given put_rows_of
        put-done h =
            rw (
              eq-eqb (length records) (row_length * length times) given.2,
              eq-eqb (length block) block_length given.0,
              lt-ltb n max_rows given.1,
              next,
              valid,
              rows-count times records,
              le-ltb cells_per_block (n % cells_per_block + length times) h,
            )

        -- no row: the block as it was
        pub put_none : length times ≡ 0 → stored block ≡ put_rows_given block n times records
        unfolding put_rows
        put_none z = sym (put-nothing rows (rows-count times records ∙ z)) ∙ put-done (omega arith)
          where
            put-nothing : (rs : List Row) → length rs ≡ 0 → stored (put_rows n rs block) ≡ stored block
            put-nothing [] e = refl
            put-nothing (r ∷ rs) e = absurd (omega arith)
