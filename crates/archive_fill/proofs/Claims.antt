-- The claims on several rows put into one block.
use Prim.Native.Nat.{ℕ, ◌+◌, ◌%◌, ◌≤◌, ◌<◌}
use native.Mathlib.Omega.{arith}
use mathlib.Core.Path.{◌≡◌, refl, sym, ◌∙◌}
use mathlib.Core.Bool.{Bool, true, false, ◌&&◌}
use mathlib.Core.List.{List, [], ◌∷◌}
use lib.Dec.{ltb, eqb}
use lib.ListN.{length}
use borrow.Author.Tests.{eqb-true, eqb-false, ltb-true, ltb-false}
use Rattle.base_lists.specs.Lists.{all}
use Rattle.base_lists.proofs.Choice.{both}
use Rattle.radio_erp1.specs.Subtelegram.{check_of}
use Rattle.block_layout.specs.Block.{cells_per_block, block_length}
use Rattle.archive_model.specs.Row.{Row, is_row}
use Rattle.archive_model.specs.Buffer.{max_rows, rows_in}
use Rattle.archive_model.specs.Append.{stored, block_at, is_next, put_row}
use Rattle.archive_file.proofs.Puts.{put-done}
use Rattle.archive_fill.specs.Fill.{put_rows, check_rows, put_rows_of}
use Rattle.archive_fill.specs.Claims.{one_by_one, OneByOne, next_block, InArchive}
use Rattle.archive_fill.proofs.Together.{row-long, put-length, put_next}
use Rattle.archive_fill.proofs.Cases.{check-valid}
use Rattle.archive_fill.proofs.InArchive.{grown_by}

-- what is known where rows are put
record Put (block : List ℕ) (n : ℕ) (rows : List Row) : Type 0 where
  pub long : length block ≡ block_length
  pub near : n < max_rows
  pub next : is_next n block ≡ true
  pub valid : all is_row rows ≡ true
  pub few : n % cells_per_block + length rows ≤ cells_per_block
  pub is : put_rows_of block n rows ≡ stored (put_rows n rows block)

put_facts : (block : List ℕ) (n : ℕ) (rows : List Row) → (put_rows_of block n rows).number ≡ 0 → Put block n rows
unfolding put_rows_of
put_facts block n rows z =
    go (eqb (length block) block_length && ltb n max_rows) (is_next n block) (eqb (check_rows 0 rows).number 0)
    (ltb cells_per_block (n % cells_per_block + length rows)) refl refl refl refl
  where
    go : (size next valid many : Bool) → eqb (length block) block_length && ltb n max_rows ≡ size
        → is_next n block ≡ next
        → eqb (check_rows 0 rows).number 0 ≡ valid
        → ltb cells_per_block (n % cells_per_block + length rows) ≡ many → Put block n rows
    go false next valid many a b c d = absurd (let q : 16 ≡ 0 = rw a at z in omega arith)
    go true false valid many a b c d = absurd (let q : 12 ≡ 0 = rw (a, b) at z in omega arith)
    go true true false many a b c d =
        absurd (eqb-false (check_rows 0 rows).number 0 c
        (let q : (check_rows 0 rows).number ≡ 0 = rw (a, b, c) at z in q))
    go true true true true a b c d = absurd (let q : 6 ≡ 0 = rw (a, b, c, d) at z in omega arith)
    go true true true false a b c d =
        let s = both (eqb (length block) block_length) (ltb n max_rows) a in
        record {
          long = eqb-true (length block) block_length s.0;
          near = ltb-true n max_rows s.1;
          next = b;
          valid = check-valid 0 rows (eqb-true (check_rows 0 rows).number 0 c);
          few = ltb-false cells_per_block (n % cells_per_block + length rows) d;
          is = rw (a, b, c, d);
        }

-- each row by itself, where its block says that it is next
each : (block : List ℕ) (n : ℕ) (rows : List Row) → length block ≡ block_length
    → (0 < length rows → (n < max_rows) × (is_next n block ≡ true))
    → all is_row rows ≡ true → n % cells_per_block + length rows ≤ cells_per_block
    → one_by_one block n rows ≡ stored (put_rows n rows block)
unfolding one_by_one put_rows
each block n [] long next valid few = refl
each block n (r ∷ rows) long next valid few =
    let v = both (is_row r) (all is_row rows) valid in
    let now = next (omega arith) in
    let cell = row-long r v.0 in
    let done = put-done block n r long now.0 now.1 (eqb-true (check_of r.bytes) 0 v.0) in
    rw (← done)
    (each (put_row n r block) (n + 1) rows (put-length n r block long cell)
    (λ some. (omega (arith, now.0), put_next n r block long cell now.0 (omega arith))) v.1 (omega arith))

pub one_by_one_lem : OneByOne
one_by_one_lem block n rows z =
    let p = put_facts block n rows z in
    each block n rows p.long (λ some. (p.near, p.next)) p.valid p.few ∙ sym p.is

pub in_archive : InArchive
in_archive buffer rows v inside small z =
    let p = put_facts (block_at (next_block buffer) buffer) (length (rows_in buffer)) rows z in
    rw p.is (grown_by rows buffer v inside p.next p.valid small p.few)
