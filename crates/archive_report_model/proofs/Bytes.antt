-- An archive of bytes: its rows have identities of 32 bits.
--     all_append, all-part       a test of every element, over lists put together and over a part
--     unbe-bytes                 what bytes spell
--     known                      what is known of the rows of an archive
--     blocks-bytes, cell-lines   its blocks are bytes, and each row of such a block gives a line
use Prim.Native.Nat.{ℕ, zero, suc, ◌+◌, ◌*◌, ◌-◌, ◌/◌, ◌^◌, ◌<◌, ◌≤◌}
use native.Mathlib.Nat.{pow-suc, pow-le-pow_right, add-zero}
use native.Mathlib.Omega.{arith}
use mathlib.Core.Path.{◌≡◌, refl}
use mathlib.Core.Bool.{Bool, true}
use mathlib.Core.List.{List, [], ◌∷◌, ◌++◌, map, flatten}
use lib.Dec.{ltb}
use lib.ListN.{length, take, drop, replicate, length-take}
use borrow.Author.Tests.{lt-ltb, ltb-true}
use Rattle.base_lists.specs.Lists.{all, up_from}
use Rattle.base_lists.proofs.Choice.{both}
use Rattle.base_lists.proofs.Tests.{and-true, all_both}
use Rattle.base_buffers.specs.Buffer.{part, resized}
use Rattle.block_layout.specs.BigEndian.{unbe, unbe_from}
use Rattle.block_layout.specs.Cell.{cell_length, cell_capacity, cell_used, cell_field, cell_bytes}
use Rattle.block_layout.specs.Block.{header_length, block_length, block_cell}
use Rattle.archive_model.specs.Row.{Row, is_row, row_in, row_count, rows_of}
use Rattle.archive_model.specs.Buffer.{blocks_in, rows_in}
use Rattle.archive_model.specs.Append.{verdict}
use Rattle.archive_model.specs.Identity.{identity_of}
use Rattle.archive_model.specs.Claims.{is_fit}
use Rattle.archive_model.proofs.Claims.{exact}
use Rattle.archive_model.proofs.Exact.{exact_few}
use Rattle.archive_model.proofs.Cursor.{verdict_facts, blocks_of}
use Rattle.archive_report_model.specs.Report.{is_line, line_of_row}
use Rattle.base_numbers.specs.Bytes.{are_bytes}
use Rattle.archive_report_model.proofs.Additions.{is_line_of, Known}

module _ {A : Type 0} (p : A → Bool) where
  pub all_append : (xs ys : List A) → all p xs ≡ true → all p ys ≡ true → all p (xs ++ ys) ≡ true
  all_append [] ys h k = k
  all_append (x ∷ xs) ys h k =
      let w = both (p x) (all p xs) h in
      and-true w.0 (all_append xs ys w.1 k)

  all_take : (n : ℕ) (xs : List A) → all p xs ≡ true → all p (take n xs) ≡ true
  all_take zero xs h = refl
  all_take (suc n) [] h = refl
  all_take (suc n) (x ∷ xs) h =
      let w = both (p x) (all p xs) h in
      and-true w.0 (all_take n xs w.1)

  all_drop : (n : ℕ) (xs : List A) → all p xs ≡ true → all p (drop n xs) ≡ true
  all_drop zero xs h = h
  all_drop (suc n) [] h = refl
  all_drop (suc n) (x ∷ xs) h = all_drop n xs (both (p x) (all p xs) h).1

  pub all_part : (a n : ℕ) (xs : List A) → all p xs ≡ true → all p (part a n xs) ≡ true
  all_part a n xs h = all_take n (drop a xs) (all_drop a xs h)

  pub all_repeated : (n : ℕ) (x : A) → p x ≡ true → all p (replicate n x) ≡ true
  all_repeated zero x h = refl
  all_repeated (suc n) x h = and-true h (all_repeated n x h)

  pub all_flat : {B : Type 0} (q : B → Bool) (f : B → List A) → ((b : B) → q b ≡ true → all p (f b) ≡ true)
      → (bs : List B) → all q bs ≡ true → all p (flatten (map f bs)) ≡ true
  unfolding flatten
  all_flat q f h [] t = refl
  all_flat q f h (b ∷ bs) t =
      let w = both (q b) (all q bs) t in
      all_append (f b) (flatten (map f bs)) (h b w.0) (all_flat q f h bs w.1)

  pub all_each : (f : ℕ → A) → ((i : ℕ) → p (f i) ≡ true) → (a n : ℕ) → all p (map f (up_from a n)) ≡ true
  unfolding up_from
  all_each f h a zero = refl
  all_each f h a (suc n) = and-true (h a) (all_each f h (suc a) n)

bytes-from : (high i : ℕ) (bs : List ℕ) → high < 256 ^ i → are_bytes bs ≡ true
    → unbe_from high bs < 256 ^ (i + length bs)
unfolding unbe_from
bytes-from high i [] h t = rw add-zero h
bytes-from high i (b ∷ bs) h t =
    let w = both (ltb b 256) (are_bytes bs) t in
    let lt : b < 256 = ltb-true b 256 w.0 in
    let more : high * 256 + b < 256 ^ suc i = rw pow-suc (omega arith) in
    let e : i + suc (length bs) ≡ suc i + length bs = omega arith in
    rw e (bytes-from (high * 256 + b) (suc i) bs more w.1)

pub unbe-bytes : (w : ℕ) (bs : List ℕ) → length bs ≤ w → are_bytes bs ≡ true → unbe bs < 256 ^ w
unfolding unbe
unbe-bytes w bs h t =
    let a : unbe_from 0 bs < 256 ^ (0 + length bs) = bytes-from 0 0 bs (omega arith) t in
    let e : 0 + length bs ≡ length bs = omega arith in
    let b : unbe_from 0 bs < 256 ^ length bs = rw e at a in
    let c : 256 ^ length bs ≤ 256 ^ w = pow-le-pow_right (omega arith) h in
    omega arith

-- ---- the rows of an archive

abbrev is_byte : ℕ → Bool
is_byte b = ltb b 256

abbrev is_narrow : Row → Bool
is_narrow r = ltb (identity_of r) (2 ^ 32)

resized-bytes : (n : ℕ) (xs : List ℕ) → are_bytes xs ≡ true → are_bytes (resized n xs) ≡ true
unfolding resized
resized-bytes n xs t =
    let zeros = replicate {A = ℕ} (n - length xs) 0 in
    all_take is_byte n (xs ++ zeros) (all_append is_byte xs zeros t (all_repeated is_byte (n - length xs) 0 refl))

shown-bytes : (cell : List ℕ) → are_bytes cell ≡ true → are_bytes (cell_bytes cell) ≡ true
unfolding cell_bytes
shown-bytes cell t = resized-bytes (cell_used cell) (cell_field cell) (all_part is_byte 9 cell_capacity cell t)

pub narrow_bytes : (r : Row) → are_bytes r.bytes ≡ true → identity_of r < 2 ^ 32
narrow_bytes r t =
    let at = length r.bytes - 6 in
    unbe-bytes 4 (part at 4 r.bytes) (omega (arith, length-take 4 (drop at r.bytes)))
    (all_part is_byte at 4 r.bytes t)

narrow : (cell : List ℕ) → are_bytes cell ≡ true → is_narrow (row_in cell) ≡ true
narrow cell t = lt-ltb (identity_of (row_in cell)) (2 ^ 32) (narrow_bytes (row_in cell) (shown-bytes cell t))

narrow_block : (block : List ℕ) → are_bytes block ≡ true → all is_narrow (rows_of block) ≡ true
unfolding rows_of
narrow_block block t =
    all_each is_narrow (λ i. row_in (block_cell i block))
    (λ i. narrow (block_cell i block) (all_part is_byte (header_length + cell_length * i) cell_length block t)) 0
    (row_count block)

narrow_rows : (buffer : List ℕ) → are_bytes buffer ≡ true → all is_narrow (rows_in buffer) ≡ true
unfolding rows_in blocks_in
narrow_rows buffer t =
    let at : ℕ → List ℕ = λ k. part (block_length * k) block_length buffer in
    let n = length buffer / block_length in
    all_flat is_narrow are_bytes rows_of narrow_block (map at (up_from 0 n))
    (all_each are_bytes at (λ k. all_part is_byte (block_length * k) block_length buffer t) 0 n)

line_of : (r : Row) → is_fit r ≡ true → is_narrow r ≡ true → is_line (line_of_row r) ≡ true
line_of r f n = is_line_of r (ltb-true (identity_of r) (2 ^ 32) n) (ltb-true r.time (2 ^ 64) (both (is_row r) _ f).1)

pub known : (buffer : List ℕ) → (verdict buffer).number ≡ 0 → are_bytes buffer ≡ true → Known buffer
known buffer v t = record {
  lines =
      all_both is_fit is_narrow (λ r. is_line (line_of_row r)) line_of
      (rows_in buffer) (exact buffer v).1 (narrow_rows buffer t);
  few =
      omega (
        arith,
        exact_few buffer (length buffer / block_length) (blocks_of buffer v).0 (verdict_facts buffer v).1,
        (blocks_of buffer v).1,
      );
}

-- ---- a block of bytes

pub blocks-bytes : (buffer : List ℕ) → are_bytes buffer ≡ true → all are_bytes (blocks_in buffer) ≡ true
unfolding blocks_in
blocks-bytes buffer t =
    all_each are_bytes (λ k. part (block_length * k) block_length buffer)
    (λ k. all_part is_byte (block_length * k) block_length buffer t) 0 (length buffer / block_length)

line_cell : (cell : List ℕ) → are_bytes cell ≡ true → is_line (line_of_row (row_in cell)) ≡ true
line_cell cell t =
    is_line_of (row_in cell) (narrow_bytes (row_in cell) (shown-bytes cell t))
    (unbe-bytes 8 (part 0 8 cell) (omega (arith, length-take 8 cell)) (all_part is_byte 0 8 cell t))

pub cell_lines : (block : List ℕ) → are_bytes block ≡ true → all (λ r. is_line (line_of_row r)) (rows_of block) ≡ true
unfolding rows_of
cell_lines block t =
    all_each (λ (r : Row). is_line (line_of_row r)) (λ i. row_in (block_cell i block))
    (λ i. line_cell (block_cell i block) (all_part is_byte (header_length + cell_length * i) cell_length block t)) 0
    (row_count block)
