-- What is written of rows of bytes is bytes.
--     be-bytes, crc-byte, hash-byte     numbers that are spelled, and the two sums
--     block-bytes, buffer-bytes         a block, and an archive
use Prim.Native.Nat.{ℕ, zero, suc, ◌-◌, ◌*◌, ◌/◌, ◌%◌, ◌<◌, ◌≤◌}
use native.Mathlib.Omega.{arith}
use mathlib.Core.Path.{◌≡◌, refl}
use mathlib.Core.Bool.{Bool, true, false, cond, ◌&&◌}
use mathlib.Core.List.{List, [], ◌∷◌, ◌++◌, map, flatten}
use lib.Bits.{bit_xor, xor_lt}
use lib.Dec.{ltb}
use lib.ListN.{length, drop, replicate, length-take}
use borrow.Author.Tests.{lt-ltb, ltb-true, eqb-true}
use Rattle.base_lists.specs.Lists.{all, up_from, padded}
use Rattle.base_lists.proofs.Choice.{both}
use Rattle.base_lists.proofs.Tests.{and-true}
use Rattle.base_crc8.specs.Crc8.{step_of, crc_from, crc_of}
use Rattle.base_crc8.proofs.Divided.{long_division}
use Rattle.radio_erp1.specs.Status.{split_of}
use Rattle.radio_erp1.specs.Subtelegram.{last_byte, sum_of, hash_of, check_of}
use Rattle.radio_erp1.proofs.Checks.{check_facts}
use Rattle.block_layout.specs.BigEndian.{be}
use Rattle.block_layout.specs.Cell.{cell_capacity, cell_of}
use Rattle.block_layout.specs.Block.{cells_per_block, body_length, sealed, block_of}
use Rattle.archive_model.specs.Row.{Row, row_last, row_cell, rows_header, rows_block, is_row}
use Rattle.archive_model.specs.Buffer.{rows_at, blocks_for, archive_of, buffer_of}
use Rattle.base_numbers.specs.Bytes.{are_bytes}
use Rattle.archive_report_model.proofs.Bytes.{all_append, all_part, all_repeated, all_flat}

abbrev is_byte : ℕ → Bool
is_byte b = ltb b 256

one : (b : ℕ) → b < 256 → are_bytes (b ∷ []) ≡ true
one b h = and-true (lt-ltb b 256 h) refl

pub be-bytes : (w n : ℕ) → are_bytes (be w n) ≡ true
unfolding be
be-bytes zero n = refl
be-bytes (suc w) n =
    all_append is_byte (be w (n / 256)) (n % 256 ∷ []) (be-bytes w (n / 256)) (one (n % 256) (omega arith))

step-byte : (crc b : ℕ) → crc < 256 → b < 256 → step_of crc b < 256
unfolding step_of
step-byte crc b h k = (long_division (bit_xor crc b) (xor_lt 8 crc b h k)).below

crc-from : (crc : ℕ) (bs : List ℕ) → crc < 256 → are_bytes bs ≡ true → crc_from crc bs < 256
crc-from crc [] h t = h
crc-from crc (b ∷ bs) h t =
    let w = both (ltb b 256) (are_bytes bs) t in
    crc-from (step_of crc b) bs (step-byte crc b h (ltb-true b 256 w.0)) w.1

pub crc-byte : (bs : List ℕ) → are_bytes bs ≡ true → crc_of bs < 256
crc-byte bs t = crc-from 0 bs (omega arith) t

pub hash_byte : (bs : List ℕ) → are_bytes bs ≡ true → hash_of bs < 256
unfolding hash_of
hash_byte bs t = go (split_of (last_byte bs)).crc
  where
    go : (b : Bool) → cond b (crc_of bs) (sum_of bs % 256) < 256
    go true = crc-byte bs t
    go false = omega arith

padded-bytes : (n : ℕ) (xs : List ℕ) → are_bytes xs ≡ true → are_bytes (padded n xs) ≡ true
padded-bytes n xs t = all_append is_byte xs (replicate (n - length xs) 0) t
    (all_repeated is_byte (n - length xs) 0 refl)

sealed-bytes : (body : List ℕ) → are_bytes body ≡ true → are_bytes (sealed body) ≡ true
unfolding sealed
sealed-bytes body t = all_append is_byte body (crc_of body ∷ []) t (one (crc_of body) (crc-byte body t))

-- ---- rows

abbrev pub is_plain : Row → Bool
is_plain r = is_row r && are_bytes r.bytes

cell_of_lem : (time last : ℕ) (bytes : List ℕ) → length bytes < 256
    → are_bytes bytes ≡ true → are_bytes (cell_of time bytes last) ≡ true
unfolding cell_of
cell_of_lem time last bytes h t =
    let head : List ℕ = be 8 time ++ (length bytes ∷ []) in
    all_append is_byte (head ++ padded cell_capacity bytes) (be 2 last)
    (all_append is_byte head (padded cell_capacity bytes)
    (all_append is_byte (be 8 time) (length bytes ∷ []) (be-bytes 8 time) (one (length bytes) h))
    (padded-bytes cell_capacity bytes t))
    (be-bytes 2 last)

row_cell_lem : (r : Row) → is_plain r ≡ true → are_bytes (row_cell r) ≡ true
row_cell_lem r t =
    let w = both (is_row r) (are_bytes r.bytes) t in
    let short = (check_facts r.bytes (eqb-true (check_of r.bytes) 0 w.0)).high in
    cell_of_lem r.time (row_last r.loose) r.bytes (omega (arith, short)) w.1

header-bytes : (k n : ℕ) → n < 256 → are_bytes (rows_header k n) ≡ true
header-bytes k n h =
    all_append is_byte (be 4 k ++ (n ∷ [])) (replicate 19 0)
    (all_append is_byte (be 4 k) (n ∷ []) (be-bytes 4 k) (one n h))
    (all_repeated is_byte 19 0 refl)

pub block-bytes : (k : ℕ) (rows : List Row) → length rows ≤ cells_per_block
    → all is_plain rows ≡ true → are_bytes (rows_block k rows) ≡ true
unfolding rows_block block_of
block-bytes k rows few t =
    let head = rows_header k (length rows) in
    let cells = flatten (map row_cell rows) in
    sealed-bytes (padded body_length (head ++ cells))
    (padded-bytes body_length (head ++ cells)
    (all_append is_byte head cells (header-bytes k (length rows) (omega arith))
    (all_flat is_byte is_plain row_cell row_cell_lem rows t)))

every : (l : List ℕ) → all (λ k. true) l ≡ true
every [] = refl
every (x ∷ l) = every l

pub buffer-bytes : (n : ℕ) (rows : List Row) → all is_plain rows ≡ true → are_bytes (buffer_of n rows) ≡ true
unfolding buffer_of archive_of
buffer-bytes n rows t =
    let blocks = up_from 0 (blocks_for (length rows)) in
    padded-bytes n (flatten (map (λ k. rows_block k (rows_at k rows)) blocks))
    (all_flat is_byte (λ k. true) (λ k. rows_block k (rows_at k rows))
    (λ k e.
    block-bytes k (rows_at k rows) (omega (arith, length-take cells_per_block (drop (cells_per_block * k) rows)))
    (all_part is_plain (cells_per_block * k) cells_per_block rows t))
    blocks (every blocks))
