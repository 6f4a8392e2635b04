-- The claims on archives.
use Prim.Native.Nat.{ℕ, ◌-◌, ◌*◌, ◌/◌, ◌^◌}
use native.Mathlib.Omega.{arith}
use mathlib.Core.Path.{◌≡◌, refl, sym, ap, ◌∙◌}
use mathlib.Core.Bool.{true}
use mathlib.Core.List.{List, [], ◌∷◌, ◌++◌, append_assoc, append-nil, flatten}
use lib.Dec.{eqb, ltb}
use lib.ListN.{length, get_or, replicate, length-append}
use borrow.Author.Tests.{eqb-true, eqb-false, ltb-true, lt-ltb}
use Rattle.base_lists.specs.Lists.{all, up_from}
use Rattle.base_lists.proofs.Choice.{both}
use Rattle.base_lists.proofs.Tests.{and-true, by_test, all_get_d}
use Rattle.radio_erp1.specs.Subtelegram.{check_of}
use Rattle.radio_erp1.proofs.Checks.{check_facts}
use Rattle.block_layout.specs.Block.{block_length}
use Rattle.archive_model.specs.Row.{Row, is_row}
use Rattle.archive_model.specs.Buffer.{archive_of, buffer_of, is_whole, rows_in}
use Rattle.archive_model.specs.Append.{verdict, append_of}
use Rattle.archive_model.specs.Claims.{is_fit, Sizes, Layout, ReadBack, ExactArchive, after_appends, rows_accepted, WholeRun, AtCursor, RowsAnswered, RowShort, Pieces}
use Rattle.archive_model.proofs.Blocks.{Fits, Shorts, no_row, all_from}
use Rattle.archive_model.proofs.Buffers.{rows_in_lem}
use Rattle.archive_model.proofs.ByByte.{laid}
use Rattle.archive_model.proofs.Pieces.{scan_append, scan-found, scan-rows}
use Rattle.archive_model.proofs.Cursor.{written-verdict, blocks_of, is_exact, rows_fit, rows_few, cursor, appended, append_kept}
use Rattle.archive_model.proofs.Reading.{row_at, row-short}

fits : (rows : List Row) → all is_fit rows ≡ true → Fits rows
unfolding Fits
fits rows ok i h =
    let r = get_or rows i no_row in
    let b = both (is_row r) _ (all_get_d is_fit rows i no_row ok h) in
    record { valid = b.0; time = ltb-true r.time (2 ^ 64) b.1 }

are_fit : (rows : List Row) → Fits rows → all is_fit rows ≡ true
unfolding Fits
are_fit rows f =
    all_from is_fit rows (λ i h. and-true (f i h).valid (lt-ltb (get_or rows i no_row).time (2 ^ 64) (f i h).time))

pub sizes : Sizes
unfolding is_whole
sizes = refl

pub by_byte : Layout
unfolding Shorts
by_byte k rows few valid =
    laid k rows
    (λ i h.
    let bytes = (get_or rows i no_row).bytes in
    (check_facts bytes (eqb-true (check_of bytes) 0 (all_get_d is_row rows i no_row valid h))).high)
    few

pub read_back : ReadBack
read_back m rows mb few ok = (written-verdict rows m (fits rows ok) few mb, rows_in_lem rows m (fits rows ok) few)

pub exact : ExactArchive
exact buffer v = (
  ap (λ (n : ℕ). buffer_of n (rows_in buffer)) (blocks_of buffer v).0 ∙ is_exact buffer v,
  are_fit (rows_in buffer) (rows_fit buffer v),
)

pub at_cursor : AtCursor
at_cursor buffer r v t =
    (cursor buffer v r t, λ z. ap length (appended buffer v r t z).1 ∙ length-append (rows_in buffer) (r ∷ []))

pub row_read : RowsAnswered
row_read buffer i v =
    rw (is_exact buffer v) at
    (row_at (rows_in buffer) (length buffer / block_length)
    (rows_fit buffer v) (rows_few buffer v) (blocks_of buffer v).1 i)

pub row_fits : RowShort
row_fits = row-short

pub in_pieces : Pieces
in_pieces = (scan_append, scan-found, scan-rows)

-- ---- the run

run-from : (buffer : List ℕ) (rows : List Row) → (verdict buffer).number ≡ 0
    → all (λ r. ltb r.time (2 ^ 64)) rows ≡ true
    → ((verdict (after_appends buffer rows)).number ≡ 0)
    × (rows_in (after_appends buffer rows) ≡ rows_in buffer ++ rows_accepted buffer rows)
run-from buffer [] v ok = (v, sym (append-nil (rows_in buffer)))
run-from buffer (r ∷ rows) v ok =
    let b = both (ltb r.time (2 ^ 64)) _ ok in
    let next = (append_of buffer r).buffer in
    by_test {X = ((verdict (after_appends next rows)).number ≡ 0)
    × (rows_in (after_appends next rows) ≡ rows_in buffer ++ rows_accepted buffer (r ∷ rows))}
    (eqb (append_of buffer r).number 0)
    (λ t.
    let a = appended buffer v r (ltb-true r.time (2 ^ 64) b.0) (eqb-true (append_of buffer r).number 0 t) in
    let p = run-from next rows a.0 b.1 in (
      p.0,
      p.1 ∙ ap (λ (l : List Row). l ++ rows_accepted next rows) a.1
          ∙ append_assoc (rows_in buffer) (r ∷ []) (rows_accepted next rows) ∙ (rw t),
    ))
    (λ f.
    let k = append_kept buffer r (eqb-false (append_of buffer r).number 0 f) in
    let p = run-from next rows (rw k v) b.1 in
    (p.0, p.1 ∙ ap (λ (l : List ℕ). rows_in l ++ rows_accepted next rows) k ∙ (rw f)))

-- an all-zero buffer is an archive of no rows
zeros_are : (n : ℕ) → buffer_of n [] ≡ replicate n 0
unfolding buffer_of archive_of flatten up_from
zeros_are n =
    let e : n - 0 ≡ n = omega arith in
    rw e

pub run : WholeRun
run m rows mb ok =
    let b = read_back m [] mb (omega arith) refl in
    let z = zeros_are (block_length * m) in
    let p = run-from (replicate (512 * m) 0) rows (rw z at b.0) ok in
    (p.0, p.1 ∙ ap (λ (l : List Row). l ++ rows_accepted (replicate (512 * m) 0) rows) (rw z at b.1))
