-- Rows put into the block of an archive where its next row goes: the archive of its rows and these.
--     with-same, with_at, with-with, with-length     a block replaced by itself; what stands there; replaced twice; the length
--     grown, grown-all, grown-by                     one row; some rows; any rows, none included
use Prim.Native.Nat.{ℕ, ◌+◌, ◌-◌, ◌*◌, ◌/◌, ◌%◌, ◌^◌, ◌≤◌, ◌<◌}
use native.Mathlib.Omega.{arith}
use mathlib.Core.Path.{◌≡◌, refl, sym, ap, ap₂, ◌∙◌}
use mathlib.Core.Bool.{true}
use mathlib.Core.List.{List, [], ◌∷◌, ◌++◌, append_assoc, append-nil}
use lib.Dec.{ltb}
use lib.ListN.{length, take, drop, length-append, length-take, length-drop}
use lib.Seq.{take_at, drop_at}
use borrow.Author.Tests.{ltb-true, lt-ltb}
use Rattle.base_lists.specs.Lists.{all}
use Rattle.base_lists.proofs.Choice.{both}
use Rattle.base_buffers.proofs.Segments.{part_length, part-ends, left, last, begin, skip}
use Rattle.block_layout.specs.Block.{cells_per_block, block_length}
use Rattle.archive_model.specs.Row.{Row, is_row}
use Rattle.archive_model.specs.Buffer.{rows_in, max_rows}
use Rattle.archive_model.specs.Append.{Appended, verdict, stored, append_of, append_at_of, block_at, put_row, is_next}
use Rattle.archive_model.proofs.Cursor.{verdict_facts, blocks_of, cursor, appended}
use Rattle.archive_fill.specs.Fill.{put_rows}
use Rattle.archive_fill.specs.Claims.{with_block, next_block}
use Rattle.archive_fill.proofs.Together.{row-long, put-length, put_next}

-- ---- a buffer and one of its blocks

module _ (buffer : List ℕ) (k : ℕ) (inside : k < length buffer / block_length) where
  block-long : length (block_at k buffer) ≡ block_length
  block-long = part_length (block_length * k) block_length buffer (omega arith)

  with_same : with_block k (block_at k buffer) buffer ≡ buffer
  with_same =
      let at = block_length * k in
      let z : at - 0 ≡ at = omega arith in
      let b =
      skip (skip (begin buffer) at (omega arith) (omega arith)) (at + block_length) (omega arith) (omega arith) in
      sym (b.is
      ∙ ap₂ (λ (x y : List ℕ). x ++ y ++ drop (at + block_length) buffer)
      (ap (λ (w : ℕ). take w buffer) z) (part-ends at block_length buffer))

  module _ (ys : List ℕ) (long : length ys ≡ block_length) where
    abbrev front : List ℕ
    front = take (block_length * k) buffer

    front_long : length front ≡ block_length * k
    front_long = length-take (block_length * k) buffer ∙ omega arith

    both_long : length (front ++ ys) ≡ block_length * k + block_length
    both_long = length-append front ys ∙ omega (arith, front_long)

    abbrev behind : List ℕ
    behind = drop (block_length * k + block_length) buffer

    with_at : block_at k (with_block k ys buffer) ≡ ys
    with_at =
        left (front ++ ys) behind (block_length * k + block_length) (block_length * k) block_length both_long
        (omega arith)
        ∙ last front ys (block_length * k) block_length front_long long

    with_with : (zs : List ℕ) → with_block k zs (with_block k ys buffer) ≡ with_block k zs buffer
    with_with zs =
        ap₂ (λ (x y : List ℕ). x ++ zs ++ y)
        (ap (take (block_length * k)) (append_assoc front ys behind)
        ∙ take_at front (ys ++ behind) (block_length * k) front_long)
        (drop_at (front ++ ys) behind (block_length * k + block_length) both_long)

    with_length : length (with_block k ys buffer) ≡ length buffer
    with_length =
        length-append (front ++ ys) behind
        ∙ omega (arith, both_long, length-drop (block_length * k + block_length) buffer)

-- ---- rows

-- an archive of some rows more
abbrev Grown : List ℕ → List ℕ → List Row → Type 0
Grown buffer after rows = ((verdict after).number ≡ 0) × (rows_in after ≡ rows_in buffer ++ rows)

module _ (buffer : List ℕ) (v : (verdict buffer).number ≡ 0) (n : ℕ) (e : length (rows_in buffer) ≡ n)
    (inside : n / cells_per_block < length buffer / block_length)
    (next : is_next n (block_at (n / cells_per_block) buffer) ≡ true) where
  grown : (r : Row) → is_row r ≡ true → r.time < 2 ^ 64
      → Grown buffer (with_block (n / cells_per_block) (put_row n r (block_at (n / cells_per_block) buffer)) buffer)
      (r ∷ [])
  unfolding append_at_of
  grown r valid t =
      let new = with_block (n / cells_per_block) (put_row n r (block_at (n / cells_per_block) buffer)) buffer in
      let put : append_at_of buffer n r ≡ stored new
      = rw (
        (verdict_facts buffer v).0,
        lt-ltb (n / cells_per_block)
            (length buffer / block_length) inside,
        next,
        valid,
      ) in
      let is : append_of buffer r ≡ stored new =
      sym (cursor buffer v r t) ∙ ap (λ (i : ℕ). append_at_of buffer i r) e ∙ put in
      let g = appended buffer v r t (ap (λ (a : Appended). a.number) is) in (
        ap (λ (a : Appended). (verdict a.buffer).number) (sym is) ∙ g.0,
        ap (λ (a : Appended). rows_in a.buffer) (sym is) ∙ g.1,
      )

grown_all : (rows : List Row) (r : Row) (buffer : List ℕ)
    → (verdict buffer).number ≡ 0 → (n : ℕ) → length (rows_in buffer) ≡ n
    → n / cells_per_block < length buffer / block_length
    → is_next n (block_at (n / cells_per_block) buffer) ≡ true → all is_row (r ∷ rows) ≡ true
    → all (λ x. ltb x.time (2 ^ 64)) (r ∷ rows) ≡ true → n % cells_per_block + length (r ∷ rows) ≤ cells_per_block
    → Grown buffer (with_block (n / cells_per_block)
    (put_rows n (r ∷ rows) (block_at (n / cells_per_block) buffer)) buffer)
    (r ∷ rows)
unfolding put_rows
grown_all [] r buffer v n e inside next valid small few =
    let x = both (is_row r) true valid in
    let t = both (ltb r.time (2 ^ 64)) true small in
    grown buffer v n e inside next r x.0 (ltb-true r.time (2 ^ 64) t.0)
grown_all (s ∷ rows) r buffer v n e inside next valid small few =
    let k = n / cells_per_block in
    let x = both (is_row r) (all is_row (s ∷ rows)) valid in
    let t = both (ltb r.time (2 ^ 64)) (all (λ x. ltb x.time (2 ^ 64)) (s ∷ rows)) small in
    let block = block_at k buffer in
    let long = block-long buffer k inside in
    let cell = row-long r x.0 in
    let put = put_row n r block in
    let put-long = put-length n r block long cell in
    let new = with_block k put buffer in
    let g = grown buffer v n e inside next r x.0 (ltb-true r.time (2 ^ 64) t.0) in
    let count : length (rows_in new) ≡ n + 1 =
    ap length g.1 ∙ length-append (rows_in buffer) (r ∷ []) ∙ omega (arith, e) in
    let q : (n + 1) / cells_per_block ≡ k = omega arith in
    let at = with_at buffer k inside put put-long in
    let near : n < max_rows = omega (arith, (blocks_of buffer v).1) in
    let room : (n + 1) / cells_per_block < length new / block_length =
    omega (arith, q, with_length buffer k inside put put-long) in
    let told : is_next (n + 1) (block_at ((n + 1) / cells_per_block) new) ≡ true =
    ap (λ (j : ℕ). is_next (n + 1) (block_at j new)) q ∙ ap (is_next (n + 1)) at
    ∙ put_next n r block long cell near (omega arith) in
    let ih = grown_all rows s new g.0 (n + 1) count room told x.1 t.1 (omega arith) in
    let same : with_block ((n + 1) / cells_per_block)
    (put_rows (n + 1) (s ∷ rows) (block_at ((n + 1) / cells_per_block) new)) new
    ≡ with_block k (put_rows (n + 1) (s ∷ rows) put) buffer
    = ap (λ (j : ℕ). with_block j (put_rows (n + 1) (s ∷ rows) (block_at j new)) new) q
    ∙ ap (λ (b : List ℕ). with_block k (put_rows (n + 1) (s ∷ rows) b) new) at
    ∙ with_with buffer k inside put put-long (put_rows (n + 1) (s ∷ rows) put) in (
      ap (λ (b : List ℕ). (verdict b).number) (sym same) ∙ ih.0,
      ap rows_in (sym same) ∙ ih.1 ∙ ap (λ (l : List Row). l ++ (s ∷ rows)) g.1
          ∙ append_assoc (rows_in buffer) (r ∷ []) (s ∷ rows),
    )

pub grown_by : (rows : List Row) (buffer : List ℕ) → (verdict buffer).number ≡ 0
    → next_block buffer < length buffer / block_length
    → is_next (length (rows_in buffer)) (block_at (next_block buffer) buffer) ≡ true → all is_row rows ≡ true
    → all (λ x. ltb x.time (2 ^ 64)) rows ≡ true
    → length (rows_in buffer) % cells_per_block + length rows ≤ cells_per_block
    → Grown buffer
    (with_block (next_block buffer)
    (put_rows (length (rows_in buffer)) rows (block_at (next_block buffer) buffer)) buffer)
    rows
unfolding put_rows
grown_by [] buffer v inside next valid small few =
    rw (with_same buffer (next_block buffer) inside) (v, sym (append-nil (rows_in buffer)))
grown_by (r ∷ rows) buffer v inside next valid small few =
    grown_all rows r buffer v (length (rows_in buffer)) refl inside next valid small few
