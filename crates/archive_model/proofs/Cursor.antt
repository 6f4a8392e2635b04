-- A row appended at the cursor, which looks at one block, is a row appended to the archive.
--     put-form, put-rows, put-blank     a row put into a block: the block of one row more
--     verdict-facts                     what a verdict of 0 says
--     cursor                            the two appends are one
--     appended, append-kept             after it the archive holds one row more, or is as it was
use Prim.Native.Nat.{ℕ, zero, suc, ◌+◌, ◌-◌, ◌*◌, ◌/◌, ◌%◌, ◌^◌, ◌≤◌, ◌<◌}
use native.Mathlib.Decide.{dec_lt}
use native.Mathlib.Omega.{arith}
use mathlib.Core.Path.{◌≡◌, refl, sym, ap, ap₂, ◌∙◌}
use mathlib.Core.Bool.{Bool, true, false, cond, not}
use mathlib.Core.List.{List, [], ◌∷◌, ◌++◌, map, flatten, append_assoc, append-nil, map-append}
use lib.Dec.{eqb, leb}
use lib.ListN.{length, take, drop, replicate, length-append, length-map, length-drop, take-append-drop}
use lib.Seq.{take_all, drop-drop, drop-append-le}
use borrow.Author.Tests.{eqb-true, eqb-false, leb-true, eq-eqb, ne_eqb, lt-ltb, le-ltb, le-leb, lt-leb}
use Rattle.base_lists.specs.Lists.{padded, up_from}
use Rattle.base_lists.proofs.Choice.{both}
use Rattle.base_lists.proofs.Tests.{by_test, and-true}
use Rattle.base_lists.proofs.UpFrom.{map_same}
use Rattle.base_lists.proofs.Parts.{flatten_append}
use Rattle.base_refusal.specs.Number.{number_of}
use Rattle.base_refusal.specs.declared.Refusal.TheVariants.{ShortOutput, Size}
use Rattle.radio_erp1.specs.Subtelegram.{check_of, is_valid}
use Rattle.base_crc8.specs.Crc8.{crc_of}
use Rattle.base_buffers.specs.Buffer.{part}
use Rattle.block_layout.specs.Cell.{cell_length}
use Rattle.block_layout.specs.Block.{header_length, cells_per_block, body_length, block_length, sealed, block_of}
use Rattle.base_buffers.proofs.Segments.{left, right, last, part-replicate, flatten-length}
use Rattle.base_buffers.proofs.Buffer.{padded-length}
use Rattle.block_layout.proofs.Cell.{cell_length_lem}
use Rattle.archive_model.specs.Row.{Row, row_last, row_cell, rows_header, rows_block, block_number, row_count, is_blank}
use Rattle.archive_model.specs.Buffer.{Found, At, None, rows_at, buffer_of, max_blocks, is_whole, rows_in, mismatch}
use Rattle.archive_model.specs.Append.{Appended, refused_append, stored, found, verdict, row_number, append_of, block_at, put_row, is_next, append_at_of}
use Rattle.archive_model.proofs.Blocks.{Fit, Fits, short, shorts, header-length, each, number-back, count-back}
use Rattle.archive_model.proofs.Buffers.{pieces, blank, blank_is, group_length, group_few, group_fits, used-block, free_block, buffer-length, rows_in_lem, no_mismatch}
use Rattle.archive_model.proofs.Exact.{exact, exact_fits, exact_few, fits_append}

-- ---- one row more in a block

-- where its cells are written, and what stands behind is zero
put_form : (n : ℕ) (r : Row) (xs : List Row) (block : List ℕ) → length xs ≡ n % cells_per_block
    → length (flatten (map row_cell xs)) ≡ cell_length * (n % cells_per_block)
    → length (row_cell r) ≡ cell_length
    → part header_length (cell_length * (n % cells_per_block)) block ≡ flatten (map row_cell xs)
    → part (header_length + cell_length * (n % cells_per_block + 1))
    (body_length - (header_length + cell_length * (n % cells_per_block + 1))) block
    ≡ replicate (body_length - (header_length + cell_length * (n % cells_per_block + 1))) 0
    → put_row n r block ≡ rows_block (n / cells_per_block) (xs ++ (r ∷ []))
unfolding put_row rows_block block_of flatten
put_form n r xs block l f c p z =
    let h = rows_header (n / cells_per_block) (n % cells_per_block + 1) in
    let count : n % cells_per_block + 1 ≡ length (xs ++ (r ∷ [])) = omega (arith, length-append xs (r ∷ [])) in
    let cells : flatten (map row_cell (xs ++ (r ∷ []))) ≡ flatten (map row_cell xs) ++ row_cell r =
    ap flatten (map-append row_cell xs (r ∷ [])) ∙ flatten_append (map row_cell xs) (row_cell r ∷ [])
    ∙ ap (λ (x : List ℕ). flatten (map row_cell xs) ++ x) (append-nil (row_cell r)) in
    let long : length (h ++ (flatten (map row_cell xs) ++ row_cell r))
    ≡ header_length + cell_length * (n % cells_per_block + 1) =
    length-append h (flatten (map row_cell xs) ++ row_cell r)
    ∙ omega (
      arith,
      header-length (n / cells_per_block) (n % cells_per_block + 1),
      length-append (flatten (map row_cell xs)) (row_cell r),
    ) in
    ap sealed
    (ap₂ (λ (x y : List ℕ). h ++ x ++ row_cell r ++ y) p z
    ∙ ap (λ (x : List ℕ). x ++ replicate (body_length - (header_length + cell_length * (n % cells_per_block + 1))) 0)
    (append_assoc h (flatten (map row_cell xs)) (row_cell r))
    ∙ ap (λ (w : ℕ). h ++ (flatten (map row_cell xs) ++ row_cell r) ++ replicate (body_length - w) 0) (sym long)
    ∙ ap₂ (λ (w : ℕ) (x : List ℕ). padded body_length (rows_header (n / cells_per_block) w ++ x)) count (sym cells))

row-length : (r : Row) → Fit r → length (row_cell r) ≡ cell_length
row-length r f = cell_length_lem r.time r.bytes (row_last r.loose) (short f)

module _ (n : ℕ) (r : Row) (fr : length (row_cell r) ≡ cell_length) where
  put_blank : n % cells_per_block ≡ 0 → put_row n r blank ≡ rows_block (n / cells_per_block) (r ∷ [])
  unfolding flatten
  put_blank e =
      put_form n r [] blank (sym e) (omega arith) fr
      (ap₂ (λ (w : ℕ) (b : List ℕ). part header_length (cell_length * w) b) e blank_is)
      (ap (part (header_length + cell_length * (n % cells_per_block + 1))
      (body_length - (header_length + cell_length * (n % cells_per_block + 1))))
      blank_is
      ∙ part-replicate (header_length + cell_length * (n % cells_per_block + 1))
      (body_length - (header_length + cell_length * (n % cells_per_block + 1))) block_length 0 (omega arith))

  module _ (k : ℕ) (xs : List Row) (fit : Fits xs) (l : length xs ≡ n % cells_per_block) where
    abbrev head : List ℕ
    head = rows_header k (length xs)

    abbrev cells : List ℕ
    cells = flatten (map row_cell xs)

    abbrev zeros : List ℕ
    zeros = replicate (body_length - length (head ++ cells)) 0

    cells-long : length cells ≡ cell_length * (n % cells_per_block)
    cells-long =
        flatten-length cell_length (map row_cell xs) (each k xs (shorts xs fit) (omega arith))
        ∙ ap (λ (w : ℕ). cell_length * w) (length-map xs row_cell ∙ l)

    used_long : length (head ++ cells) ≡ header_length + cell_length * (n % cells_per_block)
    used_long = length-append head cells ∙ omega (arith, header-length k (length xs), cells-long)

    body_long : length (head ++ cells ++ zeros) ≡ body_length
    body_long = padded-length body_length (head ++ cells) (omega (arith, used_long))

    block_is : rows_block k xs ≡ head ++ cells ++ zeros ++ (crc_of (head ++ cells ++ zeros) ∷ [])
    unfolding rows_block block_of sealed
    block_is = refl

    in_body : (a w : ℕ) → a + w ≤ body_length → part a w (rows_block k xs) ≡ part a w (head ++ cells ++ zeros)
    in_body a w h =
        ap (part a w) block_is
        ∙ left (head ++ cells ++ zeros) (crc_of (head ++ cells ++ zeros) ∷ []) body_length a w body_long h

    put-rows : put_row n r (rows_block k xs) ≡ rows_block (n / cells_per_block) (xs ++ (r ∷ []))
    put-rows =
        let past = header_length + cell_length * (n % cells_per_block + 1) in
        let e : past ≡ header_length + cell_length * (n % cells_per_block) + cell_length = omega arith in
        put_form n r xs (rows_block k xs) l cells-long fr
        (in_body header_length (cell_length * (n % cells_per_block)) (omega arith)
        ∙ left (head ++ cells) zeros (header_length + cell_length * (n % cells_per_block)) header_length
        (cell_length * (n % cells_per_block)) used_long (omega arith)
        ∙ last head cells header_length (cell_length * (n % cells_per_block)) (header-length k (length xs)) cells-long)
        (in_body past (body_length - past) (omega arith)
        ∙ ap (λ (a : ℕ). part a (body_length - past) (head ++ cells ++ zeros)) e
        ∙ right (head ++ cells) zeros (header_length + cell_length * (n % cells_per_block)) cell_length
        (body_length - past) used_long
        ∙ part-replicate cell_length (body_length - past)
        (body_length - length (head ++ cells)) 0 (omega (arith, used_long)))

-- ---- the buffer of some rows is an archive

module _ (rows : List Row) (m : ℕ) (fit : Fits rows) (fits : length rows ≤ cells_per_block * m)
    (mb : m ≤ max_blocks) where
  pub written_whole : is_whole (length (buffer_of (block_length * m) rows)) ≡ true
  unfolding is_whole
  written_whole =
      let l = buffer-length rows m fit fits in
      let a : length (buffer_of (block_length * m) rows) % block_length ≡ 0 = omega (arith, l) in
      let b : length (buffer_of (block_length * m) rows) / block_length ≤ max_blocks = omega (arith, l) in
      and-true (eq-eqb (length (buffer_of (block_length * m) rows) % block_length) 0 a)
      (le-leb (length (buffer_of (block_length * m) rows) / block_length) max_blocks b)

  pub written-verdict : (verdict (buffer_of (block_length * m) rows)).number ≡ 0
  unfolding verdict
  written-verdict = rw (written_whole, no_mismatch rows m fit fits mb)

-- ---- the buffer of some rows, and of one row more

module _ (rows : List Row) (m : ℕ) (fit : Fits rows) (fits : length rows ≤ cells_per_block * m) where
  abbrev n : ℕ
  n = length rows

  abbrev k : ℕ
  k = n / cells_per_block

  abbrev buffer : List ℕ
  buffer = buffer_of (block_length * m) rows

  count : length buffer / block_length ≡ m
  count = omega (arith, buffer-length rows m fit fits)

  -- the block of the next row
  next_blank : k < m → n % cells_per_block ≡ 0 → block_at k buffer ≡ blank
  next_blank h e = free_block rows m fit fits k (omega arith) (omega arith)

  next_used : k < m → (n % cells_per_block ≡ 0 → ⊥) → block_at k buffer ≡ rows_block k (rows_at k rows)
  next_used h e = used-block rows m fit fits k (omega arith) (omega arith)

  group_is : length (rows_at k rows) ≡ n % cells_per_block
  group_is = omega (arith, group_length rows k)

  blank_next : is_blank (part 0 5 blank) ≡ true
  unfolding blank
  blank_next = refl

  is_next_lem : k < m → m ≤ max_blocks → is_next n (block_at k buffer) ≡ true
  is_next_lem h mb =
      by_test {X = is_next n (block_at k buffer) ≡ true} (eqb (n % cells_per_block) 0)
      (λ t. rw (t, next_blank h (eqb-true (n % cells_per_block) 0 t)) blank_next)
      (λ f.
      let u : n % cells_per_block ≡ 0 → ⊥ = eqb-false (n % cells_per_block) 0 f in
      let num = number-back k (rows_at k rows) (group_fits rows fit k) (group_few rows k) (omega arith) in
      let cnt = count-back k (rows_at k rows) (group_fits rows fit k) (group_few rows k) ∙ group_is in
      rw (
        f,
        next_used h u,
        eq-eqb (block_number (rows_block k (rows_at k rows))) k num,
        eq-eqb (row_count (rows_block k (rows_at k rows))) (n % cells_per_block) cnt,
      ))

  module _ (r : Row) (fr : Fit r) (inside : k < m) where
    abbrev more : List Row
    more = rows ++ (r ∷ [])

    more-length : length more ≡ n + 1
    more-length = length-append rows (r ∷ [])

    one_fits : Fits (r ∷ [])
    unfolding Fits
    one_fits zero h = fr
    one_fits (suc i) h = absurd (omega arith)

    pub more-fits : Fits more
    more-fits = fits_append rows (r ∷ []) fit one_fits

    pub more_few : length more ≤ cells_per_block * m
    more_few = omega (arith, more-length)

    abbrev buffer2 : List ℕ
    buffer2 = buffer_of (block_length * m) more

    -- the rows of its block, and of those before it
    group_more : rows_at k more ≡ rows_at k rows ++ (r ∷ [])
    group_more =
        let h : cells_per_block * k ≤ length rows = omega arith in
        let l : length (drop (cells_per_block * k) rows ++ (r ∷ [])) ≤ cells_per_block =
        omega (
          arith,
          length-append (drop (cells_per_block * k) rows) (r ∷ []),
          length-drop (cells_per_block * k) rows,
        ) in
        ap (take cells_per_block) (drop-append-le (cells_per_block * k) rows (r ∷ []) h)
        ∙ take_all cells_per_block (drop (cells_per_block * k) rows ++ (r ∷ [])) l
        ∙ ap (λ (x : List Row). x ++ (r ∷ []))
        (sym (take_all cells_per_block (drop (cells_per_block * k) rows)
        (omega (arith, length-drop (cells_per_block * k) rows))))

    group_before : (j : ℕ) → j < k → rows_at j more ≡ rows_at j rows
    group_before j h = left rows (r ∷ []) n (cells_per_block * j) cells_per_block refl (omega arith)

    -- the three parts of the buffer
    before_same : (j : ℕ) → 0 ≤ j → j < 0 + k
        → part (block_length * j) block_length buffer2 ≡ part (block_length * j) block_length buffer
    before_same j z h =
        used-block more m more-fits more_few j (omega arith) (omega (arith, more-length))
        ∙ ap (rows_block j) (group_before j (omega arith))
        ∙ sym (used-block rows m fit fits j (omega arith) (omega arith))

    front : take (block_length * k) buffer2 ≡ take (block_length * k) buffer
    front =
        sym (pieces block_length buffer2 0 k)
        ∙ ap flatten
        (map_same (λ j. part (block_length * j) block_length buffer2)
        (λ j. part (block_length * j) block_length buffer) 0 k before_same)
        ∙ pieces block_length buffer 0 k

    put_is : put_row n r (block_at k buffer) ≡ rows_block k (rows_at k more)
    put_is =
        by_test {X = put_row n r (block_at k buffer) ≡ rows_block k (rows_at k more)} (eqb (n % cells_per_block) 0)
        (λ t.
        let u = eqb-true (n % cells_per_block) 0 t in
        let e : rows_at k rows ≡ [] = empty (rows_at k rows) (omega (arith, group_is)) in
        ap (put_row n r) (next_blank inside u) ∙ put_blank n r (row-length r fr) u
        ∙ ap (rows_block k) (sym (group_more ∙ ap (λ (x : List Row). x ++ (r ∷ [])) e)))
        (λ f.
        ap (put_row n r) (next_used inside (eqb-false (n % cells_per_block) 0 f))
        ∙ put-rows n r (row-length r fr) k (rows_at k rows) (group_fits rows fit k) group_is
        ∙ ap (rows_block k) (sym group_more))
      where
        empty : (xs : List Row) → length xs ≡ 0 → xs ≡ []
        empty [] e = refl
        empty (x ∷ xs) e = absurd (omega arith)

    middle : put_row n r (block_at k buffer) ≡ block_at k buffer2
    middle = put_is ∙ sym (used-block more m more-fits more_few k (omega arith) (omega (arith, more-length)))

    after_same : (j : ℕ) → suc k ≤ j → j < suc k + (m - suc k)
        → part (block_length * j) block_length buffer2 ≡ part (block_length * j) block_length buffer
    after_same j l h =
        free_block more m more-fits more_few j (omega (arith, more-length)) (omega (arith, more-length))
        ∙ sym (free_block rows m fit fits j (omega arith) (omega arith))

    -- what stands behind block k
    behind : (xs : List ℕ) → length xs ≡ block_length * m
        → flatten (map (λ j. part (block_length * j) block_length xs) (up_from (suc k) (m - suc k)))
        ≡ drop (block_length * k + block_length) xs
    behind xs l =
        let e : block_length * suc k ≡ block_length * k + block_length = omega arith in
        pieces block_length xs (suc k) (m - suc k) ∙ ap (λ (a : ℕ). take (block_length * (m - suc k)) (drop a xs)) e
        ∙ take_all (block_length * (m - suc k)) (drop (block_length * k + block_length) xs)
        (omega (arith, length-drop (block_length * k + block_length) xs))

    back : drop (block_length * k + block_length) buffer2 ≡ drop (block_length * k + block_length) buffer
    back =
        sym (behind buffer2 (buffer-length more m more-fits more_few))
        ∙ ap flatten
        (map_same (λ j. part (block_length * j) block_length buffer2)
        (λ j. part (block_length * j) block_length buffer) (suc k) (m - suc k) after_same)
        ∙ behind buffer (buffer-length rows m fit fits)

    split : (xs : List ℕ) → take (block_length * k) xs ++ block_at k xs ++ drop (block_length * k + block_length) xs
        ≡ xs
    split xs =
        append_assoc (take (block_length * k) xs) (block_at k xs) (drop (block_length * k + block_length) xs)
        ∙ ap (λ (l : List ℕ). take (block_length * k) xs ++ (block_at k xs ++ l))
        (sym (drop-drop block_length (block_length * k) xs))
        ∙ ap (λ (l : List ℕ). take (block_length * k) xs ++ l)
        (take-append-drop block_length (drop (block_length * k) xs))
        ∙ take-append-drop (block_length * k) xs

    pub buffer-more : take (block_length * k) buffer ++ put_row n r (block_at k buffer)
        ++ drop (block_length * k + block_length) buffer
        ≡ buffer2
    buffer-more =
        ap₂ (λ (x y : List ℕ). x ++ y ++ drop (block_length * k + block_length) buffer) (sym front) middle
        ∙ ap (λ (y : List ℕ). take (block_length * k) buffer2 ++ block_at k buffer2 ++ y) (sym back) ∙ split buffer2

  -- ---- the two appends

  module _ (mb : m ≤ max_blocks) (r : Row) where
    whole : is_whole (length buffer) ≡ true
    whole = written_whole rows m fit fits mb

    -- the last three cases of both
    abbrev answer : Bool → Bool → Appended
    answer valid free =
        cond (not valid) (refused_append (check_of r.bytes) 0 buffer)
        (cond (not free) (refused_append (number_of ShortOutput) 0 buffer)
        (stored (buffer_of (block_length * m) (rows ++ (r ∷ [])))))

    append_is : (free : Bool) → leb (cells_per_block * (length buffer / block_length)) n ≡ not free
        → append_of buffer r ≡ answer (is_valid r.bytes) free
    unfolding append_of
    append_is free e =
        rw (written-verdict rows m fit fits mb, rows_in_lem rows m fit fits, e, buffer-length rows m fit fits)
        (go (check_of r.bytes) free)
      where
        go : (c : ℕ) (f : Bool)
            → cond (not (eqb (cond (not (eqb c 0)) c (cond (not f) (number_of ShortOutput) 0)) 0))
            (refused_append (cond (not (eqb c 0)) c (cond (not f) (number_of ShortOutput) 0)) 0 buffer)
            (stored (buffer_of (block_length * m) (rows ++ (r ∷ []))))
            ≡ cond (not (eqb c 0)) (refused_append c 0 buffer)
            (cond (not f) (refused_append (number_of ShortOutput) 0 buffer)
            (stored (buffer_of (block_length * m) (rows ++ (r ∷ [])))))
        go zero true = refl
        go zero false = refl
        go (suc c) f =
            let z : eqb (suc c) 0 ≡ false = ne_eqb (suc c) 0 (λ q. omega arith) in
            simp z

    at_out : m ≤ k → append_at_of buffer n r ≡ answer (is_valid r.bytes) false
    unfolding append_at_of
    at_out h = rw (whole, count, le-ltb k m h)

    at_in : k < m → r.time < 2 ^ 64 → append_at_of buffer n r ≡ answer (is_valid r.bytes) true
    unfolding append_at_of
    at_in h t =
        rw (whole, count, lt-ltb k m h, is_next_lem h mb)
        (by_test {X = cond (not (is_valid r.bytes)) (refused_append (check_of r.bytes) 0 buffer)
        (stored (take (block_length * k) buffer ++ put_row n r (block_at k buffer)
        ++ drop (block_length * k + block_length) buffer))
        ≡ answer (is_valid r.bytes) true} (is_valid r.bytes)
        (λ v. rw v (ap stored (buffer-more r (record { valid = v; time = t }) h)))
        (λ f. rw f))

    pub cursor_written : r.time < 2 ^ 64 → append_at_of buffer n r ≡ append_of buffer r
    cursor_written t = elim (dec_lt k m) [
      | yes h ↦ at_in h t
          ∙ sym (append_is true (lt-leb (cells_per_block * (length buffer / block_length)) n (omega (arith, count))))
      | no h ↦ at_out (omega arith)
          ∙ sym (append_is false (le-leb (cells_per_block * (length buffer / block_length)) n (omega (arith, count))))
    ]

    -- where it is answered 0, the buffer holds one row more
    pub grown : r.time < 2 ^ 64 → (append_of buffer r).number ≡ 0
        → ((verdict (append_of buffer r).buffer).number ≡ 0) × (rows_in (append_of buffer r).buffer ≡ rows ++ (r ∷ []))
    grown t z = elim (dec_lt k m) [
      | yes h ↦
          by_test {X = ((verdict (append_of buffer r).buffer).number ≡ 0)
          × (rows_in (append_of buffer r).buffer ≡ rows ++ (r ∷ []))}
          (is_valid r.bytes)
          (λ v.
          let f : Fit r = record { valid = v; time = t } in
          let is : append_of buffer r ≡ stored (buffer_of (block_length * m) (rows ++ (r ∷ []))) =
          append_is true (lt-leb (cells_per_block * (length buffer / block_length)) n (omega (arith, count)))
          ∙ ap (λ (b : Bool). answer b true) v in
          rw is (
            written-verdict (rows ++ (r ∷ [])) m (more-fits r f h) (more_few r f h) mb,
            rows_in_lem (rows ++ (r ∷ [])) m (more-fits r f h) (more_few r f h),
          ))
          (λ v.
          absurd (not-zero true v
          (append_is true (lt-leb (cells_per_block * (length buffer / block_length)) n (omega (arith, count)))) z))
      | no h ↦
          (let is = append_is false (le-leb (cells_per_block * (length buffer / block_length)) n
          (omega (arith, count))) in
          by_test {X = ((verdict (append_of buffer r).buffer).number ≡ 0)
          × (rows_in (append_of buffer r).buffer ≡ rows ++ (r ∷ []))}
          (is_valid r.bytes)
          (λ v.
          absurd (let q : 6 ≡ 0 =
          sym (ap (λ (a : Appended). a.number) (is ∙ ap (λ (b : Bool). answer b false) v)) ∙ z in
          omega arith))
          (λ v. absurd (not-zero false v is z)))
    ]
      where
        not-zero : (free : Bool) → is_valid r.bytes ≡ false
            → append_of buffer r ≡ answer (is_valid r.bytes) free → (append_of buffer r).number ≡ 0 → ⊥
        not-zero free v is q =
            eqb-false (check_of r.bytes) 0 v
            (sym (ap (λ (a : Appended). a.number) (is ∙ ap (λ (b : Bool). answer b free) v)) ∙ q)

-- ---- any archive

pub verdict_facts : (buffer : List ℕ) → (verdict buffer).number ≡ 0
    → (is_whole (length buffer) ≡ true) × (mismatch buffer ≡ None)
unfolding verdict
verdict_facts buffer e = go (is_whole (length buffer)) (mismatch buffer) e
  where
    go : (w : Bool) (f : Found) → (cond (not w) (record { number = number_of Size; position = 0 }) (found f)).number ≡ 0
        → (w ≡ true) × (f ≡ None)
    go false f q = absurd (omega arith)
    go true (At j) q = absurd (omega arith)
    go true None q = (refl, refl)

-- the number of its blocks
pub blocks_of : (buffer : List ℕ) → (verdict buffer).number ≡ 0
    → (length buffer ≡ block_length * (length buffer / block_length)) × (length buffer / block_length ≤ max_blocks)
unfolding is_whole
blocks_of buffer v =
    let b = both (eqb (length buffer % block_length) 0) _ (verdict_facts buffer v).0 in
    let e : length buffer % block_length ≡ 0 = eqb-true (length buffer % block_length) 0 b.0 in
    (omega arith, leb-true (length buffer / block_length) max_blocks b.1)

module _ (buffer : List ℕ) (v : (verdict buffer).number ≡ 0) where
  abbrev blocks : ℕ
  blocks = length buffer / block_length

  pub is_exact : buffer_of (block_length * blocks) (rows_in buffer) ≡ buffer
  is_exact = exact buffer blocks (blocks_of buffer v).0 (verdict_facts buffer v).1

  pub rows_fit : Fits (rows_in buffer)
  rows_fit = exact_fits buffer blocks (blocks_of buffer v).0 (verdict_facts buffer v).1

  pub rows_few : length (rows_in buffer) ≤ cells_per_block * blocks
  rows_few = exact_few buffer blocks (blocks_of buffer v).0 (verdict_facts buffer v).1

  pub cursor : (r : Row) → r.time < 2 ^ 64 → append_at_of buffer (length (rows_in buffer)) r ≡ append_of buffer r
  cursor r t = rw is_exact at (cursor_written (rows_in buffer) blocks rows_fit rows_few (blocks_of buffer v).1 r t)

  pub appended : (r : Row) → r.time < 2 ^ 64 → (append_of buffer r).number ≡ 0
      → ((verdict (append_of buffer r).buffer).number ≡ 0)
      × (rows_in (append_of buffer r).buffer ≡ rows_in buffer ++ (r ∷ []))
  appended r t z =
      let g : (append_of (buffer_of (block_length * blocks) (rows_in buffer)) r).number ≡ 0
      → ((verdict (append_of (buffer_of (block_length * blocks) (rows_in buffer)) r).buffer).number ≡ 0)
      × (rows_in (append_of (buffer_of (block_length * blocks) (rows_in buffer)) r).buffer ≡ rows_in buffer ++ (r ∷ []))
      = grown (rows_in buffer) blocks rows_fit rows_few (blocks_of buffer v).1 r t in
      (rw is_exact at g) z

-- a row that is refused leaves the buffer as it was
pub append_kept : (buffer : List ℕ) (r : Row) → ((append_of buffer r).number ≡ 0 → ⊥)
    → (append_of buffer r).buffer ≡ buffer
unfolding append_of
append_kept buffer r h =
    go (not (eqb (verdict buffer).number 0)) (not (eqb (row_number buffer r) 0)) h
  where
    go : (a b : Bool)
        → ((cond a (refused_append (verdict buffer).number (verdict buffer).position buffer)
        (cond b (refused_append (row_number buffer r) 0 buffer)
        (stored (buffer_of (length buffer) (rows_in buffer ++ (r ∷ [])))))).number
        ≡ 0
        → ⊥)
        → (cond a (refused_append (verdict buffer).number (verdict buffer).position buffer)
        (cond b (refused_append (row_number buffer r) 0 buffer)
        (stored (buffer_of (length buffer) (rows_in buffer ++ (r ∷ [])))))).buffer
        ≡ buffer
    go true b n = refl
    go false true n = refl
    go false false n = absurd (n refl)
