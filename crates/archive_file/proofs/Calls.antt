use Rattle.std.specs.Prelude.{Result, Ok, Err, None, ⊤}
-- The calls over a whole buffer: the cases of `feed_of`, `open_of`, `append_at_of`, `row_at_of` and `append_of`, each from the facts that its tests give.
use Prim.Native.Nat.{ℕ, ◌+◌, ◌-◌, ◌*◌, ◌/◌, ◌%◌, ◌^◌, ◌≤◌, ◌<◌}
use native.Mathlib.Omega.{arith}
use mathlib.Core.Path.{◌≡◌, refl, sym, ap, ap₂, ◌∙◌}
use mathlib.Core.Bool.{Bool, true, false, cond, not}
use mathlib.Core.List.{List, ◌++◌, append_assoc}
use lib.Dec.{eqb}
use lib.ListN.{length, take, drop, take-append-drop}
use lib.Seq.{drop-drop}
use borrow.Author.Tests.{eqb-true, leb-true, eq-eqb, ne_eqb, lt-ltb, le-ltb, le-leb, lt-leb}
use Rattle.base_lists.proofs.Choice.{both}
use Rattle.base_refusal.specs.Number.{number_of}
use Rattle.base_refusal.specs.declared.Refusal.{Refusal}
use Rattle.base_refusal.specs.declared.Refusal.TheVariants.{ShortOutput, Argument, NotAccepted, Mismatch, Size}
use Rattle.base_refusal.proofs.Numbers.{refused-number}
use Rattle.radio_erp1.specs.Subtelegram.{check_of, is_valid}
use Rattle.base_buffers.specs.Buffer.{part}
use Rattle.block_layout.specs.Block.{cells_per_block, block_length}
use Rattle.base_buffers.proofs.Segments.{part_length}
use Rattle.archive_model.specs.Row.{Row}
use Rattle.archive_model.specs.Buffer.{Found, At, None, max_blocks, max_rows, is_whole, blocks_in, rows_in, mismatch, Scan, scan_blocks}
use Rattle.archive_model.specs.Append.{Opening, Appended, Feeding, refused_append, stored, found, verdict, open_of, is_next, block_at, put_row, put_row_of, append_of, append_at_of, is_stage, is_scan, feed_of, row_at_of}
use Rattle.archive_model.proofs.Cursor.{cursor}
use Rattle.archive_file.specs.Archive.{open_result, append_result, open_found}
use Rattle.archive_file.specs.Private.{no_row_for, row_in_block}
use Rattle.archive_file.specs.declared.ArchiveError.{ArchiveError}

-- ---- a piece

pub scan_many : (s : Scan) → max_blocks < s.blocks → false ≡ is_scan s
scan_many s h = rw (lt-leb s.blocks max_blocks h)

pub scan_over : (s : Scan) → s.blocks ≤ max_blocks → cells_per_block * s.blocks < s.rows → false ≡ is_scan s
scan_over s h o = rw (le-leb s.blocks max_blocks h, lt-leb s.rows (cells_per_block * s.blocks) o)

pub scan-stage : (s : Scan) → s.blocks ≤ max_blocks → s.rows ≤ cells_per_block * s.blocks
    → is_stage s.stage s.blocks s.rows ≡ is_scan s
scan-stage s h o = rw (le-leb s.blocks max_blocks h, le-leb s.rows (cells_per_block * s.blocks) o)

module _ (s : Scan) (piece : List ℕ) where
  abbrev kept : Refusal → Feeding
  kept why = record { number = number_of why; next = s }

  pub feed-not : is_scan s ≡ false → kept NotAccepted ≡ feed_of s piece
  unfolding feed_of
  feed-not h = rw h

  module _ (yes : is_scan s ≡ true) where
    pub feed_odd : (length piece % block_length ≡ 0 → ⊥) → kept Size ≡ feed_of s piece
    unfolding feed_of
    feed_odd h = rw (yes, ne_eqb (length piece % block_length) 0 h)

    module _ (whole : length piece % block_length ≡ 0) where
      pub feed_many : max_blocks < s.blocks + length piece / block_length → kept Size ≡ feed_of s piece
      unfolding feed_of
      feed_many h =
          rw (
            yes,
            eq-eqb (length piece % block_length) 0 whole,
            lt-leb (s.blocks + length piece / block_length) max_blocks h,
          )

      pub feed-done : s.blocks + length piece / block_length ≤ max_blocks
          → (next : Scan) → next ≡ scan_blocks s (blocks_in piece)
          → record { number = 0; next = next } ≡ feed_of s piece
      unfolding feed_of
      feed-done h next e =
          rw (
            yes,
            eq-eqb (length piece % block_length) 0 whole,
            le-leb (s.blocks + length piece / block_length) max_blocks h,
            e,
          )

-- ---- a buffer

pub whole_facts : (n : ℕ) → is_whole n ≡ true → (n % block_length ≡ 0) × (n / block_length ≤ max_blocks)
unfolding is_whole
whole_facts n h =
    let b = both (eqb (n % block_length) 0) _ h in
    (eqb-true (n % block_length) 0 b.0, leb-true (n / block_length) max_blocks b.1)

module _ (buffer : List ℕ) where
  pub open_size : is_whole (length buffer) ≡ false
      → record { number = number_of Size; position = 0; rows = 0 } ≡ open_of buffer
  unfolding open_of verdict
  open_size h = rw h

  pub open_whole : is_whole (length buffer) ≡ true → (n : ℕ)
      → (mismatch buffer ≡ None → n ≡ length (rows_in buffer)) → open_found (mismatch buffer) n ≡ open_of buffer
  unfolding open_of verdict
  open_whole h n rows = go (mismatch buffer) refl
    where
      go : (f : Found) → mismatch buffer ≡ f
          → open_found f n ≡ record {
            number =
                (cond (not (is_whole (length buffer)))
                (record { number = number_of Size; position = 0 }) (found f)).number;
            position =
                (cond (not (is_whole (length buffer)))
                (record { number = number_of Size; position = 0 }) (found f)).position;
            rows =
                cond
                (eqb (cond (not (is_whole (length buffer)))
                (record { number = number_of Size; position = 0 }) (found f)).number
                0)
                (length (rows_in buffer)) 0;
          }
      go (At k) e = rw h
      go None e = rw (h, rows e)

-- ---- a row at the cursor

module _ (buffer : List ℕ) (n : ℕ) (r : Row) where
  abbrev k : ℕ
  k = n / cells_per_block

  abbrev block : List ℕ
  block = block_at k buffer

  pub at_size : is_whole (length buffer) ≡ false → refused_append (number_of Size) 0 buffer ≡ append_at_of buffer n r
  unfolding append_at_of
  at_size h = rw h

  module _ (whole : is_whole (length buffer) ≡ true) where
    pub at_out : length buffer / block_length ≤ k
        → cond (not (is_valid r.bytes)) (refused_append (check_of r.bytes) 0 buffer)
        (refused_append (number_of ShortOutput) 0 buffer)
        ≡ append_at_of buffer n r
    unfolding append_at_of
    at_out h = rw (whole, le-ltb k (length buffer / block_length) h)

    module _ (inside : k < length buffer / block_length) where
      -- the buffer with its block replaced
      abbrev with : List ℕ → List ℕ
      with ys =
          take (block_length * k) buffer
          ++ (ys ++ drop (block_length * k + block_length - block_length * k) (drop (block_length * k) buffer))

      abbrev replaced : Appended → Appended
      replaced a = record { number = a.number; position = a.position; buffer = with a.buffer }

      span : block_length * k + block_length - block_length * k ≡ block_length
      span = omega arith

      with_same : with block ≡ buffer
      with_same =
          rw span
          (ap (λ (l : List ℕ). take (block_length * k) buffer ++ l)
          (take-append-drop block_length (drop (block_length * k) buffer))
          ∙ take-append-drop (block_length * k) buffer)

      with_new : (ys : List ℕ)
          → with ys ≡ take (block_length * k) buffer ++ ys ++ drop (block_length * k + block_length) buffer
      with_new ys =
          rw (span, drop-drop block_length (block_length * k) buffer)
          (sym (append_assoc (take (block_length * k) buffer) ys (drop (block_length * k + block_length) buffer)))

      replaced_is : (out : (Result ⊤ ArchiveError)) (ys : List ℕ)
          → append_result out (with ys) ≡ replaced (append_result out ys)
      replaced_is (Ok tt) ys = refl
      replaced_is (Err (ArchiveError.Damaged j)) ys = refl
      replaced_is (Err (ArchiveError.Refused why)) ys = refl

      block-long : length block ≡ block_length
      block-long = part_length (block_length * k) block_length buffer (omega arith)

      near : n < max_rows
      near = omega (arith, (whole_facts (length buffer) whole).1)

      put_is : replaced (put_row_of block n r) ≡ append_at_of buffer n r
      unfolding put_row_of append_at_of
      put_is =
          rw (
            whole,
            lt-ltb k (length buffer / block_length) inside,
            eq-eqb (length block) block_length block-long,
            lt-ltb n max_rows near,
          )
          (by_next (is_next n block) (is_valid r.bytes))
        where
          by_next : (a b : Bool)
              → replaced (cond (not a) (refused_append (number_of Mismatch) k block)
              (cond (not b) (refused_append (check_of r.bytes) 0 block) (stored (put_row n r block))))
              ≡ cond (not a) (refused_append (number_of Mismatch) k buffer)
              (cond (not b) (refused_append (check_of r.bytes) 0 buffer)
              (stored (take (block_length * k) buffer ++ put_row n r block
              ++ drop (block_length * k + block_length) buffer)))
          by_next false b = ap (refused_append (number_of Mismatch) k) with_same
          by_next true false = ap (refused_append (check_of r.bytes) 0) with_same
          by_next true true = ap stored (with_new (put_row n r block))

      pub at_put : (out : (Result ⊤ ArchiveError)) (ys : List ℕ)
          → append_result out ys
          ≡ put_row_of (part (block_length * k) (block_length * k + block_length - block_length * k) buffer) n r
          → append_result out (with ys) ≡ append_at_of buffer n r
      at_put out ys e =
          replaced_is out ys
          ∙ ap replaced (e ∙ ap (λ (w : ℕ). put_row_of (part (block_length * k) w buffer) n r) span) ∙ put_is

-- ---- a row as it stands

module _ (buffer : List ℕ) (i : ℕ) where
  pub row-size : is_whole (length buffer) ≡ false → no_row_for Size ≡ row_at_of buffer i
  unfolding row_at_of
  row-size h = rw h

  module _ (whole : is_whole (length buffer) ≡ true) where
    pub row_out : length buffer / block_length ≤ i / cells_per_block → no_row_for Argument ≡ row_at_of buffer i
    unfolding row_at_of
    row_out h = rw (whole, le-ltb (i / cells_per_block) (length buffer / block_length) h)

    pub row_in : i / cells_per_block < length buffer / block_length
        → row_in_block (block_at (i / cells_per_block) buffer) (i % cells_per_block) ≡ row_at_of buffer i
    unfolding row_at_of
    row_in h = rw (whole, lt-ltb (i / cells_per_block) (length buffer / block_length) h)

-- ---- what `open` told

module _ (buffer : List ℕ) where
  pub opened_rows : (n : ℕ) → open_result (Ok n) ≡ open_of buffer
      → ((verdict buffer).number ≡ 0) × (n ≡ length (rows_in buffer))
  unfolding open_of
  opened_rows n e =
      let v : (verdict buffer).number ≡ 0 = sym (ap (λ (o : Opening). o.number) e) in
      (v, ap (λ (o : Opening). o.rows) e ∙ (rw (eq-eqb (verdict buffer).number 0 v)))

  opened-not : (number position : ℕ) → (number ≡ 0 → ⊥)
      → record { number = number; position = position; rows = 0 } ≡ open_of buffer
      → (number ≡ (verdict buffer).number) × (position ≡ (verdict buffer).position)
      × (eqb (verdict buffer).number 0 ≡ false)
  unfolding open_of
  opened-not number position h e =
      let n : number ≡ (verdict buffer).number = ap (λ (o : Opening). o.number) e in
      (n, ap (λ (o : Opening). o.position) e, ne_eqb (verdict buffer).number 0 (λ z. h (n ∙ z)))

  pub opened-refused : (why : Refusal) → open_result (Err (ArchiveError.Refused why)) ≡ open_of buffer
      → (number_of why ≡ (verdict buffer).number) × (0 ≡ (verdict buffer).position)
      × (eqb (verdict buffer).number 0 ≡ false)
  opened-refused why e = opened-not (number_of why) 0 (refused-number why) e

  pub opened-damaged : (k : ℕ) → open_result (Err (ArchiveError.Damaged k)) ≡ open_of buffer
      → (number_of Mismatch ≡ (verdict buffer).number) × (k ≡ (verdict buffer).position)
      × (eqb (verdict buffer).number 0 ≡ false)
  opened-damaged k e = opened-not (number_of Mismatch) k (refused-number Mismatch) e

-- ---- a row appended to an archive that was opened

module _ (buffer : List ℕ) (r : Row) where
  -- what is refused by the verdict
  append_not : (number position : ℕ)
      → (number ≡ (verdict buffer).number) × (position ≡ (verdict buffer).position)
      × (eqb (verdict buffer).number 0 ≡ false)
      → refused_append number position buffer ≡ append_of buffer r
  unfolding append_of
  append_not number position v = rw v.2 (ap₂ (λ (x y : ℕ). refused_append x y buffer) v.0 v.1)

  pub append_error : (e : ArchiveError) → open_result (Err e) ≡ open_of buffer
      → append_result (Err e) buffer ≡ append_of buffer r
  append_error (ArchiveError.Damaged k) e = append_not (number_of Mismatch) k (opened-damaged buffer k e)
  append_error (ArchiveError.Refused why) e = append_not (number_of why) 0 (opened-refused buffer why e)

  pub append_rows : (n : ℕ) → open_result (Ok n) ≡ open_of buffer
      → r.time < 2 ^ 64 → append_at_of buffer n r ≡ append_of buffer r
  append_rows n e t =
      let o = opened_rows buffer n e in
      ap (λ (i : ℕ). append_at_of buffer i r) o.1 ∙ cursor buffer o.0 r t
