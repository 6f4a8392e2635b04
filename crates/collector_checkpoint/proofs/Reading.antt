-- What is read of an image into the flat arrays of a state.
--     block-long                        a block has 512 bytes
--     Reading                           the first i entries are read
--     reading-none, reading-more        at the start, and after a turn of the loop
--     reading-all                       what the arrays then say
use Prim.Native.Nat.{ℕ, ◌+◌, ◌-◌, ◌*◌, ◌/◌, ◌%◌, ◌≤◌, ◌<◌}
use native.Mathlib.Nat.{zero-add}
use native.Mathlib.Numerals.{add-one}
use native.Mathlib.Omega.{arith}
use mathlib.Core.Path.{◌≡◌, refl, sym, ap, ap₂, ◌∙◌}
use mathlib.Core.List.{List, [], ◌++◌, map, flatten}
use lib.ListN.{length, get_or, take, drop, set, length-map, get_or-append}
use lib.Seq.{take-suc, take_all, ext_get_or}
use Rattle.base_lists.specs.Lists.{up_from}
use Rattle.base_lists.proofs.UpFrom.{length-up_from, get_d_up_from}
use Rattle.radio_erp1.specs.Subtelegram.{max_length}
use Rattle.base_buffers.specs.Buffer.{part, resized}
use Rattle.block_layout.specs.Cell.{cell_length, cell_time, cell_used, cell_field, cell_bytes, cell_last}
use Rattle.block_layout.specs.Block.{header_length, block_length}
use Rattle.base_buffers.proofs.Segments.{part_length, left, Each, flatten-length, flatten-part, Begun, begin, named, store, lent, turn, turned}
use Rattle.base_buffers.proofs.Buffer.{resized_whole}
use Rattle.collector_model.specs.View.{capacity}
use Rattle.collector_model.specs.Image.{image_length, block_in, entry_in}
use Rattle.collector_state.specs.Collector.{Columns, entry_at, entries_at}
use Rattle.collector_state.proofs.Arrays.{no_entry}
use Rattle.collector_checkpoint.specs.Private.{block_count, cell_in, columns_over, entries_in, Reads}

pub block-long : (image : List ℕ) (k : ℕ) → length image ≡ image_length
    → k < block_count → length (block_in k image) ≡ block_length
block-long image k l h = part_length (block_length * k) block_length image (omega arith)

-- ---- something of each of the first n entries

module _ {A : Type 0} (f : ℕ → A) where
  row : ℕ → List A
  row n = map f (up_from 0 n)

  row-length : (n : ℕ) → length (row n) ≡ n
  unfolding row
  row-length n = length-map (up_from 0 n) f ∙ length-up_from 0 n

  row_at : (n i : ℕ) (d : A) → i < n → get_or (row n) i d ≡ f i
  unfolding row
  row_at n i d h = get_d_up_from f 0 n i d h ∙ ap f (zero-add i)

-- a turn of a loop that stores one element after the other
stored : {A : Type 0} (orig all : List A) (i : ℕ) (xs : List A) (v d : A)
    → Begun orig (take i all) i xs → i < length all → i < length orig → v ≡ get_or all i d
    → Begun orig (take (i + 1) all) (i + 1) (set xs i v)
stored orig all i xs v d b l h e = named (store b v h) (take (i + 1) all) (rw (e, add-one) (sym (take-suc all i d l)))

-- an element of what is stored
stored_at : {A : Type 0} (orig all : List A) (n : ℕ) (xs : List A) (i : ℕ) (d : A)
    → Begun orig (take n all) n xs → length all ≡ n → i < n → get_or xs i d ≡ get_or all i d
stored_at orig all n xs i d b l h =
    let k : length all ≤ n = omega arith in
    ap (λ (ys : List _). get_or ys i d) (b.is ∙ ap (λ (ys : List _). ys ++ drop n orig) (take_all n all k))
    ∙ get_or-append all (drop n orig) d i (omega arith)

-- ---- the columns

module _ (image : List ℕ) where
  -- of entry i
  abbrev time_of : ℕ → ℕ
  time_of i = cell_time (cell_in image i)

  abbrev len_of : ℕ → ℕ
  len_of i = cell_used (cell_in image i)

  abbrev count_of : ℕ → ℕ
  count_of i = cell_last (cell_in image i)

  abbrev field_of : ℕ → List ℕ
  field_of i = cell_field (cell_in image i)

  -- of the first n
  pub times_of : ℕ → List ℕ
  times_of n = row time_of n

  pub lens_of : ℕ → List ℕ
  lens_of n = row len_of n

  pub counts_of : ℕ → List ℕ
  counts_of n = row count_of n

  pub fields_of : ℕ → List (List ℕ)
  fields_of n = row field_of n

-- of the first `count` entries i are read, into columns that were a₀
pub record Reading (image : List ℕ) (count : ℕ) (a₀ : Columns) (i : ℕ) (a : Columns) : Type 0 where
  pub bounded : i ≤ count
  pub times : Begun a₀.times (take i (times_of image count)) i a.times
  pub lens : Begun a₀.lens (take i (lens_of image count)) i a.lens
  pub bytes : Begun a₀.bytes (flatten (take i (fields_of image count))) (max_length * i) a.bytes
  pub copies : Begun a₀.copies (take i (counts_of image count)) i a.copies

module _ (image : List ℕ) (count : ℕ) (long : length image ≡ image_length) (few : count ≤ capacity) where
  field_long : (i : ℕ) → i < capacity → length (field_of image i) ≡ max_length
  field_long i h =
      let l : length (cell_in image i) ≡ cell_length =
      part_length (header_length + cell_length * (i % 15)) cell_length (block_in (i / 15) image)
      (omega (arith, block-long image (i / 15) long (omega arith))) in
      part_length 9 max_length (cell_in image i) (omega arith)

  module _ (a₀ : Columns) where
    pub reading_none : Reading image count a₀ 0 a₀
    unfolding flatten
    reading_none = record {
      bounded = omega arith;
      times = begin a₀.times;
      lens = begin a₀.lens;
      bytes = begin a₀.bytes;
      copies = begin a₀.copies;
    }

    module _ (i : ℕ) (a : Columns) (r : Reading image count a₀ i a) where
      -- what is read of the cell, and what is kept, the part's length
      pub reading-more : (t n m : ℕ) (ys : List ℕ) → t ≡ cell_time (cell_in image i)
          → n ≡ cell_used (cell_in image i) → m ≡ cell_last (cell_in image i)
          → ys
          ≡ resized (length (part (max_length * i) (max_length * i + max_length - max_length * i) a.bytes))
          (cell_field (cell_in image i))
          → length ys ≡ length (part (max_length * i) (max_length * i + max_length - max_length * i) a.bytes)
          → i < count → length a₀.times ≡ capacity → length a₀.lens ≡ capacity
          → length a₀.bytes ≡ capacity * max_length → length a₀.copies ≡ capacity
          → Reading image count a₀ (i + 1) (record {
            times = set a.times i t;
            lens = set a.lens i n;
            bytes =
                take (max_length * i) a.bytes
                ++ (ys ++ drop (max_length * i + max_length - max_length * i) (drop (max_length * i) a.bytes));
            copies = set a.copies i m;
          })
      unfolding times_of lens_of counts_of fields_of
      reading-more t n m ys p q u s k h lt ll lb lc =
          let field = field_of image i in
          let size = lent r.bytes max_length (max_length * i + max_length) refl (omega arith) in
          let whole : ys ≡ field =
          s ∙ ap (λ (m : ℕ). resized m field) size ∙ resized_whole max_length field (field_long i (omega arith)) in
          record {
            bounded = omega arith;
            times =
                stored a₀.times (times_of image count) i a.times t 0 r.times
                (rw row-length h) (omega arith) (p ∙ sym (row_at (time_of image) count i 0 h));
            lens =
                stored a₀.lens (lens_of image count) i a.lens n 0 r.lens
                (rw row-length h) (omega arith) (q ∙ sym (row_at (len_of image) count i 0 h));
            copies =
                stored a₀.copies (counts_of image count) i a.copies m 0 r.copies
                (rw row-length h) (omega arith) (u ∙ sym (row_at (count_of image) count i 0 h));
            bytes =
                turn a₀.bytes (fields_of image count) max_length i a.bytes ys r.bytes
                (rw row-length h) (whole ∙ sym (row_at (field_of image) count i [] h)) k (omega arith);
          }

    -- all are read
    module _ (a : Columns) (r : Reading image count a₀ count a) where
      fields-each : Each max_length (fields_of image count)
      unfolding fields_of
      fields-each i h =
          let l : i < count = rw (row-length (field_of image) count) at h in
          ap length (row_at (field_of image) count i [] l) ∙ field_long i (omega arith)

      field_at : (i : ℕ) → i < count → part (max_length * i) max_length a.bytes ≡ field_of image i
      unfolding fields_of
      field_at i h =
          let n = row-length (field_of image) count in
          let size : length (flatten (fields_of image count)) ≡ max_length * count =
          flatten-length max_length (fields_of image count) fields-each ∙ ap (λ (m : ℕ). max_length * m) n in
          ap (λ (ys : List ℕ). part (max_length * i) max_length ys)
          (turned a₀.bytes (fields_of image count) max_length count count a.bytes r.bytes refl n).is
          ∙ left (flatten (fields_of image count)) (drop (max_length * count) a₀.bytes)
          (max_length * count) (max_length * i) max_length size (omega arith)
          ∙ flatten-part max_length (fields_of image count) fields-each i (rw row-length h)
          ∙ row_at (field_of image) count i [] h

      entry_at_lem : (i : ℕ) → i < count → entry_at a i ≡ entry_in image i
      unfolding entry_in cell_bytes times_of lens_of counts_of
      entry_at_lem i h =
          let time =
          stored_at a₀.times (times_of image count) count a.times i 0 r.times (row-length _ count) h
          ∙ row_at (time_of image) count i 0 h in
          let len =
          stored_at a₀.lens (lens_of image count) count a.lens i 0 r.lens (row-length _ count) h
          ∙ row_at (len_of image) count i 0 h in
          let copies =
          stored_at a₀.copies (counts_of image count) count a.copies i 0 r.copies (row-length _ count) h
          ∙ row_at (count_of image) count i 0 h in
          λ j. record { bytes = ap₂ resized len (field_at i h) j; time = time j; copies = copies j }

      entries_read : entries_at a count ≡ entries_in image count
      unfolding entries_at row
      entries_read =
          let f = entry_at a in
          ext_get_or no_entry (row f count) (row (entry_in image) count)
          (row-length f count ∙ sym (row-length (entry_in image) count))
          (λ i h.
          let l : i < count = rw (row-length f count) at h in
          row_at f count i no_entry l ∙ entry_at_lem i l ∙ sym (row_at (entry_in image) count i no_entry l))

      elements_read : a ≡ columns_over image count a₀
      unfolding columns_over times_of lens_of counts_of fields_of row
      elements_read =
          let all_of : (f : ℕ → ℕ) (orig xs : List ℕ) → Begun orig (take count (row f count)) count xs
          → xs ≡ row f count ++ drop count orig =
          λ f orig xs b. b.is
          ∙ ap (λ (ys : List ℕ). ys ++ drop count orig)
          (take_all count (row f count) (omega (arith, row-length f count)))
          in
          λ j. record {
            times = all_of (time_of image) a₀.times a.times r.times j;
            lens = all_of (len_of image) a₀.lens a.lens r.lens j;
            bytes =
                (turned a₀.bytes (fields_of image count) max_length count count
                a.bytes r.bytes refl (row-length (field_of image) count)).is j;
            copies = all_of (count_of image) a₀.copies a.copies r.copies j;
          }

    pub reading_all : (i : ℕ) (a : Columns) → Reading image count a₀ i a → count ≤ i → Reads image count a₀ a
    reading_all i a r h =
        let e : i ≡ count = omega (arith, r.bounded) in
        record { entries = entries_read a (rw e at r); elements = elements_read a (rw e at r) }
