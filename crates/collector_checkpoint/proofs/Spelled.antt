-- An image that is accepted is what is written of the view that it says: so its cell of an entry has the bytes, and zeros behind them.
--     spelled     the columns that it spells are those that hold its entries
use Prim.Native.Nat.{ℕ, ◌-◌, ◌*◌, ◌≤◌, ◌<◌}
use native.Mathlib.Nat.{zero-add}
use native.Mathlib.Omega.{arith}
use mathlib.Core.Path.{◌≡◌, refl, sym, ap, ap₂, ◌∙◌}
use mathlib.Core.Bool.{true}
use mathlib.Core.List.{List, [], ◌++◌, map, flatten, map-map}
use lib.ListN.{length, get_or, drop, replicate, length-map}
use Rattle.base_lists.specs.Lists.{equal, padded, up_from}
use Rattle.base_lists.proofs.Equal.{equal_eq}
use Rattle.base_lists.proofs.Padded.{drop-replicate}
use Rattle.base_lists.proofs.Tests.{all_get_d, get_d_map}
use Rattle.base_lists.proofs.UpFrom.{length-up_from, get_d_up_from, map_same}
use Rattle.radio_erp1.specs.Subtelegram.{max_length}
use Rattle.block_layout.specs.Cell.{cell_capacity, cell_time, cell_used, cell_field, cell_bytes, cell_last}
use Rattle.base_buffers.proofs.Segments.{flatten-length}
use Rattle.base_buffers.proofs.Buffer.{padded-length, resized-length}
use Rattle.block_layout.proofs.Cell.{cell_field_lem}
use Rattle.collector_model.specs.View.{Entry, capacity}
use Rattle.collector_model.specs.Acceptable.{is_entry, acceptable}
use Rattle.collector_model.specs.Image.{entry_cell, image_with, setting_in, count_in, entry_in, parse}
use Rattle.collector_model.proofs.Check.{valid-length}
use Rattle.collector_model.proofs.Image.{cell_written}
use Rattle.collector_model.proofs.Invariant.{entry-valid}
use Rattle.collector_state.proofs.Accepting.{accepted_few, accepted-each}
use Rattle.collector_model.proofs.Copies.{no_entry}
use Rattle.collector_state.specs.Collector.{columns_holding}
use Rattle.collector_checkpoint.specs.Private.{cell_in, columns_over, image_columns}

-- zeros behind a list
filled : (m k : ℕ) (xs ys : List ℕ) → xs ≡ ys → length ys ≡ k → xs ++ drop k (replicate m 0) ≡ padded m ys
filled m k xs ys e l = ap₂ ◌++◌ e (drop-replicate k m 0 ∙ ap (λ (j : ℕ). replicate (m - j) 0) (sym l))

module _ (image : List ℕ) (ok : acceptable (parse image) ≡ true)
    (same : equal (image_with (setting_in image) (parse image)) image ≡ true) where
  abbrev n : ℕ
  n = count_in image

  said-length : length (parse image).entries ≡ n
  unfolding parse
  said-length = length-map (up_from 0 n) (entry_in image) ∙ length-up_from 0 n

  said_at : (i : ℕ) → i < n → get_or (parse image).entries i no_entry ≡ entry_in image i
  unfolding parse
  said_at i h = get_d_up_from (entry_in image) 0 n i no_entry h ∙ ap (entry_in image) (zero-add i)

  short : (i : ℕ) → i < length (parse image).entries
      → length (get_or (parse image).entries i no_entry).bytes ≤ cell_capacity
  short i h =
      valid-length (get_or (parse image).entries i no_entry).bytes
      (entry-valid (parse image).latest (get_or (parse image).entries i no_entry)
      (all_get_d (is_entry (parse image).latest) (parse image).entries i no_entry (accepted-each (parse image) ok) h))

  short_in : (i : ℕ) → i < n → length (entry_in image i).bytes ≤ cell_capacity
  short_in i h = rw (said_at i h) at (short i (omega (arith, said-length)))

  cell_said : (i : ℕ) → i < n → cell_in image i ≡ entry_cell (entry_in image i)
  cell_said i h =
      ap (λ (l : List ℕ). cell_in l i) (sym (equal_eq (image_with (setting_in image) (parse image)) image (rw same tt)))
      ∙ cell_written (setting_in image) (parse image) short i
      (omega (arith, said-length)) (omega (arith, accepted_few (parse image) ok))
      ∙ ap entry_cell (said_at i h)

  field_said : (i : ℕ) → i < n → cell_field (cell_in image i) ≡ padded max_length (entry_in image i).bytes
  field_said i h =
      let e = entry_in image i in
      ap cell_field (cell_said i h) ∙ cell_field_lem e.time e.bytes e.copies (short_in i h)

  used-said : (i : ℕ) → cell_used (cell_in image i) ≡ length (entry_in image i).bytes
  unfolding entry_in cell_bytes
  used-said i = sym (resized-length (cell_used (cell_in image i)) (cell_field (cell_in image i)))

  -- what is said of each entry
  module _ {A : Type 0} (f : Entry → A) (g : ℕ → A) (agrees : (i : ℕ) → i < n → g i ≡ f (entry_in image i)) where
    each-said : map g (up_from 0 n) ≡ map f (parse image).entries
    unfolding parse
    each-said =
        map_same g (λ i. f (entry_in image i)) 0 n (λ i _ h. agrees i (omega (arith, h)))
        ∙ sym (map-map f (entry_in image) (up_from 0 n))

  number-said : (f : Entry → ℕ) (g : ℕ → ℕ) → ((i : ℕ) → i < n → g i ≡ f (entry_in image i))
      → map g (up_from 0 n) ++ drop n (replicate capacity 0) ≡ padded capacity (map f (parse image).entries)
  number-said f g agrees =
      filled capacity n (map g (up_from 0 n)) (map f (parse image).entries)
      (each-said f g agrees) (length-map (parse image).entries f ∙ said-length)

  abbrev fields : List (List ℕ)
  fields = map (λ e. padded max_length e.bytes) (parse image).entries

  fields-length : length (flatten fields) ≡ max_length * n
  fields-length =
      flatten-length max_length fields
      (λ i h.
      let l : i < length (parse image).entries =
      rw (length-map (parse image).entries (λ e. padded max_length e.bytes)) at h in
      ap length (get_d_map (λ (e : Entry). padded max_length e.bytes) (parse image).entries i no_entry [] l)
      ∙ padded-length max_length (get_or (parse image).entries i no_entry).bytes (short i l))
      ∙ ap (λ (k : ℕ). max_length * k)
      (length-map (parse image).entries (λ e. padded max_length e.bytes) ∙ said-length)

  pub spelled : image_columns image ≡ columns_holding (parse image).entries
  unfolding columns_over columns_holding entry_in flatten
  spelled = λ j. record {
    times = number-said (λ e. e.time) (λ i. cell_time (cell_in image i)) (λ i _. refl) j;
    lens = number-said (λ e. length e.bytes) (λ i. cell_used (cell_in image i)) (λ i _. used-said i) j;
    bytes =
        filled (capacity * max_length) (max_length * n)
        (flatten (map (λ i. cell_field (cell_in image i)) (up_from 0 n))) (flatten fields)
        (ap flatten
        (each-said (λ (e : Entry). padded max_length e.bytes) (λ i. cell_field (cell_in image i)) field_said))
        fields-length j;
    copies = number-said (λ e. e.copies) (λ i. cell_last (cell_in image i)) (λ i _. refl) j;
  }
