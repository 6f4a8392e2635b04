-- The entries in the flat arrays of a state, and their cells.
--     entries-length, entry_read     how many entries a stretch has, and each of them
--     cell-read                      the cell of an entry
--     entries-part                   the share of the entries that a block has
--     block_written                  a block of these cells is block k
--     writable-part                  what the writer of a block passes on
--     writable-state                 an acceptable state can be written
use Prim.Native.Nat.{ℕ, ◌+◌, ◌-◌, ◌*◌, ◌≤◌, ◌<◌, min}
use native.Mathlib.Nat.{zero-add}
use native.Mathlib.Omega.{arith}
use mathlib.Core.Path.{◌≡◌, sym, ap, ◌∙◌}
use mathlib.Core.Bool.{true}
use mathlib.Core.List.{List, [], map}
use lib.Dec.{leb}
use lib.ListN.{length, get_or, length-map, length-take, length-drop}
use lib.Seq.{ext_get_or}
use borrow.Author.Tests.{leb-true}
use Rattle.base_lists.specs.Lists.{all, up_from}
use Rattle.base_lists.proofs.Choice.{both}
use Rattle.base_lists.proofs.Tests.{all_get_d, get_d_map}
use Rattle.base_lists.proofs.UpFrom.{length-up_from, get_d_up_from}
use Rattle.radio_erp1.specs.Subtelegram.{max_length}
use Rattle.base_buffers.specs.Buffer.{part}
use Rattle.collector_model.specs.Header.{header_of}
use Rattle.block_layout.specs.Block.{cells_per_block, block_of}
use Rattle.base_buffers.proofs.Segments.{part_at}
use Rattle.base_buffers.proofs.Buffer.{resized-length}
use Rattle.collector_model.specs.View.{Entry, capacity}
use Rattle.collector_model.specs.Acceptable.{is_entry, acceptable}
use Rattle.collector_model.specs.Image.{entry_cell, image_block}
use Rattle.collector_model.proofs.Check.{valid-length}
use Rattle.collector_model.proofs.Invariant.{entry-valid}
use Rattle.collector_state.specs.declared.Summary.{Summary}
use Rattle.collector_state.specs.Collector.{Columns, entry_at, entries_at, view_in}
use Rattle.collector_checkpoint.specs.Private.{block_count, entries_from, block_with, Writable}
use Rattle.collector_state.proofs.Arrays as arrays
use Rattle.collector_state.proofs.Arrays.{no_entry, entry_get}

module _ (a : Columns) where
  pub entries-length : (first n : ℕ) → length (entries_from a first n) ≡ n
  unfolding entries_from
  entries-length first n = length-map (up_from first n) (entry_at a) ∙ length-up_from first n

  pub entry_read : (first n i : ℕ) → i < n → get_or (entries_from a first n) i no_entry ≡ entry_at a (first + i)
  unfolding entries_from
  entry_read first n i h = get_d_up_from (entry_at a) first n i no_entry h

  pub cell_read : (first n i : ℕ) → i < n
      → get_or (map entry_cell (entries_from a first n)) i [] ≡ entry_cell (entry_at a (first + i))
  cell_read first n i h =
      get_d_map entry_cell (entries_from a first n) i no_entry [] (rw entries-length h)
      ∙ ap entry_cell (entry_read first n i h)

  pub entries-part : (first n count : ℕ)
      → part first n (entries_at a count) ≡ entries_from a first (min n (count - first))
  unfolding entries_at entries_from
  entries-part first n count =
      let f = entry_at a in
      let l : length (part first n (map f (up_from 0 count))) ≡ min n (count - first) =
      simp (length-take, length-drop, length-map, length-up_from) in
      ext_get_or no_entry (part first n (map f (up_from 0 count))) (map f (up_from first (min n (count - first))))
      (l ∙ sym (length-map (up_from first (min n (count - first))) f ∙ length-up_from first (min n (count - first))))
      (λ i h.
      part_at first n (map f (up_from 0 count)) i no_entry (omega arith)
      ∙ get_d_up_from f 0 count (first + i) no_entry (omega arith) ∙ ap f (zero-add (first + i))
      ∙ sym (get_d_up_from f first (min n (count - first)) i no_entry (omega arith)))

  pub block_written : (k x y count n : ℕ) → n ≡ min cells_per_block (count - cells_per_block * k)
      → block_of (header_of k n x y) (map entry_cell (entries_from a (cells_per_block * k) n))
      ≡ block_with k x y (entries_at a count)
  unfolding image_block
  block_written k x y count n e =
      rw (
        e,
        entries-part (cells_per_block * k) cells_per_block count,
        entries-length (cells_per_block * k) (min cells_per_block (count - cells_per_block * k)),
      )

pub writable_part : (lens : List ℕ) (k count : ℕ) → k < block_count → Writable lens 0 count
    → Writable lens (cells_per_block * k) (min cells_per_block (count - cells_per_block * k))
writable_part lens k count h w = record {
  bound = omega (arith, w.bound);
  short = λ i l. rw zero-add at (w.short (cells_per_block * k + i) (omega arith));
}

-- an acceptable state can be written
module _ (a : Columns) (s : Summary) (ok : acceptable (view_in a s) ≡ true) where
  abbrev held : List Entry
  held = entries_at a s.count

  held-length : length held ≡ s.count
  held-length = arrays.entries-length a s.count

  -- the tests of its entries
  few_each : (length held ≤ capacity) × (all (is_entry s.latest) held ≡ true)
  unfolding acceptable
  few_each =
      let b = both (leb (length held) capacity) _ ok in
      (leb-true (length held) capacity b.0, (both (all (is_entry s.latest) held) _ b.1).0)

  short : (i : ℕ) → i < s.count → get_or a.lens i 0 ≤ max_length
  short i h =
      let valid =
      entry-valid s.latest (get_or held i no_entry)
      (all_get_d (is_entry s.latest) held i no_entry few_each.1 (omega (arith, held-length))) in
      rw (entry_get a s.count i h, resized-length (get_or a.lens i 0) (part (max_length * i) max_length a.bytes))
      at
      (valid-length (get_or held i no_entry).bytes valid)

  pub writable_state : Writable a.lens 0 s.count
  writable_state = record {
    bound = omega (arith, held-length, few_each.0);
    short = λ i h. rw zero-add (short i h);
  }
