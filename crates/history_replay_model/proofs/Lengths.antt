-- How long the parts of a record are, and what calls show: a checkpoint leaves an output its length, and a burst a list its places.
use Prim.Native.Nat.{ℕ, ◌+◌, ◌*◌, ◌≤◌, ◌<◌}
use native.Mathlib.Nat.{mul-suc}
use native.Mathlib.Omega.{arith}
use mathlib.Core.Path.{◌≡◌, refl, ap, ◌∙◌}
use mathlib.Core.Bool.{true, false}
use mathlib.Core.List.{List, [], ◌∷◌, map, flatten}
use lib.Dec.{leb, ltb, eqb}
use lib.ListN.{length, get_or, drop, length-append, length-map, length-take, length-drop}
use borrow.Author.Tests.{ltb-false}
use Rattle.base_lists.specs.Lists.{all}
use Rattle.base_lists.proofs.Choice.{both}
use Rattle.base_lists.proofs.Tests.{all_get_d, get_d_map, by_test}
use Rattle.radio_erp1.specs.Subtelegram.{max_length}
use Rattle.block_layout.specs.Cell.{cell_length}
use Rattle.block_layout.specs.Block.{cells_per_block, block_length}
use Rattle.block_layout.proofs.BigEndian.{be-length}
use Rattle.base_buffers.proofs.Buffer.{resized-length}
use Rattle.base_buffers.proofs.Segments.{part_at, Each}
use Rattle.block_layout.proofs.Cell.{cell_length_lem}
use Rattle.collector_model.proofs.Header.{header-length}
use Rattle.collector_model.proofs.Returns.{replies_to-length}
use Rattle.block_layout.proofs.Block.{block-length}
use Rattle.collector_model.specs.declared.Totals.{Totals}
use Rattle.collector_model.specs.View.{Reception, Entry, View, capacity}
use Rattle.collector_model.specs.Acceptable.{is_entry, acceptable}
use Rattle.collector_model.specs.Image.{image_length, entry_cell, entries_of, image_block, image_with, checkpoint_of}
use Rattle.collector_model.specs.Burst.{Replied, call_number, burst_number, taken, burst_of}
use Rattle.collector_model.proofs.Check.{valid-length}
use Rattle.collector_model.proofs.Invariant.{entry-valid}
use Rattle.history_replay_model.specs.Record.{head_of, reply_of}

-- ---- the parts of a cell

pub head_length : (operation number : ℕ) (n : Totals) → length (head_of operation number n) ≡ 50
unfolding head_of
head_length operation number n = simp (length-append, be-length)

pub reply-length : (r : Replied) → length (reply_of r) ≡ 31
unfolding reply_of
reply-length r = simp (length-append, be-length, resized-length)

pub replies-length : (l : List Replied) → length (flatten (map reply_of l)) ≡ 31 * length l
unfolding flatten
replies-length [] = refl
replies-length (r ∷ l) = simp (length-append, mul-suc, reply-length r, replies-length l) (omega arith)

-- ---- the image of an acceptable view

-- stands for an entry past the end
abbrev none : Entry
none = record { bytes = []; time = 0; copies = 0 }

module _ (v : View) (ok : acceptable v ≡ true) where
  each-entry : all (is_entry v.latest) v.entries ≡ true
  unfolding acceptable
  each-entry = (both (all (is_entry v.latest) v.entries) _ (both (leb (length v.entries) capacity) _ ok).1).0

  short : (i : ℕ) → i < length v.entries → length (get_or v.entries i none).bytes ≤ max_length
  short i h =
      let e = get_or v.entries i none in
      valid-length e.bytes
      (entry-valid v.latest e (all_get_d (is_entry v.latest) v.entries i none each-entry h))

  group_length : (k : ℕ) → length (entries_of k v) ≤ cells_per_block
  group_length k = omega (arith, length-take cells_per_block (drop (cells_per_block * k) v.entries))

  cells-long : (k : ℕ) → Each cell_length (map entry_cell (entries_of k v))
  cells-long k i h =
      let l : i < length (entries_of k v) = rw (length-map (entries_of k v) entry_cell) at h in
      let e = get_or v.entries (cells_per_block * k + i) none in
      let inside : cells_per_block * k + i < length v.entries =
      omega (
        arith,
        length-take cells_per_block (drop (cells_per_block * k) v.entries),
        length-drop (cells_per_block * k) v.entries,
      )
      in
      ap length
      (get_d_map entry_cell (entries_of k v) i none [] l
      ∙ ap entry_cell (part_at (cells_per_block * k) cells_per_block v.entries i none (omega (arith, group_length k))))
      ∙ cell_length_lem e.time e.bytes e.copies (short (cells_per_block * k + i) inside)

  block-long : (k a b : ℕ) → length (image_block k a b v) ≡ block_length
  unfolding image_block
  block-long k a b =
      block-length _ _ (header-length k (length (entries_of k v)) a b) (cells-long k) (omega (
        arith,
        length-map
            (entries_of k v) entry_cell,
        group_length k,
      ))

  image-length : (setting : ℕ) → length (image_with setting v) ≡ image_length
  unfolding image_with flatten
  image-length setting = simp (length-append, block-long)

-- ---- what calls show

pub checkpoint_length : (v : View) (output : List ℕ) → length (checkpoint_of v output).output ≡ length output
unfolding checkpoint_of
checkpoint_length v output =
    by_test (acceptable v)
    (λ ok. by_test (ltb (length output) image_length) (λ short. rw (ok, short))
    (λ room. rw (ok, room)
    (simp (length-append, length-drop, image-length v ok 0)
    (omega (arith, ltb-false (length output) image_length room)))))
    (λ no. rw no)

-- a burst that is taken has a place for each reception
burst_refused : (setting : ℕ) (v : View) (n m : ℕ) → ltb m n ≡ true → eqb (burst_number setting v n m) 0 ≡ false
unfolding burst_number call_number
burst_refused setting v n m h = by_test (acceptable v) (λ ok. rw (ok, h)) (λ no. rw no)

taken_few : (setting : ℕ) (v : View) (rs : List Reception) (m : ℕ)
    → length (taken (burst_number setting v (length rs) m) rs) ≤ m
taken_few setting v rs m =
    by_test (ltb m (length rs)) (λ h. rw (burst_refused setting v (length rs) m h) (omega arith))
    (λ h. by_test (eqb (burst_number setting v (length rs) m) 0)
    (λ t. rw t (ltb-false m (length rs) h)) (λ t. rw t (omega arith)))

pub burst_length : (setting : ℕ) (v : View) (rs : List Reception) (places : List Replied)
    → length (burst_of setting v rs places).replies ≡ length places
burst_length setting v rs places =
    let t = taken (burst_number setting v (length rs) (length places)) rs in
    simp (length-append, length-drop, replies_to-length) (omega (arith, taken_few setting v rs (length places)))
