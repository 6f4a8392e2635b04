-- What is read of an image is the view that it was written of, where the layout has room for that.
--     cells-long, cells-few            the cells of a block have 32 bytes, and there are at most fifteen
--     blocks-long, image-length        a block has 512 bytes, and an image 2,560
--     parse-image, accepts-image       what a checkpoint writes is read back, and accepted where it is acceptable
--     exact                            and nothing else is
use Prim.Native.Nat.{ℕ, zero, suc, ◌+◌, ◌-◌, ◌*◌, ◌/◌, ◌%◌, ◌^◌, ◌≤◌, ◌<◌, min}
use native.Mathlib.Nat.{div-add-mod, sub-zero, zero-add}
use native.Mathlib.Omega.{arith}
use mathlib.Core.Path.{◌≡◌, refl, sym, ap, ◌∙◌}
use mathlib.Core.Bool.{true, false, and-false, true≢false}
use mathlib.Core.List.{List, [], map}
use lib.ListN.{length, get_or, length-take, length-drop, length-map}
use lib.Seq.{ext_get_or}
use lib.Dec.{leb, ltb, eqb}
use borrow.Author.Tests.{eq-eqb, le-leb, leb-true, lt-ltb, ltb-true}
use Rattle.base_lists.specs.Lists.{equal, up_from}
use Rattle.base_lists.proofs.Choice.{both}
use Rattle.base_lists.proofs.Equal.{equal_eq, equal-refl}
use Rattle.base_lists.proofs.Tests.{and-true, all_both, all_get_d, get_d_map}
use Rattle.base_lists.proofs.UpFrom.{length-up_from, get_d_up_from}
use Rattle.radio_telegram.specs.Repeater.{max_setting}
use Rattle.block_layout.specs.Cell.{cell_length, cell_capacity}
use Rattle.collector_model.specs.Header.{header_of, header_used, header_first, header_second}
use Rattle.block_layout.specs.Block.{cells_per_block, block_length, block_header, block_cell}
use Rattle.base_buffers.proofs.Segments.{part_at, Each, flatten-length, flatten-part}
use Rattle.block_layout.proofs.Cell.{cell_length_lem, cell_time_lem, cell_bytes_lem, cell_last_lem}
use Rattle.collector_model.proofs.Header.{header-length, header-used, header_first_lem, header-second}
use Rattle.block_layout.proofs.Block.{block-length, block-header, block_cell_lem}
use Rattle.collector_model.specs.View.{Entry, View, ceiling}
use Rattle.collector_model.specs.Acceptable.{is_entry, acceptable}
use Rattle.collector_model.specs.Image.{image_length, entry_cell, entries_of, image_block, blocks_of, image_with, block_in, used_in_block, first_in, second_in, setting_in, count_in, cell_entry, entry_in, totals_in, parse, accepts}
use Rattle.collector_model.specs.Exact.{fits_cell, FitsLayout, Exact}
use Rattle.collector_model.proofs.Check.{valid-length}
use Rattle.collector_model.proofs.Copies.{no_entry}
use Rattle.collector_model.proofs.Invariant.{Good, good_of, entry-valid, entry_before}

-- fifteen more of n
more : (m n : ℕ) → min m n + min 15 (n - m) ≡ min (m + 15) n
more m n = omega arith

-- an acceptable view has it
fits_cell_lem : (latest : ℕ) (e : Entry) → latest < 2 ^ 64 → is_entry latest e ≡ true
    → leb e.copies ceiling ≡ true → fits_cell e ≡ true
fits_cell_lem latest e fits is small =
    and-true (lt-ltb e.time (2 ^ 64) (omega (arith, entry_before latest e is)))
    (and-true (le-leb (length e.bytes) cell_capacity (valid-length e.bytes (entry-valid latest e is))) small)

pub fits_layout : {v : View} → Good v → FitsLayout v
fits_layout {v} g = record {
  latest = g.entries.fits;
  received = g.totals.fits;
  kept = omega (arith, g.totals.sum, g.totals.fits);
  copies = omega (arith, g.totals.sum, g.totals.fits);
  loose = omega (arith, g.totals.sum, g.totals.fits);
  damaged = omega (arith, g.totals.sum, g.totals.fits);
  late = omega (arith, g.totals.sum, g.totals.fits);
  few = omega (arith, g.entries.few);
  entries =
      all_both (is_entry v.latest) (λ e. leb e.copies ceiling) fits_cell
      (λ e. fits_cell_lem v.latest e g.entries.fits) v.entries
      g.entries.each g.entries.copies;
}

module _ (setting : ℕ) (v : View) where
  abbrev count : ℕ
  count = length v.entries

  abbrev entry_at : ℕ → Entry
  entry_at i = get_or v.entries i no_entry

  -- ---- entries that cells hold

  module _ (short : (i : ℕ) → i < count → length (entry_at i).bytes ≤ cell_capacity) where
    -- the entries of block k

    group_length : (k : ℕ) → length (entries_of k v) ≡ min cells_per_block (count - cells_per_block * k)
    group_length k = simp (length-take, length-drop)

    cell_at : (k i : ℕ) → i < length (entries_of k v)
        → get_or (map entry_cell (entries_of k v)) i [] ≡ entry_cell (entry_at (cells_per_block * k + i))
    cell_at k i h =
        get_d_map entry_cell (entries_of k v) i no_entry [] h
        ∙ ap entry_cell
        (part_at (cells_per_block * k) cells_per_block v.entries i no_entry (omega (arith, group_length k)))

    pub cells-long : (k : ℕ) → Each cell_length (map entry_cell (entries_of k v))
    cells-long k i h =
        let l : i < length (entries_of k v) = rw (length-map (entries_of k v) entry_cell) at h in
        let e = entry_at (cells_per_block * k + i) in
        ap length (cell_at k i l)
        ∙ cell_length_lem e.time e.bytes e.copies
        (short (cells_per_block * k + i) (omega (arith, group_length k)))

    pub cells_few : (k : ℕ) → length (map entry_cell (entries_of k v)) ≤ cells_per_block
    cells_few k = omega (arith, length-map (entries_of k v) entry_cell, group_length k)

    -- blocks

    block_at : (k : ℕ) → k < 5 → (a : ℕ) × (b : ℕ) × (get_or (blocks_of setting v) k [] ≡ image_block k a b v)
    block_at zero h = (_, _, refl)
    block_at (suc zero) h = (_, _, refl)
    block_at (suc (suc zero)) h = (_, _, refl)
    block_at (suc (suc (suc zero))) h = (_, _, refl)
    block_at (suc (suc (suc (suc zero)))) h = (_, _, refl)
    block_at (suc (suc (suc (suc (suc k))))) h = absurd (omega arith)

    pub blocks-long : Each block_length (blocks_of setting v)
    unfolding image_block
    blocks-long k h =
        let w = block_at k h in
        ap length w.2
        ∙ block-length _ _ (header-length k (length (entries_of k v)) w.0 w.1) (cells-long k) (cells_few k)

    written-length : length (image_with setting v) ≡ image_length
    unfolding image_with
    written-length = flatten-length block_length (blocks_of setting v) blocks-long

    block_in_lem : (k : ℕ) → k < 5 → block_in k (image_with setting v) ≡ get_or (blocks_of setting v) k []
    unfolding image_with
    block_in_lem k h = flatten-part block_length (blocks_of setting v) blocks-long k h

    module _ (k a b : ℕ) (low : k < 5) (is : get_or (blocks_of setting v) k [] ≡ image_block k a b v) where
      header_in : block_header (block_in k (image_with setting v)) ≡ header_of k (length (entries_of k v)) a b
      unfolding image_block
      header_in =
          ap block_header (block_in_lem k low ∙ is)
          ∙ block-header _ _ (header-length k (length (entries_of k v)) a b) (cells-long k) (cells_few k)

      used_in : used_in_block k (image_with setting v) ≡ min cells_per_block (count - cells_per_block * k)
      used_in = ap header_used header_in ∙ header-used k (length (entries_of k v)) a b ∙ group_length k

      first_in_lem : a < 2 ^ 64 → first_in k (image_with setting v) ≡ a
      first_in_lem h = ap header_first header_in ∙ header_first_lem k (length (entries_of k v)) a b h

      second_in_lem : b < 2 ^ 64 → second_in k (image_with setting v) ≡ b
      second_in_lem h = ap header_second header_in ∙ header-second k (length (entries_of k v)) a b h

      cell_in_lem : (i : ℕ) → i < length (entries_of k v)
          → block_cell i (block_in k (image_with setting v)) ≡ entry_cell (entry_at (cells_per_block * k + i))
      unfolding image_block
      cell_in_lem i h =
          ap (block_cell i) (block_in_lem k low ∙ is)
          ∙ block_cell_lem _ _ (header-length k (length (entries_of k v)) a b) (cells-long k)
          (cells_few k) i (omega (arith, length-map (entries_of k v) entry_cell))
          ∙ cell_at k i h

    -- the cell of each entry
    pub cell_written : (i : ℕ) → i < count → count ≤ 5 * cells_per_block
        → block_cell (i % 15) (block_in (i / 15) (image_with setting v)) ≡ entry_cell (entry_at i)
    cell_written i h few =
        let k : i / 15 < 5 = omega arith in
        let w = block_at (i / 15) k in
        cell_in_lem (i / 15) w.0 w.1 k w.2 (i % 15) (omega (arith, group_length (i / 15)))
        ∙ ap (λ (n : ℕ). entry_cell (entry_at n)) (div-add-mod i 15)

  -- ---- a view that the layout holds

  module _ (f : FitsLayout v) where
    room : (i : ℕ) → i < count → fits_cell (entry_at i) ≡ true
    room i h = all_get_d fits_cell v.entries i no_entry f.entries h

    timed : (i : ℕ) → i < count → (entry_at i).time < 2 ^ 64
    timed i h = ltb-true (entry_at i).time (2 ^ 64) (both (ltb (entry_at i).time (2 ^ 64)) _ (room i h)).0

    sized : (i : ℕ) → i < count
        → (leb (length (entry_at i).bytes) cell_capacity ≡ true) × (leb (entry_at i).copies ceiling ≡ true)
    sized i h = both _ (leb (entry_at i).copies ceiling) (both (ltb (entry_at i).time (2 ^ 64)) _ (room i h)).1

    short : (i : ℕ) → i < count → length (entry_at i).bytes ≤ cell_capacity
    short i h = leb-true (length (entry_at i).bytes) cell_capacity (sized i h).0

    counted : (i : ℕ) → i < count → (entry_at i).copies < 2 ^ 16
    counted i h = omega (arith, leb-true (entry_at i).copies ceiling (sized i h).1)

    -- an entry is read back from its cell
    entry_cell_lem : (i : ℕ) → i < count → cell_entry (entry_cell (entry_at i)) ≡ entry_at i
    entry_cell_lem i h =
        let e = entry_at i in
        λ j. record {
          bytes = cell_bytes_lem e.time e.bytes e.copies (short i h) j;
          time = cell_time_lem e.time e.bytes e.copies (short i h) (timed i h) j;
          copies = cell_last_lem e.time e.bytes e.copies (short i h) (counted i h) j;
        }

    -- ---- the whole

    pub image-length : length (image_with setting v) ≡ image_length
    image-length = written-length short

    count_in_lem : count_in (image_with setting v) ≡ count
    count_in_lem =
        rw (
          used_in short 0 _ _ (omega arith) refl,
          used_in short 1 _ _ (omega arith) refl,
          used_in short 2 _ _ (omega arith) refl,
          used_in short 3 _ _ (omega arith) refl,
          used_in short 4 _ _ (omega arith) refl,
          sub-zero count,
          more 15 count,
          more 30 count,
          more 45 count,
          more 60 count,
        ) (omega (arith, f.few))

    entry_in_lem : (i : ℕ) → i < count → entry_in (image_with setting v) i ≡ entry_at i
    unfolding entry_in
    entry_in_lem i h = ap cell_entry (cell_written short i h f.few) ∙ entry_cell_lem i h

    entries_in : map (entry_in (image_with setting v)) (up_from 0 (count_in (image_with setting v))) ≡ v.entries
    entries_in =
        let long : length (map (entry_in (image_with setting v)) (up_from 0 count)) ≡ count =
        length-map (up_from 0 count) (entry_in (image_with setting v)) ∙ length-up_from 0 count in
        rw count_in_lem
        (ext_get_or no_entry (map (entry_in (image_with setting v)) (up_from 0 count)) v.entries long
        (λ i h.
        let low : i < count = omega arith in
        get_d_up_from (entry_in (image_with setting v)) 0 count i no_entry low
        ∙ ap (entry_in (image_with setting v)) (zero-add i) ∙ entry_in_lem i low))

    pub parse-image : parse (image_with setting v) ≡ v
    unfolding parse totals_in
    parse-image = λ i. record {
      latest = first_in_lem short 0 _ _ (omega arith) refl f.latest i;
      totals = record {
        received = second_in_lem short 0 _ _ (omega arith) refl f.received i;
        kept = first_in_lem short 1 _ _ (omega arith) refl f.kept i;
        copies = second_in_lem short 1 _ _ (omega arith) refl f.copies i;
        loose = first_in_lem short 2 _ _ (omega arith) refl f.loose i;
        damaged = second_in_lem short 2 _ _ (omega arith) refl f.damaged i;
        late = first_in_lem short 3 _ _ (omega arith) refl f.late i;
      };
      entries = entries_in i;
    }

    -- 0, 1 or 2 stands in the setting's place
    module _ (low : setting ≤ max_setting) where
      setting_in_lem : setting_in (image_with setting v) ≡ setting
      setting_in_lem = second_in_lem short 3 _ _ (omega arith) refl (omega arith)

      pub accepts-image : acceptable v ≡ true → accepts (image_with setting v) ≡ true
      unfolding accepts
      accepts-image ok =
          rw (
            eq-eqb (length (image_with setting v)) image_length image-length,
            setting_in_lem,
            le-leb setting max_setting low,
            parse-image,
            ok,
            equal-refl (image_with setting v),
          )

    refuses_image : acceptable v ≡ false → accepts (image_with setting v) ≡ false
    unfolding accepts
    refuses_image bad =
        let low = leb (setting_in (image_with setting v)) max_setting in
        rw (eq-eqb (length (image_with setting v)) image_length image-length, parse-image, bad) (and-false low)

-- what an image says that is accepted
pub record Accepted (image : List ℕ) : Type 0 where
  pub small : setting_in image ≤ max_setting
  pub view : acceptable (parse image) ≡ true
  pub same : equal (image_with (setting_in image) (parse image)) image ≡ true

accepted-says : (image : List ℕ) → accepts image ≡ true → Accepted image
unfolding accepts
accepted-says image e =
    let a = both (eqb (length image) image_length) _ e in
    let b = both (leb (setting_in image) max_setting) _ a.1 in
    let c = both (acceptable (parse image)) (equal (image_with (setting_in image) (parse image)) image) b.1 in
    record { small = leb-true _ _ b.0; view = c.0; same = c.1 }

pub exact : Exact
exact = record {
  accepted = λ s low v e f. accepts-image s v (fits_layout (good_of v e f)) low e;
  read_back = λ s low v e f. parse-image s v (fits_layout (good_of v e f));
  refused = λ s v e f. refuses_image s v f e;
  not_said = λ v e image a p. true≢false (sym (accepted-says image a).view ∙ ap acceptable p ∙ e);
  small_setting = λ image e. (accepted-says image e).small;
  acceptable_view = λ image e. (accepted-says image e).view;
  written = λ image e. equal_eq (image_with (setting_in image) (parse image)) image
      (rw (accepted-says image e).same tt);
}
