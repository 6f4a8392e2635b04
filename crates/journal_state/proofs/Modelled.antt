-- A lawful state is one of the model of the disk.
use Prim.Native.Nat.{ℕ, ◌+◌, ◌-◌, ◌/◌, ◌%◌, ◌≤◌, ◌<◌}
use native.Mathlib.Nat.{mod-eq_of_lt}
use native.Mathlib.Omega.{arith}
use mathlib.Core.Path.{◌≡◌, refl, sym, ap, ap₂, ◌∙◌}
use mathlib.Core.Bool.{true, ◌&&◌}
use mathlib.Core.List.{List, [], ◌∷◌}
use lib.Dec.{leb, eqb}
use lib.ListN.{length, drop, replicate}
use borrow.Author.Tests.{eqb-true, eqb-false, leb-true, eq-eqb, ne_eqb}
use Rattle.base_lists.proofs.Choice.{both}
use Rattle.base_lists.proofs.Tests.{by_test}
use Rattle.block_layout.specs.Block.{cells_per_block, block_length}
use Rattle.collector_model.specs.View.{View}
use Rattle.collector_model.specs.Image.{RestoreResult, parse, accepts}
use Rattle.archive_model.specs.Row.{rows_block, block_number, row_count, rows_of, is_sound, is_blank}
use Rattle.archive_model.specs.Buffer.{max_blocks, max_rows}
use Rattle.archive_model.proofs.Exact.{sound_fits, sound_is}
use Rattle.archive_model.proofs.Pieces.{rows-count}
use Rattle.journal_model.specs.Disk.{collector_in, counted, last_used}
use Rattle.journal_model.specs.Claims.{IsCopied}
use Rattle.journal_model.proofs.Kept.{unfits}
use Rattle.journal_state.specs.State.{Kept, began, had, name_length, max_name}
use Rattle.journal_state.specs.Lawful.{image_rows, is_last_of, is_file, is_attached, is_lawful_state}
use Rattle.journal_state.specs.Claims.{state_of, IsModelled, StateModelled}
use Rattle.journal_state.proofs.Laws.{held}

-- a block of zeros
zeros : (xs : List ℕ) → is_blank xs ≡ true → xs ≡ replicate (length xs) 0
zeros [] h = refl
zeros (x ∷ xs) h = let a = both (eqb x 0) _ h in ap₂ ◌∷◌ (eqb-true x 0 a.0) (zeros xs a.1)

module _ (k : Kept) (long : length k.last ≡ block_length) (law : is_lawful_state k ≡ true)
    (named : name_length k ≡ 0 → ⊥)
    (first : began k ≡ 0) where
  abbrev rows : ℕ
  rows = had k + image_rows k.image

  accepted : accepts k.image ≡ true
  unfolding is_lawful_state
  accepted = (both (accepts k.image) _ law).0

  attached : is_attached k (image_rows k.image) ≡ true
  unfolding is_lawful_state
  attached = (both (is_attached k (image_rows k.image)) _ (both (accepts k.image) _ law).1).0

  file : is_file k (image_rows k.image) ≡ true
  unfolding is_attached
  file =
      let a = both (leb (name_length k) max_name) _ attached in
      let b = both (is_blank (drop (name_length k) k.name)) _ a.1 in
      rw (ne_eqb (name_length k) 0 named) at b.1

  record File : Type 0 where
    few : rows ≤ max_rows
    last : is_last_of rows k.last ≡ true

  is_file_lem : File
  unfolding is_file
  is_file_lem =
      let a = both (leb (began k) (image_rows k.image)) _ file in
      let b = both (leb (had k + (image_rows k.image - began k)) max_rows) _ a.1 in
      let e : had k + (image_rows k.image - began k) ≡ had k + image_rows k.image = omega arith in
      record {
        few = rw e at (leb-true (had k + (image_rows k.image - began k)) max_rows b.0);
        last = rw e at
            b.1;
      }

  restored : collector_in (state_of k) ≡ parse k.image
  restored = ap (λ (r : RestoreResult). r.next) (held k.image accepted)

  counts : counted (state_of k) ≡ rows
  unfolding parse image_rows
  counts = ap (λ (v : View). had k + (v.totals.kept + v.totals.loose)) restored

  -- no rows: the copy is all zero
  none : rows ≡ 0 → IsCopied (state_of k)
  unfolding is_last_of
  none e =
      let blank : is_blank k.last ≡ true = rw (eq-eqb rows 0 e) at is_file_lem.last in
      let c : counted (state_of k) ≡ 0 = counts ∙ e in
      record {
        rows = [];
        fit = refl;
        count = rw c refl;
        last = rw (eq-eqb (counted (state_of k)) 0 c) (zeros k.last blank ∙ ap (λ
            (m : ℕ). replicate {A = ℕ} m 0) long);
      }

  -- some: it is the block of its rows
  some : (rows ≡ 0 → ⊥) → IsCopied (state_of k)
  unfolding is_last_of
  some n =
      let t : is_sound k.last && (eqb (block_number k.last) ((rows - 1) / cells_per_block) && eqb (row_count
      k.last) ((rows - 1) % cells_per_block + 1)) ≡ true =
      rw (ne_eqb rows 0 n) at is_file_lem.last in
      let a = both (is_sound k.last) _ t in
      let b = both (eqb (block_number k.last) ((rows - 1) / cells_per_block)) _ a.1 in
      let number = eqb-true (block_number k.last) ((rows - 1) / cells_per_block) b.0 in
      let size = eqb-true (row_count k.last) ((rows - 1) % cells_per_block + 1) b.1 in
      let low : last_used (state_of k) < max_blocks = omega (arith, counts, is_file_lem.few) in
      let place : block_number k.last ≡ last_used (state_of k) % max_blocks = number ∙ omega (arith, counts) ∙ sym
      (mod-eq_of_lt low) in
      record {
        rows = rows_of k.last;
        fit = unfits (rows_of k.last) (sound_fits k.last a.0);
        count = rows-count k.last ∙ size ∙ omega (arith, counts);
        last = rw (ne_eqb (counted (state_of k)) 0 (λ z. n (sym counts ∙ z))) (sym (sound_is k.last a.0) ∙ ap (λ
            (m : ℕ). rows_block m (rows_of k.last)) place);
      }

  modelled : IsModelled k
  modelled = record {
    rows = counts;
    copied = by_test {X = IsCopied (state_of k)} (eqb rows 0) (λ t. none (eqb-true rows 0 t)) (λ f. some
        (eqb-false rows 0 f));
    room = omega (arith, counts, is_file_lem.few);
  }

pub state_modelled : StateModelled
state_modelled k long law named first = modelled k long law named first
