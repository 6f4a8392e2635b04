use Rattle.std.specs.Prelude.{Result, Ok, Err, Option, Some, None}
-- A lawful state, by what the code tests.
--     last_none, last-unsound, last_some                       the block with the last row
--     file-early, file-many, file-last                         the archive's file
--     name-long, name-dirty, name-none, name-some              its name
--     tail-long, tail-dirty, tail_none, tail-some              the place in the log
--     out_none, out_some                                       the file for rows
--     held, counts-refused, counts-restored, rows_fit       the rows that an image counts
--     law-image, law-archive, law-log, law-out                 all of them; file-alone and so on: each looks at its
-- part alone
use Prim.Native.Nat.{ℕ, ◌+◌, ◌-◌, ◌/◌, ◌%◌, ◌≤◌, ◌<◌, min}
use mathlib.Core.Path.{◌≡◌, refl, sym, ap, ◌∙◌}
use mathlib.Core.Bool.{true, false, ◌&&◌}
use mathlib.Core.List.{List, [], ◌∷◌}
use lib.Dec.{leb, eqb}
use lib.ListN.{length, drop}
use borrow.Author.Tests.{eqb-true, eq-eqb, ne_eqb, le-leb, lt-leb}
use Rattle.base_lists.specs.Lists.{all, pairwise}
use Rattle.base_lists.proofs.Choice.{both}
use Rattle.base_lists.proofs.Tests.{by_test}
use Rattle.base_refusal.specs.Number.{number_of}
use Rattle.base_refusal.specs.declared.Refusal.{Refusal}
use Rattle.base_refusal.specs.declared.Refusal.TheVariants.{NotAccepted}
use Rattle.base_refusal.proofs.Numbers.{refused-number}
use Rattle.block_layout.specs.Block.{cells_per_block}
use Rattle.collector_model.specs.declared.Totals.{Totals}
use Rattle.radio_telegram.specs.Repeater.{max_setting}
use Rattle.collector_model.specs.View.{View, capacity, fresh}
use Rattle.collector_model.specs.Acceptable.{is_entry, may_follow, is_summed, acceptable}
use Rattle.collector_model.specs.Image.{image_length, RestoreResult, setting_in, totals_in, parse, accepts, restore_of}
use Rattle.collector_model.proofs.Invariant.{good_fresh, good_acceptable}
use Rattle.collector_state.specs.declared.Collector.{Collector}
use Rattle.collector_state.specs.Collector.{view_of, next_number, next_in}
use Rattle.collector_checkpoint.specs.Checkpoint.{restore_result, Restores}
use Rattle.archive_model.specs.Row.{block_number, row_count, is_blank}
use Rattle.archive_model.specs.Buffer.{max_rows}
use Rattle.archive_file.specs.Archive.{sound_count}
use Rattle.journal_calls.proofs.Judged.{sound_none, sound_some}
use Rattle.journal_state.specs.State.{Kept, kept, nth, began, had, file_number, name_length, logged, offset, tail_length, printed, max_name, max_tail}
use Rattle.journal_state.specs.Lawful.{image_rows, is_last_of, is_file, is_attached, is_placed, is_printed, is_lawful_state}
use Rattle.journal_state.specs.Calls.{counted_by}

-- ---- the block with the last row

module _ (rows : ℕ) (block : List ℕ) where
  pub last_none : rows ≡ 0 → is_blank block ≡ is_last_of rows block
  unfolding is_last_of
  last_none e = rw (eq-eqb rows 0 e)

  module _ (some : rows ≡ 0 → ⊥) where
    pub last_unsound : sound_count block ≡ 0 → false ≡ is_last_of rows block
    unfolding is_last_of
    last_unsound h = rw (ne_eqb rows 0 some, sound_none block h)

    pub last_some : (used n : ℕ) → (sound_count block ≡ 0 → ⊥) → used ≡ sound_count block → n ≡ block_number block
        → eqb n ((rows - 1) / cells_per_block) && eqb used ((rows - 1) % cells_per_block + 1) ≡ is_last_of rows block
    unfolding is_last_of
    last_some used n h u e =
        let t = sound_some block h in
        let c : used ≡ row_count block = u ∙ rw t in
        rw (ne_eqb rows 0 some, t, c, e)

-- ---- the archive's file

module _ (k : Kept) (counted : ℕ) where
  pub file-early : counted < began k → false ≡ is_file k counted
  unfolding is_file
  file-early h = rw (lt-leb (began k) counted h)

  module _ (late : began k ≤ counted) where
    pub file_many : max_rows < had k + (counted - began k) → false ≡ is_file k counted
    unfolding is_file
    file_many h = rw (le-leb (began k) counted late, lt-leb (had k + (counted - began k)) max_rows h)

    pub file_last : had k + (counted - began k) ≤ max_rows → is_last_of (had k + (counted - began k)) k.last
        ≡ is_file k counted
    unfolding is_file
    file_last h = rw (le-leb (began k) counted late, le-leb (had k + (counted - began k)) max_rows h)

  -- ---- its name

  pub name-long : max_name < name_length k → false ≡ is_attached k counted
  unfolding is_attached
  name-long h = rw (lt-leb (name_length k) max_name h)

  module _ (short : name_length k ≤ max_name) where
    pub name_dirty : is_blank (drop (name_length k) k.name) ≡ false → false ≡ is_attached k counted
    unfolding is_attached
    name_dirty h = rw (le-leb (name_length k) max_name short, h)

    module _ (clean : is_blank (drop (name_length k) k.name) ≡ true) where
      pub name_none : name_length k ≡ 0
          → eqb (began k) 0 && eqb (had k) 0 && eqb (file_number k) 0 && is_blank k.last ≡ is_attached k counted
      unfolding is_attached
      name_none e = rw (le-leb (name_length k) max_name short, clean, eq-eqb (name_length k) 0 e)

      pub name_some : (name_length k ≡ 0 → ⊥) → is_file k counted ≡ is_attached k counted
      unfolding is_attached
      name_some n = rw (le-leb (name_length k) max_name short, clean, ne_eqb (name_length k) 0 n)

-- the file looks at two numbers and the block alone
pub file-alone : (k : Kept) (counted : ℕ) → is_file (kept (0 ∷ began k ∷ had k ∷ []) [] k.last [] []) counted
    ≡ is_file k counted
unfolding is_file
file-alone k counted = refl

-- ---- the place in the log

module _ (k : Kept) where
  pub tail_long : max_tail < tail_length k → false ≡ is_placed k
  unfolding is_placed
  tail_long h = rw (lt-leb (tail_length k) max_tail h)

  module _ (short : tail_length k ≤ max_tail) where
    pub tail_dirty : is_blank (drop (tail_length k) k.tail) ≡ false → false ≡ is_placed k
    unfolding is_placed
    tail_dirty h = rw (le-leb (tail_length k) max_tail short, h)

    module _ (clean : is_blank (drop (tail_length k) k.tail) ≡ true) where
      pub tail_none : logged k ≡ 0 → eqb (nth k 6) 0 && eqb (nth k 7) 0 && eqb (nth k 8) 0 && eqb (nth k 9) 0
          ≡ is_placed k
      unfolding is_placed
      tail_none e = rw (le-leb (tail_length k) max_tail short, clean, eq-eqb (logged k) 0 e)

      pub tail_some : (logged k ≡ 0 → ⊥) → eqb (logged k) 1 && eqb (tail_length k) (min (offset k) max_tail)
          ≡ is_placed k
      unfolding is_placed
      tail_some n = rw (le-leb (tail_length k) max_tail short, clean, ne_eqb (logged k) 0 n)

  -- ---- the file for rows

  pub out_none : printed k ≡ 0 → eqb (nth k 11) 0 && eqb (nth k 12) 0 && eqb (nth k 13) 0 ≡ is_printed k
  unfolding is_printed
  out_none e = rw (eq-eqb (printed k) 0 e)

  pub out_some : (printed k ≡ 0 → ⊥) → eqb (printed k) 1 ≡ is_printed k
  unfolding is_printed
  out_some n = rw (ne_eqb (printed k) 0 n)

  -- ---- all of them

  pub law_image : accepts k.image ≡ false → false ≡ is_lawful_state k
  unfolding is_lawful_state
  law_image h = rw h

  module _ (image : accepts k.image ≡ true) where
    pub law_archive : is_attached k (image_rows k.image) ≡ false → false ≡ is_lawful_state k
    unfolding is_lawful_state
    law_archive h = rw (image, h)

    module _ (archive : is_attached k (image_rows k.image) ≡ true) where
      pub law_log : is_placed k ≡ false → false ≡ is_lawful_state k
      unfolding is_lawful_state
      law_log h = rw (image, archive, h)

      pub law_out : is_placed k ≡ true → is_printed k ≡ is_lawful_state k
      unfolding is_lawful_state
      law_out h = rw (image, archive, h)

  -- each looks at its part alone

  pub attached_alone : (counted : ℕ) → is_attached (kept k.numbers k.name k.last [] []) counted
      ≡ is_attached k counted
  unfolding is_attached is_file
  attached_alone counted = refl

  pub placed-alone : is_placed (kept k.numbers [] [] [] k.tail) ≡ is_placed k
  unfolding is_placed
  placed-alone = refl

  pub printed-alone : is_printed (kept k.numbers [] [] [] []) ≡ is_printed k
  unfolding is_printed
  printed-alone = refl

-- ---- the rows of an image

accepted-image : (image : List ℕ) → accepts image ≡ true → acceptable (parse image) ≡ true
unfolding accepts
accepted-image image h =
    let a = both (eqb (length image) image_length) _ h in
    let b = both (leb (setting_in image) max_setting) _ a.1 in
    (both (acceptable (parse image)) _ b.1).0

summed : (v : View) → acceptable v ≡ true → is_summed v.totals ≡ true
unfolding acceptable
summed v h =
    let a = both (leb (length v.entries) capacity) _ h in
    let b = both (all (is_entry v.latest) v.entries) _ a.1 in
    let d = both (pairwise may_follow v.entries) _ b.1 in
    (both (is_summed v.totals) _ d.1).0

ok : acceptable fresh ≡ true
ok = good_acceptable good_fresh

pub held : (image : List ℕ) → accepts image ≡ true → restore_of fresh image ≡ record { number = 0; next = parse image }
unfolding restore_of
held image e = rw (ok, e)

stays : (image : List ℕ) → accepts image ≡ false → restore_of fresh image
    ≡ record { number = number_of NotAccepted; next = fresh }
unfolding restore_of
stays image e = rw (ok, e)

module _ (image : List ℕ) (c : Collector) (new : view_of c ≡ fresh) (r : Result Collector Refusal)
    (done : Restores c image r) where
  result : restore_result c r ≡ restore_of fresh image
  result = done.result ∙ ap (λ (v : View). restore_of v image) new

  pub counts-refused : (why : Refusal) → r ≡ Err why → None ≡ counted_by image
  counts-refused why e =
      by_test {X = None ≡ counted_by image} (accepts image)
      (λ t. absurd (refused-number why (ap next_number (sym e) ∙ ap (λ (x : RestoreResult). x.number) (result
      ∙ held image t))))
      (λ f. rw f)

  module _ (d : Collector) (e : r ≡ Ok d) where
    restored-image : accepts image ≡ true
    restored-image =
        by_test {X = accepts image ≡ true} (accepts image) (λ t. t)
        (λ f. absurd (refused-number NotAccepted (sym (sym (ap next_number e) ∙ ap (λ
        (x : RestoreResult). x.number) (result ∙ stays image f)))))

    totals_are : d.summary.totals ≡ totals_in image
    unfolding parse view_of
    totals_are =
        sym (ap (λ (x : Result Collector Refusal). (next_in c x).summary.totals) e)
        ∙ ap (λ (x : RestoreResult). x.next.totals) (result ∙ held image restored-image)

    pub counts-restored : Some (d.summary.totals.kept + d.summary.totals.loose) ≡ counted_by image
    unfolding image_rows
    counts-restored = ap (λ (n : Totals). Some (n.kept + n.loose)) totals_are ∙ rw restored-image refl

    pub rows_fit : d.summary.totals.received
        ≡ d.summary.totals.kept + d.summary.totals.copies + d.summary.totals.loose + d.summary.totals.damaged
        + d.summary.totals.late
    unfolding parse
    rows_fit =
        rw totals_are (eqb-true (totals_in image).received _ (summed (parse image)
        (accepted-image image restored-image)))

pub counted-some : (image : List ℕ) (n : ℕ) → counted_by image ≡ Some n
    → (accepts image ≡ true) × (n ≡ image_rows image)
counted-some image n =
    by_test {X = counted_by image ≡ Some n → (accepts image ≡ true) × (n ≡ image_rows image)} (accepts image)
    (λ t. rw t (λ e. (refl, cc)))
    (λ f. rw f (λ e. absurd (let z : ◌≡◌ {A = Option ℕ} None (Some n) = e in cc)))

pub counted-none : (image : List ℕ) → counted_by image ≡ None → accepts image ≡ false
counted-none image =
    by_test {X = counted_by image ≡ None → accepts image ≡ false} (accepts image)
    (λ t. rw t (λ e. absurd (let z : ◌≡◌ {A = Option ℕ} (Some (image_rows image)) None = e in cc)))
    (λ f. rw f (λ e. refl))
