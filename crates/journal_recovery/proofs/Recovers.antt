-- What a crash leaves is recovered: the state file of a state of the model is lawful, so it is accepted; the archive
-- beside it is not refused, and its counted rows and leftovers stay.
use Prim.Native.Nat.{ℕ, ◌+◌, ◌-◌, ◌*◌, ◌/◌, ◌%◌, ◌≤◌, ◌<◌}
use native.Mathlib.Nat.{mod-eq_of_lt}
use native.Mathlib.Omega.{arith}
use mathlib.Core.Path.{◌≡◌, refl, sym, ap, ap₂, subst, ◌∙◌}
use mathlib.Core.Bool.{true, not, ◌&&◌, ◌||◌}
use mathlib.Core.List.{List, [], ◌++◌}
use lib.Dec.{eqb}
use lib.ListN.{length, take, drop, replicate, length-drop}
use lib.Seq.{drop_at}
use borrow.Author.Tests.{eqb-false, eq-eqb, ne_eqb}
use Rattle.base_lists.proofs.Tests.{by_test, and-true}
use Rattle.block_layout.specs.Block.{cells_per_block, block_length}
use Rattle.collector_model.specs.View.{View}
use Rattle.collector_model.specs.Image.{RestoreResult, parse, accepts}
use Rattle.collector_model.specs.Reference.{log_of, model_view}
use Rattle.collector_model.proofs.Invariant.{Good, good_acceptable, good_fresh}
use Rattle.collector_model.proofs.Image.{fits_layout, accepts-image}
use Rattle.collector_model.proofs.Theorem.{fresh-model}
use Rattle.archive_model.specs.Row.{Row, block_number, row_count, is_sound, is_blank}
use Rattle.archive_model.specs.Buffer.{blocks_for, max_blocks, max_rows, rows_at}
use Rattle.archive_model.proofs.Blocks.{Fits, number-back, count-back, block_sound}
use Rattle.archive_model.proofs.Buffers.{group_few, group_fits, group_length}
use Rattle.text_collect.specs.Printed.{past_after_lines}
use Rattle.journal_model.specs.Disk.{State, collector_in, counted, whole_blocks, leftovers}
use Rattle.journal_model.specs.Crash.{leaving_all}
use Rattle.journal_model.specs.Claims.{last_block, file_block, padded_files, IsPlant, rows_after, kept_state}
use Rattle.journal_model.proofs.Rows.{took_all}
use Rattle.journal_model.proofs.Kept.{Holds, unfits, rows_fit, kept_holds}
use Rattle.journal_model.proofs.Recovery.{Left}
use Rattle.journal_model.proofs.Foreign.{not-foreign}
use Rattle.journal_model.proofs.Start.{tail_left, behind, behind_fits, recovers}
use Rattle.journal_model.proofs.Claims.{crash_reached, survives, cut_state}
use Rattle.journal_state.specs.State.{Kept, had, began, name_length, state_length, old_length, state_bytes, read_state}
use Rattle.journal_state.specs.Lawful.{image_rows, is_last_of, is_file, is_lawful_state}
use Rattle.journal_state.specs.Calls.{Accepted}
use Rattle.journal_state.specs.Claims.{state_of}
use Rattle.journal_state.proofs.Laws.{held, file_last, name_some, law_out}
use Rattle.journal_state.proofs.Read.{state-length}
use Rattle.journal_state.proofs.Files.{accept_done}
use Rattle.journal_state.proofs.Claims.{state_read}
use Rattle.journal_recovery.specs.Start.{Start, is_one_file, disk_of, accept_number, with_whole, settled_of, start_result}
use Rattle.journal_recovery.specs.Claims.{IsSaid, IsFileOf, Recovered, StartRecovers}
use Rattle.journal_recovery.proofs.Started.{start_settled}

-- ---- the copy of the block with the last row

module _ (rows : List Row) (fit : Fits rows) (few : length rows ≤ max_rows) where
  abbrev last : ℕ
  last = (length rows - 1) / cells_per_block

  no_rows : is_blank (replicate {A = ℕ} block_length 0) ≡ true
  no_rows = refl

  some_rows : (length rows ≡ 0 → ⊥) → let b = file_block max_blocks rows last in
      is_sound b && (eqb (block_number b) last && eqb (row_count b) ((length rows - 1) % cells_per_block + 1)) ≡ true
  some_rows n =
      let group = rows_at last rows in
      let f = group_fits rows fit last in
      let small = group_few rows last in
      let low : last < max_blocks = omega (arith, few) in
      let k : last % max_blocks ≡ last = mod-eq_of_lt low in
      let count : length group ≡ (length rows - 1) % cells_per_block + 1 = omega (arith, group_length rows last) in
      and-true (block_sound (last % max_blocks) group f small (omega (arith, count)) (omega (arith, k)))
      (and-true (eq-eqb _ last (number-back (last % max_blocks) group f small (omega (arith, k)) ∙ k))
      (eq-eqb _ _ (count-back (last % max_blocks) group f small ∙ count)))

  pub last_is : is_last_of (length rows) (last_block max_blocks rows) ≡ true
  unfolding is_last_of last_block
  last_is =
      by_test (eqb (length rows) 0) (λ t. rw t no_rows)
      (λ f. rw f (some_rows (eqb-false (length rows) 0 f)))

-- ---- a state of the model

module _ (before : List Row) (log : List (List ℕ)) (plant : IsPlant max_blocks before) (n : ℕ) where
  abbrev rows : List Row
  rows = rows_after before log n

  abbrev state : State
  state = kept_state max_blocks before log n

  abbrev view : View
  view = model_view (log_of (past_after_lines [] (take n log)))

  fit-rows : Fits rows
  fit-rows = rows_fit max_blocks before log plant.fit n

  holds : Holds max_blocks state rows
  holds = kept_holds max_blocks before log plant.fit n

  good : Good view
  good = (took_all (take n log) [] (rw fresh-model at good_fresh)).good

  module _ (k : Kept) (f : IsSaid state k) (few : length rows ≤ max_rows) where
    accepted : accepts k.image ≡ true
    accepted =
        ap (λ (s : State). accepts s.image) f.says
        ∙ accepts-image 0 view (fits_layout good) (omega arith) (good_acceptable good)

    restored : collector_in (state_of k) ≡ parse k.image
    restored = ap (λ (r : RestoreResult). r.next) (held k.image accepted)

    counts : had k + image_rows k.image ≡ length rows
    unfolding parse image_rows
    counts =
        sym (ap (λ (v : View). had k + (v.totals.kept + v.totals.loose)) restored) ∙ ap counted f.says
        ∙ holds.count

    named : name_length k ≡ 0 → ⊥
    named z = omega (arith, z, f.named)

    one : is_one_file k ≡ true
    one = and-true (ap not (ne_eqb (name_length k) 0 named)) (eq-eqb (began k) 0 f.first)

    file-right : is_file k (image_rows k.image) ≡ true
    file-right =
        let e : had k + (image_rows k.image - began k) ≡ length rows = omega (arith, f.first, counts) in
        sym (file_last k (image_rows k.image) (omega (arith, f.first)) (omega (arith, e, few)))
        ∙ ap₂ is_last_of e (ap (λ (s : State). s.last) f.says)
        ∙ last_is rows fit-rows few

    pub law : is_lawful_state k ≡ true
    law =
        let attached = sym (name_some k (image_rows k.image) f.short f.clean named) ∙ file-right in
        sym (law_out k accepted attached f.placed) ∙ f.printed

    abbrev whole : List ℕ
    whole = state_bytes k 2

    number_none : accept_number whole ≡ 0
    number_none =
        let long : eqb (length whole) state_length || eqb (length whole) old_length ≡ true =
        rw (state-length k f.sized 2) refl in
        sym (ap (λ (a : Accepted). a.number)
        (accept_done whole (read_state whole) long (state_read k f.sized law).1))

    -- the start is that of the archive beside the state
    start_is : (file : List ℕ) (old : ℕ) → whole_blocks file ≤ max_blocks
        → start_result whole file old ≡ settled_of state file old
    start_is file old room =
        let back = (state_read k f.sized law).0 in
        sym (start_settled whole file old room number_none (ap is_one_file back ∙ one))
        ∙ ap (λ (x : Kept). settled_of (state_of x) file old) back
        ∙ ap (λ (s : State). settled_of s file old) f.says

  -- ---- the archive beside it

  module _ (file : List ℕ) (left : Left max_blocks rows file) where
    abbrev rest : List Row
    rest = behind max_blocks plant.some plant.most rows fit-rows state holds file left

    rest_is : leftovers (disk_of state file) ≡ rest
    rest_is =
        let read = tail_left max_blocks plant.some plant.most rows fit-rows state holds file left in
        let j = blocks_for (length rows) - 1 in
        let tail = drop (cells_per_block * j) rows in
        ap₂ (λ (c : ℕ) (t : List Row). drop (c - cells_per_block * (blocks_for c - 1)) t) holds.count read.is
        ∙ drop_at tail rest (length rows - cells_per_block * j) (length-drop (cells_per_block * j) rows)

    settled_is : (old : ℕ) → settled_of state file old ≡ record {
      number = 0;
      archive = with_whole (padded_files max_blocks (block_length * whole_blocks file) (rows ++ rest)) file;
      left = length rest;
    }
    unfolding settled_of
    settled_is old =
        let same = recovers max_blocks plant.some plant.most rows fit-rows state holds file left in
        rw (not-foreign max_blocks plant.some plant.most rows fit-rows state holds file left [])
        (λ i. record { number = 0; archive = with_whole (same i) file; left = length (rest_is i) })

    recovered : (bytes : List ℕ) → IsFileOf state bytes → whole_blocks file ≤ max_blocks → (old : ℕ)
        → Recovered before log n file (start_result bytes file old)
    recovered bytes f room old =
        let few : length rows ≤ max_rows = omega (arith, left.low, room) in
        let is = ap (λ (b : List ℕ). start_result b file old) f.is
        ∙ start_is f.kept f.said few file old room ∙ settled_is old in
        record {
          rest = rest;
          fit = unfits rest
              (behind_fits max_blocks plant.some plant.most rows fit-rows state holds file left);
          number = ap (λ (r : Start). r.number) is;
          archive = ap (λ (r : Start). r.archive) is;
          left = ap (λ (r : Start). r.left) is;
        }

-- ---- after a crash

pub start_recovers : StartRecovers
start_recovers before log d left again c room bytes f old =
    let plant = c.plant in
    let file = (leaving_all left again).archive in
    let hit = crash_reached max_blocks before log plant d c.stood left c.leaves in
    let r = survives max_blocks before log plant again left hit c.starts in
    let at : left.state ≡ kept_state max_blocks before log r.at = sym (cut_state again left) ∙ r.state in
    let f' : IsFileOf (kept_state max_blocks before log r.at) bytes = subst (λ (s : State). IsFileOf s bytes) at f in
    subst (λ (x : ℕ). Recovered before log x file (start_result bytes file old)) (sym (ap (λ (s : State). s.lines) at))
    (recovered before log plant r.at file r.left bytes f' room old)
