-- The claims on a log that is kept.
use Prim.Native.Nat.{ℕ, ◌*◌, ◌/◌, ◌≤◌}
use native.Mathlib.Omega.{arith}
use mathlib.Core.Path.{◌≡◌, refl, ap, ◌∙◌}
use mathlib.Core.Bool.{false}
use mathlib.Core.List.{List, [], ◌++◌}
use lib.Dec.{ltb, eqb}
use lib.ListN.{length, drop, replicate, length-replicate}
use lib.Seq.{take-append_seam}
use borrow.Author.Tests.{le-ltb, ltb-false, eqb-true, eqb-false}
use Rattle.base_lists.proofs.Choice.{neither}
use Rattle.base_lists.proofs.Tests.{by_test, all_append}
use Rattle.block_layout.specs.Cell.{cell_length}
use Rattle.block_layout.specs.Block.{cells_per_block, block_length}
use Rattle.collector_closings.specs.Cells.{entry_cells}
use Rattle.archive_model.specs.Buffer.{buffer_of, rows_in}
use Rattle.archive_model.specs.Append.{verdict}
use Rattle.archive_model.specs.Claims.{is_fit}
use Rattle.archive_model.proofs.Claims.{read_back, exact, run}
use Rattle.archive_model.proofs.Cursor.{blocks_of}
use Rattle.journal_state.specs.State.{state_bytes}
use Rattle.journal_state.proofs.Claims.{state_read}
use Rattle.history_archived.specs.Archived.{archived_of}
use Rattle.history_archived.specs.Closed.{closed_of}
use Rattle.history_archived.proofs.Archived.{archived_storable}
use Rattle.history_archived.proofs.Closed.{closed-sized}
use Rattle.history_log.specs.Keep.{note_of, capacity_of, is_no_name, has_no_room, keep_of}
use Rattle.history_log.specs.Claims.{FreshKept, KeptReadBack, KeptStateStarts}
use Rattle.history_log.proofs.Noting.{note_said, note_lawful}

pub fresh_kept : FreshKept
unfolding keep_of has_no_room buffer_of
fresh_kept log heard name bytes m most few short named =
    let zeros = replicate {A = ℕ} (block_length * m) 0 in
    let z = run m [] most refl in
    let long : length zeros ≡ block_length * m = length-replicate (block_length * m) 0 in
    let free : capacity_of (length zeros) ≡ cells_per_block * m = omega (arith, long) in
    let size = closed-sized log in
    rw (
      z.0,
      named,
      z.1,
      free,
      le-ltb (cells_per_block * m) (length (archived_of log)) few,
      size,
      le-ltb (length heard) (cell_length * length (closed_of log)) short,
      long,
    )

-- what a number of 0 says
record Done (log archive heard name bytes : List ℕ) : Type 0 where
  right : (verdict archive).number ≡ 0
  named : is_no_name name ≡ false
  room : length (rows_in archive ++ archived_of log) ≤ capacity_of (length archive)
  is : (keep_of log archive heard name bytes).archive ≡ buffer_of (length archive) (rows_in archive ++ archived_of log)
  count : (keep_of log archive heard name bytes).closings ≡ length (closed_of log)
  closed : (keep_of log archive heard name bytes).heard
      ≡ entry_cells (closed_of log) ++ drop (length (entry_cells (closed_of log))) heard
  state : (keep_of log archive heard name bytes).state ≡ state_bytes (note_of log archive name) 2

has_room_lem : (log archive heard : List ℕ) → has_no_room log archive heard ≡ false
    → length (rows_in archive ++ archived_of log) ≤ capacity_of (length archive)
unfolding has_no_room
has_room_lem log archive heard e =
    let b = neither (ltb (capacity_of (length archive)) (length (rows_in archive ++ archived_of log))) _ e in
    ltb-false (capacity_of (length archive)) (length (rows_in archive ++ archived_of log)) b.0

done : (log archive heard name bytes : List ℕ) → (keep_of log archive heard name bytes).number ≡ 0
    → Done log archive heard name bytes
unfolding keep_of
done log archive heard name bytes z =
    by_test (eqb (verdict archive).number 0)
    (λ v.
    by_test (is_no_name name) (λ s. absurd (let q : 10 ≡ 0 = rw (v, s) at z in omega arith))
    (λ n.
    by_test (has_no_room log archive heard) (λ s. absurd (let q : 6 ≡ 0 = rw (v, n, s) at z in omega arith))
    (λ f. record {
      right = eqb-true (verdict archive).number 0 v;
      named = n;
      room = has_room_lem log archive heard f;
      is = rw (v, n, f);
      count = rw (v, n, f);
      closed = rw (v, n, f);
      state = rw (v, n, f);
    })))
    (λ f. absurd (eqb-false (verdict archive).number 0 f (let q : (verdict archive).number ≡ 0 = rw f at z in q)))

pub kept-read_back : KeptReadBack
kept-read_back log archive heard name bytes z =
    let d = done log archive heard name bytes z in
    let rows = rows_in archive ++ archived_of log in
    let cells = entry_cells (closed_of log) in
    let b = blocks_of archive d.right in
    let old = (exact archive d.right).1 in
    let fit = all_append is_fit (rows_in archive) (archived_of log) old (archived_storable log).fit in
    let m = length archive / block_length in
    let r = read_back m rows b.1 d.room fit in
    let e : (keep_of log archive heard name bytes).archive ≡ buffer_of (512 * m) rows =
    d.is ∙ ap (λ (n : ℕ). buffer_of n rows) b.0 in
    record {
      right = rw e r.0;
      rows = rw e r.1;
      closed = rw (d.count, d.closed, ← closed-sized log) (take-append_seam cells (drop (length cells) heard));
    }

pub kept_state_starts : KeptStateStarts
kept_state_starts log archive heard name bytes small z =
    let d = done log archive heard name bytes z in
    let said = note_said log archive name d.right d.room small d.named in
    let law = note_lawful log archive name d.right d.room small d.named in
    record {
      accepted = rw d.state (state_read (note_of log archive name) said.sized law).1;
      file = record { kept = note_of log archive name; said = said; is = d.state };
    }
