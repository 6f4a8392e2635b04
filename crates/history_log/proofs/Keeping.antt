-- A log taken from its first line on, and both passes over it.
use Prim.Native.Nat.{ℕ, ◌+◌, ◌*◌, ◌^◌, ◌≤◌, ◌<◌}
use native.Mathlib.Omega.{arith}
use mathlib.Core.Path.{◌≡◌, refl, sym, ap, subst, ◌∙◌}
use mathlib.Core.Bool.{Bool, true, false, cond, not, ◌&&◌, ◌||◌}
use mathlib.Core.List.{List, ◌++◌, append-nil}
use lib.Dec.{ltb, leb}
use lib.ListN.{length, drop, length-append, drop_of_length-le}
use lib.Seq.{sets-eq}
use borrow.Author.Tests.{le-leb, lt-ltb, le-ltb, leb-true, leb-false, eq-eqb, ne_eqb}
use Rattle.base_lists.proofs.Tests.{and-true, by_test}
use Rattle.block_layout.specs.Cell.{cell_length}
use Rattle.collector_closings.specs.Cells.{entry_cells}
use Rattle.base_refusal.specs.Number.{number_of}
use Rattle.base_refusal.specs.declared.Refusal.TheVariants.{Size}
use Rattle.collector_model.specs.View.{View, fresh}
use Rattle.collector_model.specs.Image.{image_length, image_of, CheckpointResult, checkpoint_of}
use Rattle.collector_model.specs.Acceptable.{acceptable}
use Rattle.collector_model.proofs.Invariant.{Good, good_fresh, good_acceptable}
use Rattle.text_program.specs.Lines.{output_of}
use Rattle.archive_model.specs.Row.{Row}
use Rattle.archive_model.specs.Buffer.{Found, At, None, is_whole, mismatch, buffer_of, rows_in}
use Rattle.archive_model.specs.Append.{Opening, found, verdict, open_of}
use Rattle.archive_model.proofs.Claims.{exact}
use Rattle.archive_model.proofs.Cursor.{rows_few}
use Rattle.text_collect.specs.Session.{running_at}
use Rattle.journal_state.specs.State.{state_bytes}
use Rattle.journal_state.specs.Calls.{write_of}
use Rattle.c_layout.specs.Lent.{if_mismatch}
use Rattle.c_collector.specs.State.{Arrays, state_at}
use Rattle.c_lines.specs.Calls.{first_number, first_used}
use Rattle.c_archive.specs.Calls.{open_call}
use Rattle.history_archived.specs.Archived.{archived_of}
use Rattle.history_archived.specs.Closed.{closed_of}
use Rattle.history_archived.specs.Claims.{rows_said}
use Rattle.history_archived.proofs.Archived.{archived_storable}
use Rattle.history_archived.proofs.Closed.{closed-sized}
use Rattle.history_log.specs.declared.Pass.{Pass}
use Rattle.history_log.specs.Keep.{
  state_after_log,
  note_of,
  capacity_of,
  Keeping,
  keeping_of,
  refused_kept,
  is_no_name,
  has_no_room,
  keep_of,
}
use Rattle.history_log.specs.Private.{
  Holds,
  note_with,
  Noted,
  Outputs,
  outputs,
  OutputsFit,
  phase_at,
  cells_said,
  Ready,
  TextPassed,
  states,
  Went,
  LogPassed,
  WentThrough,
}
use Rattle.history_log.proofs.Said.{first_said, none_said, first_closed, none_closed}
use Rattle.history_log.proofs.States.{state_whole, first_state, none_state}
use Rattle.history_log.proofs.Turning.{roomy, good_fits}
use Rattle.history_log.proofs.Noting.{note_lawful, note_is}

-- ---- from the first line on

holds-room : {archive : List ℕ} {n : ℕ} → Holds archive n → n ≤ capacity_of (length archive)
holds-room {archive} h = omega (arith, rows_few archive h.right, h.count)

module _ (write : Bool) (log archive : List ℕ) (n : ℕ) (heard : List ℕ) (h : Holds archive n) (setting : ℕ)
    (e : setting ≡ first_number log) where
  -- no closings yet
  abbrev empty : Outputs
  empty = outputs archive n heard 0

  room_there : OutputsFit empty
  room_there = record { rows = holds-room h; closings = omega arith }

  -- no right first line: there are no rows, and nothing closes
  none_passed : 2 < setting → TextPassed write (archived_of log) (entry_cells (closed_of log)) empty archive heard
      (record { fits = true; rows = n; closings = 0 })
  none_passed big =
      let rows_fit = le-leb (n + 0) (capacity_of (length archive)) (omega (arith, holds-room h)) in
      let cells_fit = le-leb (cell_length * 0 + 0) (length heard) (omega arith) in
      rw (none_said log (rw e at big), none_closed log (rw e at big))
      (record {
        fits = sym (and-true rows_fit cells_fit);
        count = λ _. omega arith;
        closings = λ _. omega arith;
        quiet = λ _. refl;
        still = λ _. refl;
        grown = λ _ _. record { right = h.right; rows = sym (append-nil (rows_in archive)); long = refl };
        heard = λ _ _. refl;
      })

  module _ (s : Arrays) (new : state_at s ≡ fresh) where
    good : Good (state_at s)
    good = subst Good (sym new) good_fresh

    pub none_logged : 2 < setting → LogPassed write log empty s archive heard
        (record { fits = true; rows = n; closings = 0 })
    none_logged big = record {
      passed = none_passed big;
      left = λ _. ap image_of new ∙ sym (none_state log (rw e at big)) ∙ state_whole log;
      accepted = λ _. good_acceptable good;
    }

    module _ (level : setting ≤ 2) where
      abbrev rest : List ℕ
      rest = drop (first_used log) log

      said : archived_of log ≡ rows_said (phase_at setting s) rest
      said = first_said log setting e level ∙ ap (λ (v : View). rows_said (running_at setting v) rest) (sym new)

      closed : entry_cells (closed_of log) ≡ cells_said (phase_at setting s) rest
      closed =
          first_closed log setting e level ∙ ap (λ (v : View). cells_said (running_at setting v) rest) (sym new)

      stands : output_of states (phase_at setting s) rest ≡ image_of (state_after_log log)
      stands =
          ap (λ (v : View). output_of states (running_at setting v) rest) new ∙ sym (first_state log setting e level)
          ∙ state_whole log

      pub first_ready : Ready write s setting rest empty
      first_ready = record {
        callable = record { accepted = good_acceptable good; level = level; room = room_there };
        fits = good_fits s good;
        fit = rw said at (archived_storable log).fit;
        holds = λ _. h;
      }

      pub first_logged : {s' : Arrays} {archive' heard' : List ℕ} (r : Pass)
          → Went write s setting rest empty s' archive' heard' r
          → LogPassed write log empty s' archive' heard' r
      first_logged r w = record {
        passed = rw (said, closed) w.passed;
        left = λ f. sym (w.left f) ∙ stands;
        accepted = w.accepted;
      }

-- ---- both passes

-- what the test of the archive answers
module _ (archive : List ℕ) {number position rows : ℕ}
    (v : record { number = number; position = position; rows = rows } ≡ open_call (open_of archive) 0 0) where
  number_is : number ≡ (verdict archive).number
  unfolding open_of
  number_is = ap (λ (a : Opening). a.number) v

  position_is : position ≡ (verdict archive).position
  unfolding open_of verdict
  position_is = ap (λ (a : Opening). a.position) v ∙ go (is_whole (length archive)) (mismatch archive)
    where
      go : (w : Bool) (f : Found)
          → if_mismatch (cond (not w) (record { number = number_of Size; position = 0 }) (found f)).number
          (cond (not w) (record { number = number_of Size; position = 0 }) (found f)).position 0
          ≡ (cond (not w) (record { number = number_of Size; position = 0 }) (found f)).position
      go false f = refl
      go true (At k) = refl
      go true None = refl

  pub is_refused : (log heard name bytes : List ℕ) → (number ≡ 0 → ⊥)
      → keeping_of (refused_kept number position) archive heard bytes ≡ keep_of log archive heard name bytes
  unfolding keep_of
  is_refused log heard name bytes some =
      rw (number_is, position_is, ne_eqb (verdict archive).number 0 (λ z. some (number_is ∙ z)))

  pub is_held : number ≡ 0 → Holds archive rows
  unfolding open_of
  is_held z =
      let right : (verdict archive).number ≡ 0 = sym number_is ∙ z in
      record { right = right; count = sym (ap (λ (a : Opening). a.rows) v ∙ rw right) }

none_fits : (a b c d : ℕ) → ltb b a || ltb d c ≡ not (leb a b && leb c d)
none_fits a b c d =
    by_test (leb a b)
    (λ e. rw (e, le-ltb b a (leb-true a b e)) (one_fits c d))
    (λ e. rw (e, lt-ltb b a (leb-false a b e)))
  where
    one_fits : (c d : ℕ) → ltb d c ≡ not (leb c d)
    one_fits c d =
        by_test (leb c d) (λ e. rw (e, le-ltb d c (leb-true c d e))) (λ e. rw (e, lt-ltb d c (leb-false c d e)))

module _ (log archive heard name bytes : List ℕ) {n : ℕ} (h : Holds archive n) where
  abbrev all_rows : List Row
  all_rows = rows_in archive ++ archived_of log

  abbrev all_cells : List ℕ
  all_cells = entry_cells (closed_of log)

  pub no_name : is_no_name name ≡ true
      → keeping_of (refused_kept 10 0) archive heard bytes ≡ keep_of log archive heard name bytes
  unfolding keep_of
  no_name e = rw (eq-eqb (verdict archive).number 0 h.right, e)

  module _ (named : is_no_name name ≡ false) (image : List ℕ) (long : length image ≡ image_length)
      {archive₁ heard₁ image₁ : List ℕ} (p : Pass)
      (q : WentThrough false log (outputs archive n heard 0) image archive₁ heard₁ image₁ p) where
    size : length all_rows ≡ n + length (archived_of log)
    size = length-append (rows_in archive) (archived_of log) ∙ ap (λ (m : ℕ). m + length (archived_of log)) h.count

    -- the first pass changes nothing
    same_archive : archive₁ ≡ archive
    same_archive = q.passed.quiet refl

    same_heard : heard₁ ≡ heard
    same_heard = q.passed.still refl

    same_image : image₁ ≡ image
    same_image = q.parked

    pub held-still : Holds archive₁ n × (image_length ≤ length image₁)
    held-still = (rw same_archive h, rw same_image (omega (arith, long)))

    -- what the first pass says
    short_is : has_no_room log archive heard ≡ not p.fits
    unfolding has_no_room
    short_is =
        let z : cell_length * 0 + length all_cells ≡ length all_cells = omega arith in
        rw (q.passed.fits, z, ← size)
        (none_fits (length all_rows) (capacity_of (length archive)) (length all_cells) (length heard))

    pub too_many : p.fits ≡ false
        → keeping_of (refused_kept 6 0) archive₁ heard₁ bytes ≡ keep_of log archive heard name bytes
    unfolding keep_of
    too_many e =
        rw (same_archive, same_heard, eq-eqb (verdict archive).number 0 h.right, named, short_is, e)

    module _ (e : p.fits ≡ true) {archive₂ heard₂ image₂ : List ℕ} (r : Pass)
        (w : WentThrough true log (outputs archive₁ n heard₁ 0) image₁ archive₂ heard₂ image₂ r) where
      passed : TextPassed true (archived_of log) all_cells (outputs archive n heard 0) archive₂ heard₂ r
      passed = rw (same_archive, same_heard) at w.passed

      fits : r.fits ≡ true
      fits = passed.fits ∙ sym q.passed.fits ∙ e

      fit : (n + length (archived_of log) ≤ capacity_of (length archive))
          × (cell_length * 0 + length all_cells ≤ length heard)
      fit = roomy (outputs archive n heard 0) (length (archived_of log)) (length all_cells)
          (sym q.passed.fits ∙ e)

      archive_is : archive₂ ≡ buffer_of (length archive) all_rows
      archive_is =
          let g = passed.grown refl fits in
          sym (exact archive₂ g.right).0 ∙ rw (g.rows, g.long)

      rows_are : r.rows ≡ length all_rows
      rows_are = passed.count fits ∙ sym size

      pub rows-room : r.rows ≤ capacity_of (length archive₂)
      rows-room = rw (passed.grown refl fits).long (omega (arith, rows_are, size, fit.0))

      image_is : image₂ ≡ image_of (state_after_log log)
      image_is =
          let x : image₂
          ≡ image_of (state_after_log log) ++ drop image_length image = rw (fits, same_image) at w.parked in
          x ∙ rw (drop_of_length-le image {i = image_length} (omega (arith, long)))
          (append-nil (image_of (state_after_log log)))

      pub all_kept : length log < 2 ^ 64 → {bytes₂ : List ℕ} (lines : ℕ)
          → Noted log archive₂ n r.rows name image₂ bytes bytes₂ lines → ◌≡◌ {A = Keeping}
          (record {
            number = 0;
            position = 0;
            rows = r.rows;
            closings = r.closings;
            lines = lines;
            archive = archive₂;
            heard = heard₂;
            state = bytes₂;
          })
          (keep_of log archive heard name bytes)
      unfolding keep_of write_of
      all_kept small {bytes₂} lines t =
          let z : 0 + length all_cells ≡ length all_cells = omega arith in
          let heard-is : heard₂ ≡ all_cells ++ drop (length all_cells) heard =
          passed.heard refl fits ∙ (rw z at (sets-eq all_cells heard 0 (omega (arith, fit.1)))) in
          let counted : r.closings ≡ length (closed_of log) =
          omega (arith, passed.closings fits, closed-sized log) in
          let room : length all_rows ≤ capacity_of (length archive) = omega (arith, size, fit.0) in
          let is = note_is log archive name h.right room small named image₂ image_is in
          let same : note_with log archive₂ n r.rows name image₂ ≡ note_of log archive name =
          rw (archive_is, ← h.count, rows_are) is in
          let written : bytes₂ ≡ state_bytes (note_of log archive name) 2 =
          t.bytes ∙ rw (same, note_lawful log archive name h.right room small named) in
          rw (
            eq-eqb (verdict archive).number 0 h.right,
            named,
            short_is,
            e,
            rows_are,
            counted,
            t.lines,
            archive_is,
            heard-is,
            written,
          )

-- ---- the image

pub parked_is : (v : View) (image : List ℕ) {number : ℕ} {output : List ℕ} → acceptable v ≡ true
    → image_length ≤ length image
    → record { number = number; output = output } ≡ checkpoint_of v image
    → output ≡ image_of v ++ drop image_length image
unfolding checkpoint_of
parked_is v image a room e =
    ap (λ (x : CheckpointResult). x.output) e ∙ rw (a, le-ltb (length image) image_length room)

pub parked_log : (write fits : Bool) (image : List ℕ) {x y : List ℕ} → (fits ≡ true → x ≡ y)
    → cond (write && fits) (x ++ drop image_length image) image
    ≡ cond (write && fits) (y ++ drop image_length image) image
parked_log true true image e = ap (λ (l : List ℕ). l ++ drop image_length image) (e refl)
parked_log true false image e = refl
parked_log false fits image e = refl
