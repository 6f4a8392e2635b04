-- One archive more: what an answer of 0 tells, and that a report stays one.
--     Passed, passed, facts     the parts of `is_report`
--     Taken, taken, is-taken    the tests of `add_of`, both ways
--     added-report              a report with an archive more is a report
use Prim.Native.Nat.{ℕ, ◌+◌, ◌*◌, ◌^◌, ◌<◌, ◌≤◌, min, max}
use mathlib.Core.Path.{◌≡◌, refl, sym, ap, ◌∙◌}
use mathlib.Core.Bool.{Bool, true, false, cond, ◌||◌}
use mathlib.Core.List.{List}
use native.Mathlib.Omega.{arith}
use lib.Dec.{ltb, leb, eqb}
use lib.ListN.{length}
use borrow.Author.Tests.{lt-ltb, le-ltb, ltb-true, ltb-false, le-leb, lt-leb, leb-true, leb-false, eq-eqb, eqb-true, eqb-false}
use Rattle.base_refusal.specs.declared.Refusal.TheVariants.{Argument, NotAccepted, Transmitters}
use Rattle.base_refusal.proofs.Numbers.{refused-number}
use Rattle.base_lists.specs.Lists.{all}
use Rattle.base_lists.proofs.Choice.{both}
use Rattle.base_lists.proofs.Tests.{and-true, by_test}
use Rattle.archive_model.specs.Row.{Row}
use Rattle.archive_model.specs.Buffer.{max_rows, rows_in}
use Rattle.archive_model.specs.Append.{verdict}
use Rattle.archive_report_model.specs.Report.{Line, Report, max_archives, max_lines, line_of_row, merged_line, add_rows, kept_in, loose_in, is_line, is_rising, sum_by, is_tally, is_report, addition, added, add_of}
use Rattle.archive_report_model.proofs.Lines.{all_added, rising-added, kept-added, loose-added, kinds}

-- ---- a report

pub record Passed (s : Report) : Type 0 where
  pub archives : s.archives ≤ max_archives
  pub few : length s.lines ≤ max_lines
  pub rows : s.kept + s.loose ≤ max_rows * s.archives
  pub each : all is_line s.lines ≡ true
  pub rising : is_rising s.lines ≡ true
  pub kept : s.kept ≡ sum_by (λ a. a.kept) s.lines
  pub loose : s.loose ≡ sum_by (λ a. a.loose) s.lines

pub facts : (s : Report) → is_report s ≡ true → Passed s
unfolding is_report is_tally
facts s h =
    let a = both (leb s.archives max_archives) _ h in
    let b = both (leb (length s.lines) max_lines) _ a.1 in
    let c = both (leb (s.kept + s.loose) (max_rows * s.archives)) _ b.1 in
    let d = both (all is_line s.lines) _ c.1 in
    let e = both (is_rising s.lines) _ d.1 in
    let f = both (eqb s.kept (sum_by (λ a. a.kept) s.lines)) _ e.1 in
    record {
      archives = leb-true s.archives max_archives a.0;
      few = leb-true (length s.lines) max_lines b.0;
      rows = leb-true (s.kept + s.loose) (max_rows * s.archives) c.0;
      each = d.0;
      rising = e.0;
      kept = eqb-true s.kept (sum_by (λ a. a.kept) s.lines) f.0;
      loose = eqb-true s.loose (sum_by (λ a. a.loose) s.lines) f.1;
    }

pub report-tally : (s : Report) → is_report s ≡ true → is_tally s.lines s.kept s.loose ≡ true
unfolding is_report
report-tally s h =
    let a = both (leb s.archives max_archives) _ h in
    let b = both (leb (length s.lines) max_lines) _ a.1 in
    (both (leb (s.kept + s.loose) (max_rows * s.archives)) _ b.1).1

pub passed : (s : Report) → Passed s → is_report s ≡ true
unfolding is_report is_tally
passed s p =
    and-true (le-leb s.archives max_archives p.archives)
    (and-true (le-leb (length s.lines) max_lines p.few)
    (and-true (le-leb (s.kept + s.loose) (max_rows * s.archives) p.rows)
    (and-true p.each
    (and-true p.rising
    (and-true (eq-eqb s.kept (sum_by (λ a. a.kept) s.lines) p.kept)
    (eq-eqb s.loose (sum_by (λ a. a.loose) s.lines) p.loose))))))

-- ---- a line of one row, and two lines joined

pub is_line_of : (r : Row) → (line_of_row r).identity < 2 ^ 32 → r.time < 2 ^ 64 → is_line (line_of_row r) ≡ true
is_line_of r i t =
    and-true (lt-ltb (line_of_row r).identity (2 ^ 32) i)
    (and-true (one r.loose)
    (and-true (le-leb r.time r.time (omega arith))
    (and-true (lt-ltb r.time (2 ^ 64) t) (single r.loose))))
  where
    one : (b : Bool) → leb 1 (cond b 0 1 + cond b 1 0) ≡ true
    one true = refl
    one false = refl

    single : (b : Bool) → (ltb 1 (cond b 0 1 + cond b 1 0) || eqb r.time r.time) ≡ true
    single true = eq-eqb r.time r.time refl
    single false = eq-eqb r.time r.time refl

pub record GoodLine (a : Line) : Type 0 where
  pub identity : a.identity < 2 ^ 32
  pub some : 1 ≤ a.kept + a.loose
  pub ordered : a.earliest ≤ a.latest
  pub times : a.latest < 2 ^ 64
  pub one : (ltb 1 (a.kept + a.loose) || eqb a.earliest a.latest) ≡ true

pub line_facts : (a : Line) → is_line a ≡ true → GoodLine a
line_facts a h =
    let b = both (ltb a.identity (2 ^ 32)) _ h in
    let c = both (leb 1 (a.kept + a.loose)) _ b.1 in
    let d = both (leb a.earliest a.latest) _ c.1 in
    let e = both (ltb a.latest (2 ^ 64)) _ d.1 in
    record {
      identity = ltb-true a.identity (2 ^ 32) b.0;
      some = leb-true 1 (a.kept + a.loose) c.0;
      ordered = leb-true a.earliest a.latest d.0;
      times = ltb-true a.latest (2 ^ 64) e.0;
      one = e.1;
    }

pub line-joined : (a b : Line) → is_line a ≡ true → is_line b ≡ true → is_line (merged_line a b) ≡ true
line-joined a b h k =
    let f = line_facts a h in
    let g = line_facts b k in
    let c = merged_line a b in
    let two : 1 < c.kept + c.loose = omega (arith, f.some, g.some) in
    and-true (lt-ltb c.identity (2 ^ 32) f.identity)
    (and-true (le-leb 1 (c.kept + c.loose) (omega arith))
    (and-true (le-leb c.earliest c.latest
    (between a.earliest b.earliest a.latest b.latest f.ordered))
    (and-true (lt-ltb c.latest (2 ^ 64) (below a.latest b.latest f.times g.times))
    (ap (λ (t : Bool). t || eqb c.earliest c.latest) (lt-ltb 1 (c.kept + c.loose) two)))))
  where
    between : (x y u v : ℕ) → x ≤ u → min x y ≤ max u v
    between x y u v h = omega arith

    below : (u v : ℕ) → u < 2 ^ 64 → v < 2 ^ 64 → max u v < 2 ^ 64
    below u v h k = omega arith

-- ---- the tests of `add_of`

pub record Taken (s : Report) (buffer : List ℕ) : Type 0 where
  pub report : is_report s ≡ true
  pub matches : (verdict buffer).number ≡ 0
  pub archives : s.archives < max_archives
  pub few : length (add_rows (rows_in buffer) s.lines) ≤ max_lines

module _ (s : Report) (buffer : List ℕ) where
  pub taken_next : Taken s buffer → add_of s buffer ≡ addition 0 0 (added s (rows_in buffer))
  unfolding add_of
  taken_next t =
      rw (
        t.report,
        eq-eqb (verdict buffer).number 0 t.matches,
        lt-leb max_archives s.archives t.archives,
        le-ltb max_lines (length (add_rows (rows_in buffer) s.lines)) t.few,
      )

  pub is_taken : (add_of s buffer).number ≡ 0 → Taken s buffer
  unfolding add_of
  is_taken e =
      by_test {X = Taken s buffer} (is_report s)
      (λ r.
      by_test {X = Taken s buffer} (eqb (verdict buffer).number 0)
      (λ v.
      by_test {X = Taken s buffer} (leb max_archives s.archives)
      (λ a. absurd (refused-number Argument (rw (r, v, a) at e)))
      (λ a.
      by_test {X = Taken s buffer} (ltb max_lines (length (add_rows (rows_in buffer) s.lines)))
      (λ l. absurd (refused-number Transmitters (rw (r, v, a, l) at e)))
      (λ l.
      record {
        report = r;
        matches = eqb-true (verdict buffer).number 0 v;
        archives = leb-false max_archives s.archives a;
        few = ltb-false max_lines (length (add_rows (rows_in buffer) s.lines)) l;
      })))
      (λ v. absurd (eqb-false (verdict buffer).number 0 v (rw (r, v) at e))))
      (λ r. absurd (refused-number NotAccepted (rw r at e)))

  -- "a refused archive adds nothing"
  pub refused-kept : ((add_of s buffer).number ≡ 0 → ⊥) → (add_of s buffer).next ≡ s
  unfolding add_of
  refused-kept n =
      by_test {X = (add_of s buffer).next ≡ s} (is_report s)
      (λ r.
      by_test {X = (add_of s buffer).next ≡ s} (eqb (verdict buffer).number 0)
      (λ v.
      by_test {X = (add_of s buffer).next ≡ s} (leb max_archives s.archives)
      (λ a. rw (r, v, a))
      (λ a.
      by_test {X = (add_of s buffer).next ≡ s} (ltb max_lines (length (add_rows (rows_in buffer) s.lines)))
      (λ l. rw (r, v, a, l))
      (λ l. absurd (n (rw (r, v, a, l))))))
      (λ v. rw (r, v)))
      (λ r. rw r)

-- an archive whose rows can be told apart by 32 bits, and times of 64
pub record Known (buffer : List ℕ) : Type 0 where
  pub lines : all (λ r. is_line (line_of_row r)) (rows_in buffer) ≡ true
  pub few : length (rows_in buffer) ≤ max_rows

pub added-report : (s : Report) (buffer : List ℕ) → Taken s buffer
    → Known buffer → is_report (added s (rows_in buffer)) ≡ true
unfolding added
added-report s buffer t k =
    let rows = rows_in buffer in
    let p = facts s t.report in
    let total : s.kept + kept_in rows + (s.loose + loose_in rows) ≤ max_rows * s.archives + max_rows =
    omega (arith, p.rows, kinds rows, k.few) in
    passed (added s rows) (record {
      archives = omega (arith, t.archives);
      few = t.few;
      rows = omega arith;
      each = all_added s.lines is_line rows k.lines line-joined p.each;
      rising = rising-added s.lines rows p.rising;
      kept = ap (λ (n : ℕ). n + kept_in rows) p.kept ∙ sym (kept-added s.lines rows);
      loose = ap (λ (n : ℕ). n + loose_in rows) p.loose ∙ sym (loose-added s.lines rows);
    })
