-- The test of the lines, one after the other.
--     tally-next, tally-none     the first line and the others
--     before-none, before_more   the line after it
--     line_of                    a line by its numbers
--     rest-first, rest-next, rest_end     the loop: its start, a turn, its end
use Prim.Native.Nat.{ℕ, suc, ◌+◌, ◌-◌, ◌^◌, ◌≤◌, ◌<◌}
use native.Mathlib.Omega.{arith}
use mathlib.Core.Path.{◌≡◌, refl, sym, ap, ◌∙◌}
use mathlib.Core.Bool.{Bool, true, false, ◌&&◌}
use mathlib.Core.List.{List, [], ◌∷◌}
use lib.Dec.{ltb, leb, eqb}
use borrow.Author.Tests.{lt-ltb, ltb-true, le-leb, lt-leb, leb-true, eq-eqb, eqb-true}
use Rattle.base_lists.specs.Lists.{all}
use Rattle.base_lists.proofs.Choice.{both}
use Rattle.base_lists.proofs.Tests.{and-true}
use Rattle.archive_report_model.specs.Report.{Line, rows_of_line, is_line, is_rising, sum_by, is_tally}
use Rattle.archive_report_model.proofs.Lines.{above_all}
use Rattle.archive_report.specs.Lines.{line_at, lines_from, lines_at}
use Rattle.archive_report.specs.Private.{is_line_of, is_before, line_fits}
use Rattle.archive_report.proofs.Windows.{lines_next, lines_none}

same_test : (a b : Bool) → (a ≡ true → b ≡ true) → (b ≡ true → a ≡ true) → a ≡ b
same_test true true f g = refl
same_test true false f g = sym (f refl)
same_test false true f g = g refl
same_test false false f g = refl

pub line_of : (a : Line) → a.latest < 2 ^ 64
    → is_line_of a.identity (rows_of_line a) a.earliest a.latest ≡ is_line a
line_of a h = rw (lt-ltb a.latest (2 ^ 64) h)

rising_next : (a : Line) (lines : List Line) → is_rising (a ∷ lines) ≡ is_before a lines && is_rising lines
rising_next a [] = refl
rising_next a (b ∷ lines) =
    same_test (is_rising (a ∷ b ∷ lines)) (ltb a.identity b.identity && is_rising (b ∷ lines))
    (λ h.
    let w = both (all (λ c. ltb a.identity c.identity) (b ∷ lines)) (is_rising (b ∷ lines)) h in
    and-true (both (ltb a.identity b.identity) (all (λ c. ltb a.identity c.identity) lines) w.0).0
    w.1)
    (λ h.
    let w = both (ltb a.identity b.identity) (is_rising (b ∷ lines)) h in
    let v = both (all (λ c. ltb b.identity c.identity) lines) (is_rising lines) w.1 in
    and-true (above_all a b lines (ltb-true a.identity b.identity w.0) v.0) w.1)

module _ (a : Line) (lines : List Line) (kept loose : ℕ) (time : a.latest < 2 ^ 64) where
  abbrev kept_sum : ℕ
  kept_sum = sum_by (λ b. b.kept) lines

  abbrev loose_sum : ℕ
  loose_sum = sum_by (λ b. b.loose) lines

  forth : is_tally (a ∷ lines) kept loose ≡ true
      → line_fits a lines kept loose && is_tally lines (kept - a.kept) (loose - a.loose) ≡ true
  unfolding is_tally
  forth h =
      let b = both (all is_line (a ∷ lines)) _ h in
      let c = both (is_line a) (all is_line lines) b.0 in
      let d = both (is_rising (a ∷ lines)) _ b.1 in
      let e = both (is_before a lines) (is_rising lines) (sym (rising_next a lines) ∙ d.0) in
      let f = both (eqb kept (a.kept + kept_sum)) _ d.1 in
      let k : kept ≡ a.kept + kept_sum = eqb-true kept (a.kept + kept_sum) f.0 in
      let l : loose ≡ a.loose + loose_sum = eqb-true loose (a.loose + loose_sum) f.1 in
      and-true
      (and-true (le-leb a.kept kept (omega arith))
      (and-true (le-leb a.loose loose (omega arith)) (and-true (line_of a time ∙ c.0) e.0)))
      (and-true c.1
      (and-true e.1
      (and-true (eq-eqb (kept - a.kept) kept_sum (omega arith))
      (eq-eqb (loose - a.loose) loose_sum (omega arith)))))

  back : line_fits a lines kept loose && is_tally lines (kept - a.kept) (loose - a.loose) ≡ true
      → is_tally (a ∷ lines) kept loose ≡ true
  unfolding is_tally
  back h =
      let b = both (line_fits a lines kept loose) _ h in
      let c = both (leb a.kept kept) _ b.0 in
      let d = both (leb a.loose loose) _ c.1 in
      let e = both (is_line_of a.identity (rows_of_line a) a.earliest a.latest) (is_before a lines) d.1 in
      let f = both (all is_line lines) _ b.1 in
      let g = both (is_rising lines) _ f.1 in
      let k = both (eqb (kept - a.kept) kept_sum) _ g.1 in
      let p : kept - a.kept ≡ kept_sum = eqb-true (kept - a.kept) kept_sum k.0 in
      let q : loose - a.loose ≡ loose_sum = eqb-true (loose - a.loose) loose_sum k.1 in
      let x : a.kept ≤ kept = leb-true a.kept kept c.0 in
      let y : a.loose ≤ loose = leb-true a.loose loose d.0 in
      and-true (and-true (sym (line_of a time) ∙ e.0) f.0)
      (and-true (rising_next a lines ∙ and-true e.1 g.0)
      (and-true (eq-eqb kept (a.kept + kept_sum) (omega arith)) (eq-eqb loose (a.loose + loose_sum) (omega arith))))

  tally_next : is_tally (a ∷ lines) kept loose
      ≡ line_fits a lines kept loose && is_tally lines (kept - a.kept) (loose - a.loose)
  tally_next =
      same_test (is_tally (a ∷ lines) kept loose)
      (line_fits a lines kept loose && is_tally lines (kept - a.kept) (loose - a.loose)) forth back

-- ---- the loop over an array

module _ (xs : List ℕ) where
  pub rest_first : (n kept loose : ℕ) → is_tally (lines_from xs 0 (n - 0)) kept loose
      ≡ is_tally (lines_at xs n) kept loose
  rest_first n kept loose =
      let e : n - 0 ≡ n = omega arith in
      ap (λ (m : ℕ). is_tally (lines_from xs 0 m) kept loose) e

  pub rest_next : (n i kept loose : ℕ) → i < n → (line_at xs i).latest < 2 ^ 64
      → is_tally (lines_from xs i (n - i)) kept loose
      ≡ line_fits (line_at xs i) (lines_from xs (i + 1) (n - (i + 1))) kept loose
      && is_tally (lines_from xs (i + 1) (n - (i + 1))) (kept - (line_at xs i).kept) (loose - (line_at xs i).loose)
  rest_next n i kept loose h t =
      let e : n - i ≡ suc (n - (i + 1)) = omega arith in
      let s : suc i ≡ i + 1 = omega arith in
      ap (λ (l : List Line). is_tally l kept loose)
      (ap (lines_from xs i) e ∙ lines_next xs i (n - (i + 1))
      ∙ ap (λ (j : ℕ). line_at xs i ∷ lines_from xs j (n - (i + 1))) s)
      ∙ tally_next (line_at xs i) (lines_from xs (i + 1) (n - (i + 1))) kept loose t

  pub rest_end : (n i kept loose : ℕ) → n ≤ i
      → is_tally (lines_from xs i (n - i)) kept loose ≡ eqb kept 0 && eqb loose 0
  unfolding is_tally
  rest_end n i kept loose h =
      let e : n - i ≡ 0 = omega arith in
      ap (λ (l : List Line). is_tally l kept loose) (ap (lines_from xs i) e ∙ lines_none xs i)

  pub before_none : (n i : ℕ) → n ≤ i + 1 → true ≡ is_before (line_at xs i) (lines_from xs (i + 1) (n - (i + 1)))
  before_none n i h =
      let e : n - (i + 1) ≡ 0 = omega arith in
      sym (ap (is_before (line_at xs i)) (ap (lines_from xs (i + 1)) e ∙ lines_none xs (i + 1)))

  pub before_more : (n i : ℕ) → i + 1 < n
      → ltb (line_at xs i).identity (line_at xs (i + 1)).identity
      ≡ is_before (line_at xs i) (lines_from xs (i + 1) (n - (i + 1)))
  before_more n i h =
      let e : n - (i + 1) ≡ suc (n - (i + 2)) = omega arith in
      sym (ap (is_before (line_at xs i)) (ap (lines_from xs (i + 1)) e ∙ lines_next xs (i + 1) (n - (i + 2))))

-- ---- the tests of one line

module _ (a : Line) (lines : List Line) (kept loose : ℕ) where
  pub fits_kept : kept < a.kept → false ≡ line_fits a lines kept loose
  fits_kept h = rw (lt-leb a.kept kept h)

  pub fits-loose : a.kept ≤ kept → loose < a.loose → false ≡ line_fits a lines kept loose
  fits-loose k h = rw (le-leb a.kept kept k, lt-leb a.loose loose h)

  pub fits_both : a.kept ≤ kept → a.loose ≤ loose
      → (is_line_of a.identity (rows_of_line a) a.earliest a.latest && is_before a lines)
      ≡ line_fits a lines kept loose
  fits_both k l = rw (le-leb a.kept kept k, le-leb a.loose loose l)

  pub fits_facts : line_fits a lines kept loose ≡ true → (a.kept ≤ kept) × (a.loose ≤ loose)
  fits_facts h =
      let b = both (leb a.kept kept) _ h in
      (leb-true a.kept kept b.0, leb-true a.loose loose (both (leb a.loose loose) _ b.1).0)
