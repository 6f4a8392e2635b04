-- The array of the lines, whole.
--     grows_none, grows-over, grows_then     what stands behind the lines: of no block, of one transmitter too many, and of more blocks
--     written_is                             an array is its lines, and what stood behind them
--     lines_new, lines-held                  so it is after blocks, and where a transmitter was one too many of the array before them
use Prim.Native.Nat.{ℕ, zero, suc, ◌+◌, ◌*◌, ◌≤◌, ◌<◌}
use native.Mathlib.Omega.{arith}
use mathlib.Core.Path.{◌≡◌, refl, sym, ap, ◌∙◌}
use mathlib.Core.Bool.{true, false, false≢true}
use mathlib.Core.List.{List, ◌∷◌, ◌++◌}
use lib.ListN.{length, get_or, drop, length-drop}
use lib.Seq.{drop-cons, get_or-drop, ext_get_or}
use Rattle.archive_report.specs.declared.tally.Tally.{Tally}
use Rattle.archive_report_model.specs.Report.{max_lines}
use Rattle.archive_report.specs.Lines.{line_length, lines_length, line_at, line_numbers, lines_from, lines_at, lines_numbers, with_lines}
use Rattle.archive_report.specs.Private.{SameBehind, Grows}
use Rattle.archive_report.proofs.Windows.{lines-count, lines_next, lines_none}

pub grows_none : (t : Tally) (xs : List ℕ) → t.count ≤ max_lines → Grows t t xs xs
grows_none t xs f =
    record { few = f; before = λ e. e; count = λ e. omega arith; behind = λ e k h. refl; held = λ e. refl }

no_lines : (xs ys : List ℕ) (n : ℕ) → n ≡ 0 → lines_at ys n ≡ lines_at xs n
no_lines xs ys n z = ap (lines_at ys) z ∙ lines_none ys 0 ∙ sym (lines_none xs 0) ∙ ap (lines_at xs) (sym z)

pub grows_over : (t r : Tally) (xs ys : List ℕ) → r.over ≡ true
    → r.count ≡ 0 → Grows t r xs ys × (r.over ≡ true → r.count ≡ 0)
grows_over t r xs ys o z = (
  record {
    few = omega arith;
    before = λ e. absurd (false≢true (sym e ∙ o));
    count = λ e. absurd (false≢true (sym e ∙ o));
    behind = λ e. absurd (false≢true (sym e ∙ o));
    held = λ e. no_lines xs ys r.count z;
  },
  λ e. z,
)

pub grows_then : (t u r : Tally) (xs ys zs : List ℕ) → Grows t u xs ys
    → Grows u r ys zs → (r.over ≡ true → r.count ≡ 0) → Grows t r xs zs
grows_then t u r xs ys zs g h z = record {
  few = h.few;
  before = λ e. g.before (h.before e);
  count = λ e. let a = g.count (h.before e) in let b = h.count e in omega arith;
  behind = λ e k l. let b = h.count e in h.behind e k l ∙ g.behind (h.before e) k (omega arith);
  held = λ e. no_lines xs zs r.count (z e);
}

-- five numbers of a list
five : (xs : List ℕ) (at : ℕ) → at + line_length ≤ length xs
    → drop at xs
    ≡ get_or xs at 0 ∷ get_or xs (at + 1) 0 ∷ get_or xs (at + 2) 0
    ∷ get_or xs (at + 3) 0 ∷ get_or xs (at + 4) 0 ∷ drop (at + 5) xs
five xs at h =
    let step : (n m : ℕ) → n < length xs → suc n ≡ m → drop n xs ≡ get_or xs n 0 ∷ drop m xs =
    λ n m l e. drop-cons xs n 0 l ∙ ap (λ (k : ℕ). get_or xs n 0 ∷ drop k xs) e in
    step at (at + 1) (omega arith) (omega arith)
    ∙ ap (λ (l : List ℕ). get_or xs at 0 ∷ l)
    (step (at + 1) (at + 2) (omega arith) (omega arith)
    ∙ ap (λ (l : List ℕ). get_or xs (at + 1) 0 ∷ l)
    (step (at + 2) (at + 3) (omega arith) (omega arith)
    ∙ ap (λ (l : List ℕ). get_or xs (at + 2) 0 ∷ l)
    (step (at + 3) (at + 4) (omega arith) (omega arith)
    ∙ ap (λ (l : List ℕ). get_or xs (at + 3) 0 ∷ l) (step (at + 4) (at + 5) (omega arith) (omega arith)))))

lines_are : (xs : List ℕ) (a n : ℕ) → line_length * (a + n) ≤ length xs
    → drop (line_length * a) xs ≡ lines_numbers (lines_from xs a n) ++ drop (line_length * (a + n)) xs
unfolding lines_numbers
lines_are xs a zero h =
    let e : line_length * a ≡ line_length * (a + 0) = omega arith in
    ap (λ (m : ℕ). drop m xs) e ∙ ap (λ l. lines_numbers l ++ drop (line_length * (a + 0)) xs) (sym (lines_none xs a))
lines_are xs a (suc n) h =
    let e : line_length * a + 5 ≡ line_length * suc a = omega arith in
    let f : line_length * (suc a + n) ≡ line_length * (a + suc n) = omega arith in
    five xs (line_length * a) (omega arith)
    ∙ ap (λ (l : List ℕ). line_numbers (line_at xs a) ++ l)
    (ap (λ (m : ℕ). drop m xs) e ∙ lines_are xs (suc a) n (omega arith)
    ∙ ap (λ (m : ℕ). lines_numbers (lines_from xs (suc a) n) ++ drop m xs) f)
    ∙ ap (λ l. lines_numbers l ++ drop (line_length * (a + suc n)) xs) (sym (lines_next xs a n))

pub written_is : (xs old : List ℕ) (n : ℕ) → length xs ≡ length old
    → line_length * n ≤ length xs → SameBehind (line_length * n) old xs
    → xs ≡ with_lines (lines_at xs n) old
unfolding with_lines
written_is xs old n l h b =
    let z : 0 + n ≡ n = omega arith in
    let same : drop (line_length * n) xs ≡ drop (line_length * n) old =
    ext_get_or 0 (drop (line_length * n) xs) (drop (line_length * n) old)
    (omega (arith, length-drop (line_length * n) xs, length-drop (line_length * n) old, l))
    (λ i k. get_or-drop (line_length * n) xs i 0 ∙ b (line_length * n + i) (omega arith)
    ∙ sym (get_or-drop (line_length * n) old i 0)) in
    lines_are xs 0 n (omega arith) ∙ ap (λ (m : ℕ). lines_numbers (lines_at xs n) ++ drop (line_length * m) xs) z
    ∙ ap (λ (l : List ℕ). lines_numbers (lines_at xs n) ++ l)
    (same ∙ ap (λ (m : ℕ). drop (line_length * m) old) (sym (lines-count xs 0 n)))

-- after blocks
module _ (t r : Tally) (old new : List ℕ) (g : Grows t r old new) (l : length old ≡ lines_length) where
  pub lines_new : length new ≡ lines_length → r.over ≡ false → new ≡ with_lines (lines_at new r.count) old
  lines_new m e = let f = g.few in written_is new old r.count (m ∙ sym l) (omega arith) (g.behind e)

  pub lines-held : old ≡ with_lines (lines_at old r.count) old
  lines-held = let f = g.few in written_is old old r.count refl (omega arith) (λ k h. refl)
