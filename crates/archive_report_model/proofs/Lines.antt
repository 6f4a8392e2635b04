-- Lines after a row or rows more.
--     all_insert, all-added      a test that passes for every line
--     rising-insert, rising-added
--     sum-insert, sum_added      sums
--     more-insert, more_added    lines never become fewer
use Prim.Native.Nat.{ℕ, suc, ◌+◌, ◌<◌, ◌≤◌}
use mathlib.Core.Path.{◌≡◌, refl, ap, ◌∙◌}
use mathlib.Core.Bool.{Bool, true, false, cond, not}
use mathlib.Core.List.{List, [], ◌∷◌, ◌++◌}
use native.Mathlib.Omega.{arith}
use lib.Dec.{ltb}
use lib.ListN.{length}
use borrow.Author.Tests.{lt-ltb, ltb-true}
use Rattle.base_lists.specs.Lists.{all, count}
use Rattle.base_lists.proofs.Choice.{both}
use Rattle.base_lists.proofs.Tests.{and-true}
use Rattle.base_lists.proofs.Members.{all_of, all_at}
use Rattle.archive_model.specs.Row.{Row}
use Rattle.archive_report_model.specs.Report.{Line, line_of_row, merged_line, insert, add_rows, is_rising, sum_by, kept_in, loose_in}
use Rattle.archive_report_model.proofs.Order.{insert-cases, insert_nil, add_first, add_none}

-- ---- one line more

pub all_insert : (p : Line → Bool) (a : Line) (l : List Line) → p a ≡ true
    → ((b : Line) → p b ≡ true → p (merged_line a b) ≡ true) → all p l ≡ true → all p (insert a l) ≡ true
all_insert p a [] h j t = ap (all p) (insert_nil a) ∙ and-true h refl
all_insert p a (c ∷ l) h j t =
    let w = both (p c) (all p l) t in
    insert-cases (λ (m : List Line). all p m ≡ true) a c l
    (λ k. and-true h t)
    (λ k. and-true (j c w.0) w.1)
    (λ k. and-true w.0 (all_insert p a l h j w.1))

abbrev above : Line → Line → Bool
above a b = ltb a.identity b.identity

-- what stands before a line stands before all behind it
pub above_all : (a c : Line) (l : List Line) → a.identity < c.identity
    → all (above c) l ≡ true → all (above a) (c ∷ l) ≡ true
above_all a c l h t =
    and-true (lt-ltb a.identity c.identity h)
    (all_of (above a) l
    (λ b m.
    let k : c.identity < b.identity = ltb-true c.identity b.identity (all_at (above c) m t) in
    lt-ltb a.identity b.identity (omega arith)))

same_all : (a c : Line) (l : List Line) → a.identity ≡ c.identity → all (above c) l ≡ true → all (above a) l ≡ true
same_all a c l e t = rw e t

pub rising-insert : (a : Line) (l : List Line) → is_rising l ≡ true → is_rising (insert a l) ≡ true
rising-insert a [] t = ap is_rising (insert_nil a)
rising-insert a (c ∷ l) t =
    let w = both (all (above c) l) (is_rising l) t in
    insert-cases (λ (m : List Line). is_rising m ≡ true) a c l
    (λ k. and-true (above_all a c l k w.0) t)
    (λ k. and-true (same_all a c l k w.0) w.1)
    (λ k.
    and-true (all_insert (above c) a l (lt-ltb c.identity a.identity k)
    (λ b h. lt-ltb c.identity a.identity k) w.0)
    (rising-insert a l w.1))

pub sum_insert : (f : Line → ℕ) → ((a b : Line) → f (merged_line a b) ≡ f a + f b)
    → (a : Line) (l : List Line) → sum_by f (insert a l) ≡ f a + sum_by f l
sum_insert f j a [] = ap (sum_by f) (insert_nil a)
sum_insert f j a (c ∷ l) =
    insert-cases (λ (m : List Line). sum_by f m ≡ f a + (f c + sum_by f l)) a c l
    (λ k. refl)
    (λ k. omega (arith, j a c))
    (λ k. omega (arith, sum_insert f j a l))

pub more-insert : (a : Line) (l : List Line) → length l ≤ length (insert a l)
more-insert a [] = omega arith
more-insert a (c ∷ l) =
    insert-cases (λ (m : List Line). suc (length l) ≤ length m) a c l
    (λ k. omega arith)
    (λ k. omega arith)
    (λ k. omega (arith, more-insert a l))

-- ---- rows more

module _ (lines : List Line) where
  pub all_added : (p : Line → Bool) (rows : List Row) → all (λ r. p (line_of_row r)) rows ≡ true
      → ((a b : Line) → p a ≡ true → p b ≡ true → p (merged_line a b) ≡ true)
      → all p lines ≡ true → all p (add_rows rows lines) ≡ true
  all_added p [] h j t = ap (all p) (add_none lines) ∙ t
  all_added p (r ∷ rows) h j t =
      let w = both (p (line_of_row r)) (all (λ s. p (line_of_row s)) rows) h in
      ap (all p) (add_first r rows lines)
      ∙ all_insert p (line_of_row r) (add_rows rows lines) w.0
      (λ b k. j (line_of_row r) b w.0 k) (all_added p rows w.1 j t)

  pub rising-added : (rows : List Row) → is_rising lines ≡ true → is_rising (add_rows rows lines) ≡ true
  rising-added [] t = ap is_rising (add_none lines) ∙ t
  rising-added (r ∷ rows) t =
      ap is_rising (add_first r rows lines) ∙ rising-insert (line_of_row r) (add_rows rows lines) (rising-added rows t)

  pub sum_added : (f : Line → ℕ) (p : Row → Bool) → ((a b : Line) → f (merged_line a b) ≡ f a + f b)
      → ((r : Row) → f (line_of_row r) ≡ cond (p r) 1 0)
      → (rows : List Row) → sum_by f (add_rows rows lines) ≡ sum_by f lines + count p rows
  sum_added f p j o [] = ap (sum_by f) (add_none lines) ∙ (omega arith)
  sum_added f p j o (r ∷ rows) =
      ap (sum_by f) (add_first r rows lines) ∙ sum_insert f j (line_of_row r) (add_rows rows lines)
      ∙ go (p r) (o r) (sum_added f p j o rows)
    where
      go : (b : Bool) → f (line_of_row r) ≡ cond b 1 0 → sum_by f (add_rows rows lines) ≡ sum_by f lines + count p rows
          → f (line_of_row r) + sum_by f (add_rows rows lines)
          ≡ sum_by f lines + cond b (count p rows + 1) (count p rows)
      go true e k = omega arith
      go false e k = omega arith

  pub more_added : (rows : List Row) → length lines ≤ length (add_rows rows lines)
  more_added [] = omega (arith, ap length (add_none lines))
  more_added (r ∷ rows) =
      omega (
        arith,
        ap length (add_first r rows lines),
        more-insert (line_of_row r)
            (add_rows rows lines),
        more_added rows,
      )

kept_one : (r : Row) → (line_of_row r).kept ≡ cond (not r.loose) 1 0
kept_one r = go r.loose
  where
    go : (b : Bool) → ◌≡◌ {A = ℕ} (cond b 0 1) (cond (not b) 1 0)
    go true = refl
    go false = refl

pub kept-added : (lines : List Line) (rows : List Row)
    → sum_by (λ a. a.kept) (add_rows rows lines) ≡ sum_by (λ a. a.kept) lines + kept_in rows
kept-added lines rows = sum_added lines (λ a. a.kept) (λ r. not r.loose) (λ a b. refl) kept_one rows

pub loose-added : (lines : List Line) (rows : List Row)
    → sum_by (λ a. a.loose) (add_rows rows lines) ≡ sum_by (λ a. a.loose) lines + loose_in rows
loose-added lines rows = sum_added lines (λ a. a.loose) (λ r. r.loose) (λ a b. refl) (λ r. refl) rows

-- every row is of one kind
pub kinds : (rows : List Row) → kept_in rows + loose_in rows ≡ length rows
kinds [] = refl
kinds (r ∷ rows) = go r.loose (kinds rows)
  where
    go : (b : Bool) → kept_in rows + loose_in rows ≡ length rows
        → cond (not b) (kept_in rows + 1) (kept_in rows) + cond b (loose_in rows + 1) (loose_in rows)
        ≡ suc (length rows)
    go true e = omega arith
    go false e = omega arith

pub count_append : (p : Row → Bool) (xs ys : List Row) → count p (xs ++ ys) ≡ count p xs + count p ys
count_append p [] ys = omega arith
count_append p (x ∷ xs) ys = go (p x) (count_append p xs ys)
  where
    go : (b : Bool) → count p (xs ++ ys) ≡ count p xs + count p ys
        → cond b (count p (xs ++ ys) + 1) (count p (xs ++ ys)) ≡ cond b (count p xs + 1) (count p xs) + count p ys
    go true e = omega arith
    go false e = omega arith
