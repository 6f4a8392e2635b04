-- The lines that an array shows.
--     lines-count, line-at, lines_split, lines_next     how many, each of them, in two parts, and the first of some
--     lines_same                                        equal lines, at the same place or another
--     ordered_of, total-at                              rising identities, and the rows of one line among all
--     stored-line                                       five numbers written one after the other
use Prim.Native.Nat.{ℕ, zero, suc, ◌+◌, ◌-◌, ◌*◌, ◌≤◌, ◌<◌}
use native.Mathlib.Nat.{zero-add, add-zero, add-suc, suc-add}
use native.Mathlib.Omega.{arith}
use mathlib.Core.Path.{◌≡◌, refl, sym, ap, ap₂, ◌∙◌, subst}
use mathlib.Core.Bool.{true}
use mathlib.Core.List.{List, [], ◌∷◌, ◌++◌, map, map-append}
use lib.Dec.{ltb}
use lib.ListN.{length, get_or, set, length-map, length-set}
use lib.Seq.{get_or-set_same, get_or-set_other}
use borrow.Author.Tests.{ltb-true}
use Rattle.base_lists.specs.Lists.{all, up_from}
use Rattle.base_lists.proofs.Choice.{both}
use Rattle.base_lists.proofs.Tests.{all_get_d}
use Rattle.base_lists.proofs.UpFrom.{up_from_add, length-up_from, get_d_up_from}
use Rattle.archive_report_model.specs.Report.{Line, no_line, is_rising, sum_by, rows_of_line}
use Rattle.archive_report.specs.Lines.{line_length, line_at, lines_from, lines_at}
use Rattle.archive_report.specs.Private.{total_of, Ordered, Stored, Inserted}

module _ (xs : List ℕ) where
  pub lines-count : (a n : ℕ) → length (lines_from xs a n) ≡ n
  unfolding lines_from
  lines-count a n = length-map (up_from a n) (line_at xs) ∙ length-up_from a n

  pub line_at_lem : (n i : ℕ) → i < n → get_or (lines_at xs n) i no_line ≡ line_at xs i
  unfolding lines_from
  line_at_lem n i h = get_d_up_from (line_at xs) 0 n i no_line h ∙ ap (line_at xs) (zero-add i)

  pub lines_split : (r n : ℕ) → r ≤ n → lines_at xs n ≡ lines_at xs r ++ lines_from xs r (n - r)
  unfolding lines_from
  lines_split r n h =
      let e : n ≡ r + (n - r) = omega arith in
      ap (λ (k : ℕ). map (line_at xs) (up_from 0 k)) e ∙ ap (map (line_at xs)) (up_from_add 0 r (n - r))
      ∙ map-append (line_at xs) (up_from 0 r) (up_from (0 + r) (n - r))
      ∙ ap (λ (k : ℕ). map (line_at xs) (up_from 0 r) ++ map (line_at xs) (up_from k (n - r))) (zero-add r)

  pub lines_next : (a n : ℕ) → lines_from xs a (suc n) ≡ line_at xs a ∷ lines_from xs (suc a) n
  unfolding lines_from up_from
  lines_next a n = refl

  pub lines_none : (a : ℕ) → lines_from xs a 0 ≡ []
  unfolding lines_from up_from
  lines_none a = refl

pub lines_same : (xs ys : List ℕ) (a b n : ℕ)
    → ((i : ℕ) → i < n → line_at xs (a + i) ≡ line_at ys (b + i)) → lines_from xs a n ≡ lines_from ys b n
lines_same xs ys a b zero h = lines_none xs a ∙ sym (lines_none ys b)
lines_same xs ys a b (suc n) h =
    lines_next xs a n
    ∙ ap₂ ◌∷◌ (ap (line_at xs) (sym (add-zero a)) ∙ h 0 (omega arith) ∙ ap (line_at ys) (add-zero b))
    (lines_same xs ys (suc a) (suc b) n
    (λ i l. ap (line_at xs) (suc-add a i ∙ sym (add-suc a i)) ∙ h (suc i) (omega arith)
    ∙ ap (line_at ys) (add-suc b i ∙ sym (suc-add b i))))
    ∙ sym (lines_next ys b n)

-- ---- what holds of each line

pairwise_at : (l : List Line) (i j : ℕ) → is_rising l ≡ true → i < j
    → j < length l → (get_or l i no_line).identity < (get_or l j no_line).identity
pairwise_at [] i j t h k = absurd (omega arith)
pairwise_at (c ∷ l) i zero t h k = absurd (omega arith)
pairwise_at (c ∷ l) zero (suc j) t h k =
    let w = both (all (λ b. ltb c.identity b.identity) l) (is_rising l) t in
    ltb-true c.identity (get_or l j no_line).identity
    (all_get_d (λ (b : Line). ltb c.identity b.identity) l j no_line w.0 (omega arith))
pairwise_at (c ∷ l) (suc i) (suc j) t h k =
    let w = both (all (λ b. ltb c.identity b.identity) l) (is_rising l) t in
    pairwise_at l i j w.1 (omega arith) (omega arith)

pub ordered_of : (xs : List ℕ) (n : ℕ) → is_rising (lines_at xs n) ≡ true → Ordered xs n
ordered_of xs n t i j h k =
    let p = pairwise_at (lines_at xs n) i j t h (omega (arith, lines-count xs 0 n)) in
    let e = ap (λ (a : Line). a.identity) (line_at_lem xs n i (omega arith)) in
    let f = ap (λ (a : Line). a.identity) (line_at_lem xs n j k) in
    omega (arith, p, e, f)

sum_at : (f : Line → ℕ) (l : List Line) (i : ℕ) → i < length l → f (get_or l i no_line) ≤ sum_by f l
sum_at f [] i h = absurd (omega arith)
sum_at f (c ∷ l) zero h = omega arith
sum_at f (c ∷ l) (suc i) h = omega (arith, sum_at f l i (omega arith))

pub total_at : (xs : List ℕ) (n i : ℕ) → i < n → rows_of_line (line_at xs i) ≤ total_of (lines_at xs n)
total_at xs n i h =
    subst (λ (a : Line). rows_of_line a ≤ total_of (lines_at xs n)) (line_at_lem xs n i h)
    (sum_at rows_of_line (lines_at xs n) i (omega (arith, lines-count xs 0 n)))

-- ---- a line is written

module _ (xs : List ℕ) (at a b c d e : ℕ) (fits : at + line_length ≤ length xs) where
  abbrev x1 : List ℕ
  x1 = set xs at a

  abbrev x2 : List ℕ
  x2 = set x1 (at + 1) b

  abbrev x3 : List ℕ
  x3 = set x2 (at + 2) c

  abbrev x4 : List ℕ
  x4 = set x3 (at + 3) d

  abbrev x5 : List ℕ
  x5 = set x4 (at + 4) e

  length1 : length x1 ≡ length xs
  length1 = length-set xs at a

  length2 : length x2 ≡ length xs
  length2 = length-set x1 (at + 1) b ∙ length1

  length3 : length x3 ≡ length xs
  length3 = length-set x2 (at + 2) c ∙ length2

  length4 : length x4 ≡ length xs
  length4 = length-set x3 (at + 3) d ∙ length3

  pub five_length : length x5 ≡ length xs
  five_length = length-set x4 (at + 4) e ∙ length4

  pub five_other : (k : ℕ) → (k ≡ at → ⊥) → (k ≡ at + 1 → ⊥) → (k ≡ at + 2 → ⊥)
      → (k ≡ at + 3 → ⊥) → (k ≡ at + 4 → ⊥) → get_or x5 k 0 ≡ get_or xs k 0
  five_other k n0 n1 n2 n3 n4 =
      get_or-set_other x4 (at + 4) k e 0 n4 ∙ get_or-set_other x3 (at + 3) k d 0 n3
      ∙ get_or-set_other x2 (at + 2) k c 0 n2
      ∙ get_or-set_other x1 (at + 1) k b 0 n1 ∙ get_or-set_other xs at k a 0 n0

  pub five_0 : get_or x5 at 0 ≡ a
  five_0 =
      get_or-set_other x4 (at + 4) at e 0 (λ q. omega arith) ∙ get_or-set_other x3 (at + 3) at d 0 (λ q. omega arith)
      ∙ get_or-set_other x2 (at + 2) at c 0 (λ q. omega arith)
      ∙ get_or-set_other x1 (at + 1) at b 0 (λ q. omega arith) ∙ get_or-set_same xs at a 0 (omega arith)

  pub five_1 : get_or x5 (at + 1) 0 ≡ b
  five_1 =
      get_or-set_other x4 (at + 4) (at + 1) e 0 (λ q. omega arith)
      ∙ get_or-set_other x3 (at + 3) (at + 1) d 0 (λ q. omega arith)
      ∙ get_or-set_other x2 (at + 2) (at + 1) c 0 (λ q. omega arith)
      ∙ get_or-set_same x1 (at + 1) b 0 (omega (arith, length1))

  pub five_2 : get_or x5 (at + 2) 0 ≡ c
  five_2 =
      get_or-set_other x4 (at + 4) (at + 2) e 0 (λ q. omega arith)
      ∙ get_or-set_other x3 (at + 3) (at + 2) d 0 (λ q. omega arith)
      ∙ get_or-set_same x2 (at + 2) c 0 (omega (arith, length2))

  pub five_3 : get_or x5 (at + 3) 0 ≡ d
  five_3 =
      get_or-set_other x4 (at + 4) (at + 3) e 0 (λ q. omega arith)
      ∙ get_or-set_same x3 (at + 3) d 0 (omega (arith, length3))

  pub five_4 : get_or x5 (at + 4) 0 ≡ e
  five_4 = get_or-set_same x4 (at + 4) e 0 (omega (arith, length4))

pub stored-line : (xs : List ℕ) (i : ℕ) (a b c d e : ℕ) → line_length * i + line_length ≤ length xs
    → Stored i (record { identity = a; kept = b; loose = c; earliest = d; latest = e }) xs
    (set (set (set (set (set xs (line_length * i) a) (line_length * i + 1) b) (line_length * i + 2) c)
    (line_length * i + 3) d)
    (line_length * i + 4) e)
stored-line xs i a b c d e fits =
    let at = line_length * i in
    record {
      long = five_length xs at a b c d e fits;
      here =
          λ t. record {
            identity = five_0 xs at a b c d e fits t;
            kept = five_1 xs at a b c d e fits t;
            loose = five_2 xs at a b c d e fits t;
            earliest = five_3 xs at a b c d e fits t;
            latest = five_4 xs at a b c d e fits t;
          };
      elsewhere =
          λ j n.
          let clear : (k : ℕ) → k < line_length
          → get_or (x5 xs at a b c d e fits) (line_length * j + k) 0 ≡ get_or xs (line_length * j + k) 0 =
          λ k h.
          five_other xs at a b c d e fits (line_length * j + k) (λ q. n (omega arith)) (λ q. n (omega arith))
          (λ q. n (omega arith)) (λ q. n (omega arith)) (λ q. n (omega arith)) in
          let first : get_or (x5 xs at a b c d e fits) (line_length * j) 0 ≡ get_or xs (line_length * j) 0 =
          five_other xs at a b c d e fits (line_length * j) (λ q. n (omega arith)) (λ q. n (omega arith))
          (λ q. n (omega arith)) (λ q. n (omega arith)) (λ q. n (omega arith)) in
          λ t. record {
            identity = first t;
            kept = clear 1 (omega arith) t;
            loose = clear 2 (omega arith) t;
            earliest = clear 3 (omega arith) t;
            latest = clear 4 (omega arith) t;
          };
      behind =
          λ k h.
          five_other xs at a b c d e fits k (λ q. omega arith) (λ q. omega arith)
          (λ q. omega arith) (λ q. omega arith) (λ q. omega arith);
    }

pub stored_as : {i : ℕ} {old new : List ℕ} {a b : Line} → a ≡ b → Stored i a old new → Stored i b old new
stored_as {i} {old} {new} e s = subst (λ (x : Line). Stored i x old new) e s

pub inserted_as : {n r : ℕ} {old new : List ℕ} {a b : Line} → a ≡ b → Inserted n a old new r → Inserted n b old new r
inserted_as {n} {r} {old} {new} e s = subst (λ (x : Line). Inserted n x old new r) e s
