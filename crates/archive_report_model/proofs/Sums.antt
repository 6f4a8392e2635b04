-- Every line says what the rows of its transmitter are.
--     insert-at, lines_at     the line of one identity, after one line more and after rows
--     given-counts            what the rows of one transmitter give
--     line-counts             so does every line
--     any-added               which transmitters have a line
use Prim.Native.Nat.{ℕ, ◌+◌, ◌<◌, ◌≤◌, min, max}
use native.Mathlib.Decide.{dec_lt}
use native.Mathlib.Omega.{arith}
use mathlib.Core.Path.{◌≡◌, refl, sym, ap, ◌∙◌, subst}
use mathlib.Core.Bool.{Bool, true, false, cond, not, ◌||◌}
use mathlib.Core.List.Memᴰ
use mathlib.Core.List.{List, [], ◌∷◌, Memᴰ}
use lib.Dec.{ltb, leb, eqb}
use borrow.Author.Tests.{eq-eqb, ne_eqb, eqb-true, ltb-true, leb-true, le-leb}
use Rattle.base_lists.specs.Lists.{keep, any, all}
use Rattle.base_lists.proofs.Choice.{both}
use Rattle.base_lists.proofs.Members.{all_of, all_at}
use Rattle.base_lists.proofs.Keep.{keep_in}
use Rattle.base_lists.proofs.Tests.{and-true, by_test}
use Rattle.archive_model.specs.Row.{Row}
use Rattle.archive_model.specs.Identity.{identity_of}
use Rattle.archive_report_model.specs.Report.{Line, line_of_row, merged_line, insert, add_rows, kept_in, loose_in, is_rising}
use Rattle.archive_report_model.specs.Claims.{rows_of_transmitter, is_least, is_greatest, SumsUp}
use Rattle.archive_report_model.proofs.Order.{insert-cases, insert_nil, add_first, add_none}
use Rattle.archive_report_model.proofs.Lines.{rising-added, above_all}

abbrev lines_at : ℕ → List Line → List Line
lines_at i l = keep (λ a. eqb a.identity i) l

-- a line joined to the one there is, if any
abbrev merged : Line → List Line → List Line
merged a [] = a ∷ []
merged a (b ∷ l) = merged_line a b ∷ l

none_at : (i : ℕ) (l : List Line) → all (λ b. ltb i b.identity) l ≡ true → lines_at i l ≡ []
none_at i [] h = refl
none_at i (c ∷ l) h =
    let w = both (ltb i c.identity) (all (λ b. ltb i b.identity) l) h in
    let lt : i < c.identity = ltb-true i c.identity w.0 in
    let n : c.identity ≡ i → ⊥ = λ e. omega arith in
    ap (λ (t : Bool). cond t (c ∷ lines_at i l) (lines_at i l)) (ne_eqb c.identity i n) ∙ none_at i l w.1

module _ (i : ℕ) (a : Line) where
  -- what it becomes
  abbrev after : List Line → List Line
  after l = cond (eqb a.identity i) (merged a l) l

  before_at : (m : List Line) → all (λ b. ltb a.identity b.identity) m ≡ true
      → lines_at i (a ∷ m) ≡ after (lines_at i m)
  before_at m h =
      by_test {X = lines_at i (a ∷ m) ≡ after (lines_at i m)} (eqb a.identity i)
      (λ t.
      let e : lines_at i m ≡ [] =
      ap (λ (j : ℕ). lines_at j m) (sym (eqb-true a.identity i t)) ∙ none_at a.identity m h in
      rw (t, e))
      (λ f. rw f)

  same_at : (c : Line) (l : List Line) → a.identity ≡ c.identity
      → lines_at i (merged_line a c ∷ l) ≡ after (lines_at i (c ∷ l))
  same_at c l e =
      by_test {X = lines_at i (merged_line a c ∷ l) ≡ after (lines_at i (c ∷ l))} (eqb a.identity i)
      (λ t. rw (← e, t))
      (λ f. rw (← e, f))

  behind_at : (c : Line) (l m : List Line) → c.identity < a.identity
      → lines_at i m ≡ after (lines_at i l) → lines_at i (c ∷ m) ≡ after (lines_at i (c ∷ l))
  behind_at c l m h k =
      by_test {X = lines_at i (c ∷ m) ≡ after (lines_at i (c ∷ l))} (eqb a.identity i)
      (λ t.
      let e : a.identity ≡ i = eqb-true a.identity i t in
      let n : c.identity ≡ i → ⊥ = λ f. omega arith in
      rw (ne_eqb c.identity i n, k))
      (λ f. rw (k, f))

  pub insert_at : (l : List Line) → is_rising l ≡ true → lines_at i (insert a l) ≡ after (lines_at i l)
  insert_at [] h = ap (lines_at i) (insert_nil a)
  insert_at (c ∷ l) h =
      let w = both (all (λ b. ltb c.identity b.identity) l) (is_rising l) h in
      insert-cases (λ (m : List Line). lines_at i m ≡ after (lines_at i (c ∷ l))) a c l
      (λ k. before_at (c ∷ l) (above_all a c l k w.0))
      (λ k. same_at c l k)
      (λ k. behind_at c l (insert a l) k (insert_at l w.1))

-- ---- the rows of one transmitter

abbrev given : List Row → List Line
given [] = []
given (r ∷ rows) = merged (line_of_row r) (given rows)

lines_at_lem : (i : ℕ) (rows : List Row) → lines_at i (add_rows rows []) ≡ given (rows_of_transmitter i rows)
lines_at_lem i [] = ap (lines_at i) (add_none [])
lines_at_lem i (r ∷ rows) =
    ap (lines_at i) (add_first r rows []) ∙ insert_at i (line_of_row r) (add_rows rows []) (rising-added [] rows refl)
    ∙ step (eqb (identity_of r) i) (lines_at_lem i rows)
  where
    step : (t : Bool) → lines_at i (add_rows rows []) ≡ given (rows_of_transmitter i rows)
        → cond t (merged (line_of_row r) (lines_at i (add_rows rows []))) (lines_at i (add_rows rows []))
        ≡ given (cond t (r ∷ rows_of_transmitter i rows) (rows_of_transmitter i rows))
    step true e = ap (merged (line_of_row r)) e
    step false e = e

kept_more : (r : Row) (rows : List Row) (n : ℕ) → n ≡ kept_in rows → (line_of_row r).kept + n ≡ kept_in (r ∷ rows)
kept_more r rows n e = go r.loose
  where
    go : (b : Bool) → cond b 0 1 + n ≡ cond (not b) (kept_in rows + 1) (kept_in rows)
    go true = omega arith
    go false = omega arith

loose-more : (r : Row) (rows : List Row) (n : ℕ) → n ≡ loose_in rows → (line_of_row r).loose + n ≡ loose_in (r ∷ rows)
loose-more r rows n e = go r.loose
  where
    go : (b : Bool) → cond b 1 0 + n ≡ cond b (loose_in rows + 1) (loose_in rows)
    go true = omega arith
    go false = omega arith

-- the least of one time more, and the greatest
module _ (r : Row) (rows : List Row) (e : ℕ) where
  or-true : (b : Bool) → (b || true) ≡ true
  or-true true = refl
  or-true false = refl

  first : any (λ s. eqb s.time r.time) (r ∷ rows) ≡ true
  first = ap (λ (t : Bool). t || any (λ s. eqb s.time r.time) rows) (eq-eqb r.time r.time refl)

  later : any (λ s. eqb s.time e) rows ≡ true → any (λ s. eqb s.time e) (r ∷ rows) ≡ true
  later h = ap (λ (t : Bool). eqb r.time e || t) h ∙ or-true (eqb r.time e)

  pub least_more : is_least e rows ≡ true → is_least (min r.time e) (r ∷ rows) ≡ true
  least_more h =
      let w = both (any (λ s. eqb s.time e) rows) (all (λ s. leb e s.time) rows) h in
      elim (dec_lt r.time e) [
        | yes k ↦
            let m : min r.time e ≡ r.time = omega arith in
            subst (λ (x : ℕ). is_least x (r ∷ rows) ≡ true) (sym m) (and-true first
            (and-true (le-leb r.time r.time (omega arith))
            (all_of (λ (s : Row). leb r.time s.time) rows
            (λ s n.
            let l : e ≤ s.time = leb-true e s.time (all_at (λ (s : Row). leb e s.time) n w.1) in
            le-leb r.time s.time (omega arith)))))
        | no k ↦
            let m : min r.time e ≡ e = omega arith in
            subst (λ (x : ℕ). is_least x (r ∷ rows) ≡ true) (sym m)
            (and-true (later w.0) (and-true (le-leb e r.time (omega arith)) w.1))
      ]

  pub greatest_more : is_greatest e rows ≡ true → is_greatest (max r.time e) (r ∷ rows) ≡ true
  greatest_more h =
      let w = both (any (λ s. eqb s.time e) rows) (all (λ s. leb s.time e) rows) h in
      elim (dec_lt e r.time) [
        | yes k ↦
            let m : max r.time e ≡ r.time = omega arith in
            subst (λ (x : ℕ). is_greatest x (r ∷ rows) ≡ true) (sym m) (and-true first
            (and-true (le-leb r.time r.time (omega arith))
            (all_of (λ (s : Row). leb s.time r.time) rows
            (λ s n.
            let l : s.time ≤ e = leb-true s.time e (all_at (λ (s : Row). leb s.time e) n w.1) in
            le-leb s.time r.time (omega arith)))))
        | no k ↦
            let m : max r.time e ≡ e = omega arith in
            subst (λ (x : ℕ). is_greatest x (r ∷ rows) ≡ true) (sym m)
            (and-true (later w.0) (and-true (le-leb r.time e (omega arith)) w.1))
      ]

given_one : (r : Row) → SumsUp (r ∷ []) (line_of_row r)
given_one r = record {
  kept = omega (arith, kept_more r [] 0 refl);
  loose = omega (arith, loose-more r [] 0 refl);
  earliest = and-true (first r [] 0) (and-true (le-leb r.time r.time (omega arith)) refl);
  latest = and-true (first r [] 0) (and-true (le-leb r.time r.time (omega arith)) refl);
}

given-counts : (r : Row) (rows : List Row) → (a : Line) × (given (r ∷ rows) ≡ a ∷ []) × SumsUp (r ∷ rows) a
given-counts r [] = (line_of_row r, refl, given_one r)
given-counts r (q ∷ rows) =
    let g = given-counts q rows in
    let a = g.0 in
    let c = g.2 in (
      merged_line (line_of_row r) a,
      ap (merged (line_of_row r)) g.1,
      record {
        kept = kept_more r (q ∷ rows) a.kept c.kept;
        loose = loose-more r (q ∷ rows) a.loose c.loose;
        earliest = least_more r (q ∷ rows) a.earliest c.earliest;
        latest = greatest_more r (q ∷ rows) a.latest c.latest;
      },
    )

pub line-counts : (rows : List Row) (a : Line) → Memᴰ a (add_rows rows [])
    → SumsUp (rows_of_transmitter a.identity rows) a
line-counts rows a m =
    let i = a.identity in
    go (rows_of_transmitter i rows)
    (subst (λ (l : List Line). Memᴰ a l) (lines_at_lem i rows)
    (keep_in (λ (b : Line). eqb b.identity i) m (eq-eqb i i refl)))
  where
    go : (own : List Row) → Memᴰ a (given own) → SumsUp own a
    go [] n = absurd (Memᴰ.not-nil n)
    go (r ∷ own) n =
        let g = given-counts r own in
        let e : a ≡ g.0 = Memᴰ.eq_of_singleton (subst (λ (l : List Line). Memᴰ a l) g.1 n) in
        subst (λ (b : Line). SumsUp (r ∷ own) b) (sym e) g.2

-- ---- which have a line

module _ (i : ℕ) where
  abbrev has_line : List Line → Bool
  has_line l = any (λ a. eqb a.identity i) l

  or_twice : (a b : Bool) → (a || b) ≡ (a || (a || b))
  or_twice true b = refl
  or_twice false b = refl

  or_swap : (a b c : Bool) → (a || (b || c)) ≡ (b || (a || c))
  or_swap true true c = refl
  or_swap true false c = refl
  or_swap false b c = refl

  any_insert : (a : Line) (l : List Line) → has_line (insert a l) ≡ (eqb a.identity i || has_line l)
  any_insert a [] = ap has_line (insert_nil a)
  any_insert a (c ∷ l) =
      insert-cases (λ (m : List Line). has_line m ≡ (eqb a.identity i || has_line (c ∷ l))) a c l
      (λ k. refl)
      (λ k. or_twice (eqb a.identity i) (has_line l)
      ∙ ap (λ (j : ℕ). eqb a.identity i || (eqb j i || has_line l)) k)
      (λ k. ap (λ (t : Bool). eqb c.identity i || t) (any_insert a l)
      ∙ or_swap (eqb c.identity i) (eqb a.identity i) (has_line l))

  pub any_added : (rows : List Row) → has_line (add_rows rows []) ≡ any (λ r. eqb (identity_of r) i) rows
  any_added [] = ap has_line (add_none [])
  any_added (r ∷ rows) =
      ap has_line (add_first r rows []) ∙ any_insert (line_of_row r) (add_rows rows [])
      ∙ ap (λ (t : Bool). eqb (identity_of r) i || t) (any_added rows)
