-- Where a line goes: the search for its place, the gap that is made for it, and what the lines then are.
--     Bracket, bracket-start, bracket-half, bracket-place                 the search
--     joined-there, put-there, no_room                                    the three ends of `add_row`
use Prim.Native.Nat.{ℕ, zero, suc, ◌+◌, ◌-◌, ◌*◌, ◌≤◌, ◌<◌}
use native.Mathlib.Decide.{dec_lt}
use native.Mathlib.Nat.{zero-add}
use native.Mathlib.Omega.{arith}
use mathlib.Core.Path.{◌≡◌, refl, sym, ap, ap₂, ◌∙◌}
use mathlib.Core.Bool.{true, false, cond, ◌&&◌, false≢true}
use mathlib.Core.List.{List, [], ◌∷◌, ◌++◌}
use lib.Dec.{ltb, leb, eqb}
use lib.ListN.{length, get_or, length-append}
use borrow.Author.Tests.{lt-ltb, ltb-true, ltb-false, leb-true, leb-false, eq-eqb, eqb-true}
use Rattle.base_lists.specs.Lists.{all}
use Rattle.base_lists.proofs.Choice.{both}
use Rattle.base_lists.proofs.Tests.{and-true, by_test}
use Rattle.archive_report_model.specs.Report.{Line, max_lines, merged_line, insert}
use Rattle.archive_report_model.proofs.Order.{insert_before, insert_same, insert_after, insert_nil}
use Rattle.archive_report.specs.Lines.{line_length, line_at, lines_from, lines_at}
use Rattle.archive_report.specs.Private.{Ordered, Place, Gap, Stored, Inserted}
use Rattle.archive_report.proofs.Windows.{lines-count, lines_split, lines_next, lines_none, lines_same}

-- ---- the search

-- lines before `low` are below x, lines from `low + size` on are not
pub record Bracket (xs : List ℕ) (n x low size : ℕ) : Type 0 where
  pub within : low ≤ n
  pub few : low + size ≤ max_lines
  pub below : (i : ℕ) → i < low → (line_at xs i).identity < x
  pub above : (i : ℕ) → low + size ≤ i → i < n → x ≤ (line_at xs i).identity

module _ (xs : List ℕ) (n x : ℕ) where
  pub bracket_start : (most : ℕ) → n ≤ most → most ≤ max_lines → Bracket xs n x 0 most
  bracket_start most h k = record {
    within = omega arith;
    few = omega arith;
    below = λ i l. absurd (omega arith);
    above = λ i l m. absurd (omega arith);
  }

  -- a turn: the last line of one half tells which half is left, and of an odd size the greater one comes first
  module _ (order : Ordered xs n) (low size half end r : ℕ) (b : Bracket xs n x low size)
      (one : 1 ≤ half) (two : half ≤ size - half + 1) (most : half ≤ size) (e : end ≡ low + half) where
    abbrev last : ℕ
    last = end - 1

    up : end ≤ n → (line_at xs last).identity < x → r ≡ end → Bracket xs n x r (size - half)
    up h lt is = record {
      within = omega arith;
      few = omega (arith, b.few);
      below =
          λ i k. elim (dec_lt i last) [
            | yes s ↦ omega (arith, order i last s (omega arith), lt)
            | no s ↦ let f : i ≡ last = omega arith in omega (arith, ap (λ (m : ℕ). (line_at xs m).identity) f, lt)
          ];
      above = λ i k m. b.above i (omega arith) m;
    }

    down : (end ≤ n → x ≤ (line_at xs last).identity) → r ≡ low → Bracket xs n x r (size - half)
    down le is = record {
      within = omega (arith, b.within);
      few = omega (arith, b.few);
      below = λ i k. b.below i (omega arith);
      above =
          λ i k m. elim (dec_lt last i) [
            | yes s ↦ omega (arith, order last i s m, le (omega arith))
            | no s ↦ let f : i ≡ last = omega arith in
                omega (arith, ap (λ (m : ℕ). (line_at xs m).identity) f, le (omega arith))
          ];
    }

    pub bracket_half : r ≡ cond (leb end n && ltb (line_at xs last).identity x) end low → Bracket xs n x r (size - half)
    bracket_half is =
        by_test {X = Bracket xs n x r (size - half)} (leb end n)
        (λ t.
        by_test {X = Bracket xs n x r (size - half)} (ltb (line_at xs last).identity x)
        (λ u. up (leb-true end n t) (ltb-true (line_at xs last).identity x u) (is ∙ (rw (t, u))))
        (λ f. down (λ h. ltb-false (line_at xs last).identity x f) (is ∙ (rw (t, f)))))
        (λ f.
        let past : n < end = leb-false end n f in
        down (λ h. absurd (omega arith)) (is ∙ (rw f)))

  pub bracket_place : (low size : ℕ) → Bracket xs n x low size → size ≡ 0 → Place xs n x low
  bracket_place low size b z =
      record { within = b.within; below = b.below; above = λ i k m. b.above i (omega arith) m }

-- ---- a line inserted behind those before it

insert_behind : (a : Line) (front back : List Line) → all (λ b. ltb b.identity a.identity) front ≡ true
    → insert a (front ++ back) ≡ front ++ insert a back
insert_behind a [] back h = refl
insert_behind a (c ∷ front) back h =
    let w = both (ltb c.identity a.identity) (all (λ b. ltb b.identity a.identity) front) h in
    insert_after a c (front ++ back) (ltb-true c.identity a.identity w.0)
    ∙ ap (λ (l : List Line). c ∷ l) (insert_behind a front back w.1)

all_before : (xs : List ℕ) (x a r : ℕ) → ((i : ℕ) → i < a + r → (line_at xs i).identity < x)
    → all (λ b. ltb b.identity x) (lines_from xs a r) ≡ true
all_before xs x a zero h = ap (all (λ (b : Line). ltb b.identity x)) (lines_none xs a)
all_before xs x a (suc r) h =
    ap (all (λ (b : Line). ltb b.identity x)) (lines_next xs a r)
    ∙ and-true (lt-ltb (line_at xs a).identity x (h a (omega arith)))
    (all_before xs x (suc a) r (λ i k. h i (omega arith)))

strictly : (x y : ℕ) → x ≤ y → (y ≡ x → ⊥) → x < y
strictly x y h n = elim (dec_lt x y) [
  | yes k ↦ k
  | no k ↦ absurd (n (omega arith))
]

module _ (old : List ℕ) (n r : ℕ) (a : Line) (p : Place old n a.identity r) where
  -- the lines before it, and where it is inserted among the others
  split : insert a (lines_at old n) ≡ lines_at old r ++ insert a (lines_from old r (n - r))
  split =
      ap (insert a) (lines_split old r n p.within)
      ∙ insert_behind a (lines_at old r) (lines_from old r (n - r))
      (all_before old a.identity 0 r (λ i h. p.below i (omega arith)))

  module _ (there : r < n) (same : (line_at old r).identity ≡ a.identity) where
    at_line : insert a (lines_at old n)
        ≡ lines_at old r ++ (merged_line a (line_at old r) ∷ lines_from old (suc r) (n - suc r))
    at_line =
        let e : n - r ≡ suc (n - suc r) = omega arith in
        split
        ∙ ap (λ (l : List Line). lines_at old r ++ insert a l)
        (ap (lines_from old r) e ∙ lines_next old r (n - suc r))
        ∙ ap (λ (l : List Line). lines_at old r ++ l)
        (insert_same a (line_at old r) (lines_from old (suc r) (n - suc r)) (sym same))

    pub joined_there : (new : List ℕ) → Stored r (merged_line a (line_at old r)) old new → Inserted n a old new n
    joined_there new s =
        let e : n - r ≡ suc (n - suc r) = omega arith in
        let is : lines_at new n ≡ insert a (lines_at old n) =
        lines_split new r n p.within
        ∙ ap₂ ◌++◌ (lines_same new old 0 0 r (λ i h. s.elsewhere (0 + i) (λ q. omega arith)))
        (ap (lines_from new r) e ∙ lines_next new r (n - suc r)
        ∙ ap₂ ◌∷◌ s.here
        (lines_same new old (suc r) (suc r) (n - suc r) (λ i h. s.elsewhere (suc r + i) (λ q. omega arith))))
        ∙ sym at_line in
        record {
          long = s.long;
          count = sym (lines-count new 0 n) ∙ ap length is;
          lines = λ h. is;
          behind = λ k h. s.behind k (omega arith);
        }

  module _ (absent : r < n → (line_at old r).identity ≡ a.identity → ⊥) where
    new_line : insert a (lines_from old r (n - r)) ≡ a ∷ lines_from old r (n - r)
    new_line = elim (dec_lt r n) [
      | yes h ↦
          let e : n - r ≡ suc (n - suc r) = omega arith in
          let other = absent h in
          let le = p.above r (omega arith) h in
          let lt : a.identity < (line_at old r).identity = strictly a.identity (line_at old r).identity le other in
          let is = ap (lines_from old r) e ∙ lines_next old r (n - suc r) in
          ap (insert a) is ∙ insert_before a (line_at old r) (lines_from old (suc r) (n - suc r)) lt
          ∙ ap (λ (l : List Line). a ∷ l) (sym is)
      | no h ↦
          let e : n - r ≡ 0 = omega arith in
          let is = ap (lines_from old r) e ∙ lines_none old r in
          ap (insert a) is ∙ insert_nil a ∙ ap (λ (l : List Line). a ∷ l) (sym is)
    ]

    at_gap : insert a (lines_at old n) ≡ lines_at old r ++ (a ∷ lines_from old r (n - r))
    at_gap = split ∙ ap (λ (l : List Line). lines_at old r ++ l) new_line

    one_more : length (insert a (lines_at old n)) ≡ n + 1
    one_more =
        ap length at_gap ∙ length-append (lines_at old r) (a ∷ lines_from old r (n - r))
        ∙ omega (arith, lines-count old 0 r, lines-count old r (n - r), p.within)

    pub no_room : n ≡ max_lines → Inserted n a old old (n + 1)
    no_room e = record { long = refl; count = sym one_more; lines = λ h. absurd (omega arith); behind = λ k h. refl }

    -- the lines behind the gap
    moved-line : (mid new : List ℕ) → Gap (line_length * r) (line_length * n) old mid
        → Stored r a mid new → (i : ℕ) → i < n - r → line_at new (suc r + i) ≡ line_at old (r + i)
    moved-line mid new g s i h =
        let within = p.within in
        let at : (k j : ℕ) → k < line_length → j ≡ line_length * (r + i) + k + line_length
        → get_or mid j 0 ≡ get_or old (line_length * (r + i) + k) 0 =
        λ k j l e. ap (λ (m : ℕ). get_or mid m 0) e ∙ g.back (line_length * (r + i) + k) (omega arith) (omega arith) in
        let zeroth : line_length * (r + i) + 0 ≡ line_length * (r + i) = omega arith in
        let first : get_or mid (line_length * (suc r + i)) 0 ≡ get_or old (line_length * (r + i)) 0 =
        at 0 (line_length * (suc r + i)) (omega arith) (omega arith) ∙ ap (λ (m : ℕ). get_or old m 0) zeroth in
        s.elsewhere (suc r + i) (λ q. omega arith)
        ∙ (λ t. record {
          identity = first t;
          kept = at 1 (line_length * (suc r + i) + 1) (omega arith) (omega arith) t;
          loose = at 2 (line_length * (suc r + i) + 2) (omega arith) (omega arith) t;
          earliest = at 3 (line_length * (suc r + i) + 3) (omega arith) (omega arith) t;
          latest = at 4 (line_length * (suc r + i) + 4) (omega arith) (omega arith) t;
        })

    front_line : (mid new : List ℕ) → Gap (line_length * r) (line_length * n) old mid
        → Stored r a mid new → (i : ℕ) → i < r → line_at new i ≡ line_at old i
    front_line mid new g s i h =
        let at : (k : ℕ) → k < line_length → get_or mid (line_length * i + k) 0 ≡ get_or old (line_length * i + k) 0 =
        λ k l. g.front (line_length * i + k) (omega arith) in
        s.elsewhere i (λ q. omega arith)
        ∙ (λ t. record {
          identity = g.front (line_length * i) (omega arith) t;
          kept = at 1 (omega arith) t;
          loose = at 2 (omega arith) t;
          earliest = at 3 (omega arith) t;
          latest = at 4 (omega arith) t;
        })

    pub put_there : (mid new : List ℕ) → Gap (line_length * r) (line_length * n) old mid
        → Stored r a mid new → Inserted n a old new (n + 1)
    put_there mid new g s =
        let within = p.within in
        let e : n + 1 - r ≡ suc (n - r) = omega arith in
        let is : lines_at new (n + 1) ≡ insert a (lines_at old n) =
        lines_split new r (n + 1) (omega arith)
        ∙ ap₂ ◌++◌
        (lines_same new old 0 0 r
        (λ i h. ap (line_at new) (zero-add i) ∙ front_line mid new g s i h ∙ ap (line_at old) (sym (zero-add i))))
        (ap (lines_from new r) e ∙ lines_next new r (n - r)
        ∙ ap₂ ◌∷◌ s.here (lines_same new old (suc r) r (n - r) (moved-line mid new g s)))
        ∙ sym at_gap in
        record {
          long = s.long ∙ g.long;
          count = sym one_more;
          lines = λ h. is;
          behind = λ k h. s.behind k (omega arith) ∙ g.behind k (omega arith);
        }

-- ---- what the test of a line tells

module _ (xs : List ℕ) (n i x : ℕ) where
  pub is_there : (ltb i n && eqb (line_at xs i).identity x) ≡ true → (i < n) × ((line_at xs i).identity ≡ x)
  is_there h =
      let w = both (ltb i n) (eqb (line_at xs i).identity x) h in
      (ltb-true i n w.0, eqb-true (line_at xs i).identity x w.1)

  pub not_there : (ltb i n && eqb (line_at xs i).identity x) ≡ false → i < n → (line_at xs i).identity ≡ x → ⊥
  not_there h l e = false≢true (sym h ∙ and-true (lt-ltb i n l) (eq-eqb (line_at xs i).identity x e))
