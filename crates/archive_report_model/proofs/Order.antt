-- The order in which rows and archives are taken changes nothing (document 02, A12).
--     insert-cases                        where a line goes
--     insert_comm                         two lines are inserted in either order
--     add-insert, add-comm-rows           rows and a line, and rows and rows
--     add-append, add-first, add_none     rows put together, one row more, and none
use Prim.Native.Nat.{ℕ, ◌<◌, ◌≤◌}
use mathlib.Core.Path.{◌≡◌, refl, sym, ap, ◌∙◌, subst}
use mathlib.Core.List.{List, [], ◌∷◌, ◌++◌}
use native.Mathlib.Omega.{arith}
use native.Mathlib.Decide.{dec_lt}
use borrow.Author.Tests.{lt-ltb, le-ltb, eq-eqb, ne_eqb}
use Rattle.archive_model.specs.Row.{Row}
use Rattle.archive_report_model.specs.Report.{Line, line_of_row, merged_line, insert, add_rows}

-- three ways that two identities stand
data Sides (x y : ℕ) : Type 0 where
  before : x < y → Sides x y
  same : x ≡ y → Sides x y
  after : y < x → Sides x y

sides : (x y : ℕ) → Sides x y
sides x y = elim (dec_lt x y) [
  | yes h ↦ before h
  | no h ↦ elim (dec_lt y x) [
    | yes k ↦ after k
    | no k ↦ same (omega arith)
  ]
]

module _ (a c : Line) (l : List Line) where
  pub insert_before : a.identity < c.identity → insert a (c ∷ l) ≡ a ∷ c ∷ l
  unfolding insert
  insert_before h = rw (lt-ltb a.identity c.identity h)

  pub insert_same : a.identity ≡ c.identity → insert a (c ∷ l) ≡ merged_line a c ∷ l
  unfolding insert
  insert_same e =
      let h : c.identity ≤ a.identity = omega arith in
      rw (le-ltb a.identity c.identity h, eq-eqb a.identity c.identity e)

  pub insert_after : c.identity < a.identity → insert a (c ∷ l) ≡ c ∷ insert a l
  unfolding insert
  insert_after h =
      let k : c.identity ≤ a.identity = omega arith in
      let n : a.identity ≡ c.identity → ⊥ = λ e. omega arith in
      rw (le-ltb a.identity c.identity k, ne_eqb a.identity c.identity n)

-- what holds of a line inserted, by where it goes
pub insert-cases : (P : List Line → Type 0) (a c : Line) (l : List Line)
    → (a.identity < c.identity → P (a ∷ c ∷ l)) → (a.identity ≡ c.identity → P (merged_line a c ∷ l))
    → (c.identity < a.identity → P (c ∷ insert a l)) → P (insert a (c ∷ l))
insert-cases P a c l f g h = go (sides a.identity c.identity)
  where
    go : Sides a.identity c.identity → P (insert a (c ∷ l))
    go (before k) = subst P (sym (insert_before a c l k)) (f k)
    go (same k) = subst P (sym (insert_same a c l k)) (g k)
    go (after k) = subst P (sym (insert_after a c l k)) (h k)

joined_comm : (a b : Line) → a.identity ≡ b.identity → merged_line a b ≡ merged_line b a
joined_comm a b e =
    let k : (merged_line a b).kept ≡ (merged_line b a).kept = omega arith in
    let l : (merged_line a b).loose ≡ (merged_line b a).loose = omega arith in
    let s : (merged_line a b).earliest ≡ (merged_line b a).earliest = omega arith in
    let t : (merged_line a b).latest ≡ (merged_line b a).latest = omega arith in
    λ i. record { identity = e i; kept = k i; loose = l i; earliest = s i; latest = t i }

joined-left_comm : (a b c : Line) → a.identity ≡ b.identity
    → merged_line a (merged_line b c) ≡ merged_line b (merged_line a c)
joined-left_comm a b c e =
    let k : (merged_line a (merged_line b c)).kept ≡ (merged_line b (merged_line a c)).kept = omega arith in
    let l : (merged_line a (merged_line b c)).loose ≡ (merged_line b (merged_line a c)).loose = omega arith in
    let s : (merged_line a (merged_line b c)).earliest ≡ (merged_line b (merged_line a c)).earliest = omega arith in
    let t : (merged_line a (merged_line b c)).latest ≡ (merged_line b (merged_line a c)).latest = omega arith in
    λ i. record { identity = e i; kept = k i; loose = l i; earliest = s i; latest = t i }

-- both go in front of what follows
fronts : (a b : Line) (l : List Line) → Sides a.identity b.identity
    → insert a l ≡ a ∷ l → insert b l ≡ b ∷ l → insert a (b ∷ l) ≡ insert b (a ∷ l)
fronts a b l (before h) f g = insert_before a b l h ∙ ap (λ (m : List Line). a ∷ m) (sym g) ∙ sym (insert_after b a l h)
fronts a b l (same e) f g =
    insert_same a b l e ∙ ap (λ (x : Line). x ∷ l) (joined_comm a b e) ∙ sym (insert_same b a l (sym e))
fronts a b l (after h) f g = insert_after a b l h ∙ ap (λ (m : List Line). b ∷ m) f ∙ sym (insert_before b a l h)

-- a goes before c, and b is joined to it or goes behind it
over : (a b c : Line) (l : List Line) → a.identity < c.identity
    → Sides b.identity c.identity → c.identity ≤ b.identity
    → insert a (insert b (c ∷ l)) ≡ insert b (insert a (c ∷ l))
over a b c l h (before k) m = absurd (omega arith)
over a b c l h (same e) m =
    let k : a.identity < b.identity = omega arith in
    ap (insert a) (insert_same b c l e) ∙ insert_before a (merged_line b c) l k
    ∙ ap (λ (m : List Line). a ∷ m) (sym (insert_same b c l e))
    ∙ sym (insert_after b a (c ∷ l) k) ∙ ap (insert b) (sym (insert_before a c l h))
over a b c l h (after k) m =
    let n : a.identity < b.identity = omega arith in
    ap (insert a) (insert_after b c l k) ∙ insert_before a c (insert b l) h
    ∙ ap (λ (m : List Line). a ∷ m) (sym (insert_after b c l k))
    ∙ sym (insert_after b a (c ∷ l) n) ∙ ap (insert b) (sym (insert_before a c l h))

-- a is joined to c, and b goes behind it
beside : (a b c : Line) (l : List Line) → a.identity ≡ c.identity
    → c.identity < b.identity → insert a (insert b (c ∷ l)) ≡ insert b (insert a (c ∷ l))
beside a b c l e h =
    let k : a.identity < b.identity = omega arith in
    ap (insert a) (insert_after b c l h) ∙ insert_same a c (insert b l) e
    ∙ sym (insert_after b (merged_line a c) l k) ∙ ap (insert b) (sym (insert_same a c l e))

step : (a b c : Line) (l : List Line) → Sides a.identity c.identity
    → Sides b.identity c.identity → insert a (insert b l) ≡ insert b (insert a l)
    → insert a (insert b (c ∷ l)) ≡ insert b (insert a (c ∷ l))
step a b c l (before h) (before k) i =
    ap (insert a) (insert_before b c l k)
    ∙ fronts a b (c ∷ l) (sides a.identity b.identity) (insert_before a c l h) (insert_before b c l k)
    ∙ ap (insert b) (sym (insert_before a c l h))
step a b c l (before h) (same e) i = over a b c l h (same e) (omega arith)
step a b c l (before h) (after k) i = over a b c l h (after k) (omega arith)
step a b c l (same e) (before k) i = sym (over b a c l k (same e) (omega arith))
step a b c l (after h) (before k) i = sym (over b a c l k (after h) (omega arith))
step a b c l (same e) (same f) i =
    ap (insert a) (insert_same b c l f) ∙ insert_same a (merged_line b c) l (e ∙ sym f)
    ∙ ap (λ (x : Line). x ∷ l) (joined-left_comm a b c (e ∙ sym f))
    ∙ sym (insert_same b (merged_line a c) l (f ∙ sym e)) ∙ ap (insert b) (sym (insert_same a c l e))
step a b c l (same e) (after k) i = beside a b c l e k
step a b c l (after h) (same f) i = sym (beside b a c l f h)
step a b c l (after h) (after k) i =
    ap (insert a) (insert_after b c l k) ∙ insert_after a c (insert b l) h ∙ ap (λ (m : List Line). c ∷ m) i
    ∙ sym (insert_after b c (insert a l) k) ∙ ap (insert b) (sym (insert_after a c l h))

pub insert_nil : (a : Line) → insert a [] ≡ a ∷ []
unfolding insert
insert_nil a = refl

insert_comm : (a b : Line) (l : List Line) → insert a (insert b l) ≡ insert b (insert a l)
insert_comm a b [] =
    ap (insert a) (insert_nil b) ∙ fronts a b [] (sides a.identity b.identity) (insert_nil a) (insert_nil b)
    ∙ ap (insert b) (sym (insert_nil a))
insert_comm a b (c ∷ l) =
    step a b c l (sides a.identity c.identity) (sides b.identity c.identity) (insert_comm a b l)

-- rows and a line, and rows and rows, in either order
pub add_insert : (rows : List Row) (a : Line) (lines : List Line)
    → add_rows rows (insert a lines) ≡ insert a (add_rows rows lines)
unfolding add_rows
add_insert [] a lines = refl
add_insert (r ∷ rows) a lines =
    ap (add_rows rows) (insert_comm (line_of_row r) a lines) ∙ add_insert rows a (insert (line_of_row r) lines)

pub add_comm-rows : (xs ys : List Row) (lines : List Line)
    → add_rows xs (add_rows ys lines) ≡ add_rows ys (add_rows xs lines)
unfolding add_rows
add_comm-rows [] ys lines = refl
add_comm-rows (r ∷ xs) ys lines =
    ap (add_rows xs) (sym (add_insert ys (line_of_row r) lines)) ∙ add_comm-rows xs ys (insert (line_of_row r) lines)

pub add_append : (xs ys : List Row) (lines : List Line) → add_rows (xs ++ ys) lines ≡ add_rows ys (add_rows xs lines)
unfolding add_rows
add_append [] ys lines = refl
add_append (r ∷ xs) ys lines = add_append xs ys (insert (line_of_row r) lines)

-- the last row first
pub add_first : (r : Row) (rows : List Row) (lines : List Line)
    → add_rows (r ∷ rows) lines ≡ insert (line_of_row r) (add_rows rows lines)
unfolding add_rows
add_first r rows lines = add_insert rows (line_of_row r) lines

pub add_none : (lines : List Line) → add_rows [] lines ≡ lines
unfolding add_rows
add_none lines = refl
