-- Rows that give a line, and lines: what archives could be taken for a report.
--     made-fit, made-line          a row of any transmitter, time and kind
--     insert-twice                 two lines of one transmitter, one after the other
--     rows-line                    the rows of a line give it
--     rows-lines                   and those of all lines give them
use Prim.Native.Nat.{ℕ, zero, suc, ◌+◌, ◌-◌, ◌^◌, ◌<◌, ◌≤◌, min, max}
use native.Mathlib.Omega.{arith}
use mathlib.Core.Path.{◌≡◌, refl, sym, ap, ◌∙◌}
use mathlib.Core.Bool.{Bool, true, false, cond, ◌&&◌, ◌||◌}
use mathlib.Core.List.{List, [], ◌∷◌, ◌++◌, map, flatten}
use lib.Dec.{ltb, eqb}
use lib.ListN.{length, get_or, take, replicate, length-append}
use lib.Seq.{get_or_at, take_at, take-append-le}
use borrow.Author.Tests.{lt-ltb, ltb-true, eq-eqb, eqb-true}
use Rattle.base_lists.specs.Lists.{all}
use Rattle.base_lists.proofs.Choice.{both}
use Rattle.base_lists.proofs.Tests.{and-true}
use Rattle.radio_erp1.specs.Subtelegram.{last_byte, body_of, hash_of, sealed_of, check_of, is_valid}
use Rattle.radio_erp1.proofs.Checks.{check-plain}
use Rattle.base_buffers.specs.Buffer.{part}
use Rattle.block_layout.specs.BigEndian.{be, unbe}
use Rattle.block_layout.proofs.BigEndian.{be-length, unbe-be}
use Rattle.archive_model.specs.Row.{Row, is_row}
use Rattle.archive_model.specs.Identity.{identity_of}
use Rattle.archive_model.specs.Claims.{is_fit}
use Rattle.base_numbers.specs.Bytes.{are_bytes}
use Rattle.archive_report_model.specs.Report.{Line, line_of_row, merged_line, insert, add_rows, is_line, is_rising}
use Rattle.archive_report_model.proofs.Order.{insert-cases, insert_before, insert_same, insert_after, insert_nil, add_comm-rows, add_append, add_none}
use Rattle.archive_report_model.proofs.Additions.{line_facts, is_line_of}
use Rattle.archive_report_model.proofs.Bytes.{all_append, all_repeated, all_flat}
use Rattle.archive_report_model.proofs.Written.{be-bytes, hash_byte, is_plain}

-- ---- a subtelegram of any transmitter: RORG and DATA zero, STATUS zero

abbrev body_for : ℕ → List ℕ
body_for i = 0 ∷ 0 ∷ (be 4 i ++ (0 ∷ []))

unfoldable pub bytes_for : ℕ → List ℕ
bytes_for i = sealed_of (body_for i)

body_length_lem : (i : ℕ) → length (body_for i) ≡ 7
body_length_lem i = omega (arith, length-append (be 4 i) (0 ∷ []), be-length 4 i)

bytes-length : (i : ℕ) → length (bytes_for i) ≡ 8
unfolding bytes_for
bytes-length i = omega (arith, length-append (body_for i) (hash_of (body_for i) ∷ []), body_length_lem i)

bytes_hashed : (i : ℕ) → last_byte (bytes_for i) ≡ hash_of (body_of (bytes_for i))
unfolding bytes_for
bytes_hashed i =
    let e : length (sealed_of (body_for i)) - 1 ≡ 7 =
    omega (arith, length-append (body_for i) (hash_of (body_for i) ∷ []), body_length_lem i) in
    ap (λ (n : ℕ). get_or (sealed_of (body_for i)) n 0) e
    ∙ get_or_at (body_for i) (hash_of (body_for i)) [] 0 7 (body_length_lem i)
    ∙ ap hash_of
    (sym (ap (λ (n : ℕ). take n (sealed_of (body_for i))) e
    ∙ take_at (body_for i) (hash_of (body_for i) ∷ []) 7 (body_length_lem i)))

bytes-plain : (i : ℕ) → get_or (bytes_for i) 0 0 ≡ 0
unfolding bytes_for
bytes-plain i = refl

bytes-valid : (i : ℕ) → is_valid (bytes_for i) ≡ true
bytes-valid i =
    eq-eqb (check_of (bytes_for i)) 0
    (sym (check-plain (bytes_for i) (omega (arith, bytes-length i))
    (omega (arith, bytes-length i)) (bytes_hashed i) (λ e. omega (arith, bytes-plain i, e))))

bytes_are : (i : ℕ) → are_bytes (bytes_for i) ≡ true
unfolding bytes_for
bytes_are i =
    let body : are_bytes (body_for i) ≡ true = all_append (λ b. ltb b 256) (be 4 i) (0 ∷ []) (be-bytes 4 i) refl in
    all_append (λ b. ltb b 256) (body_for i) (hash_of (body_for i) ∷ []) body
    (and-true (lt-ltb (hash_of (body_for i)) 256 (hash_byte (body_for i) body)) refl)

abbrev made : ℕ → ℕ → Bool → Row
made i time loose = record { bytes = bytes_for i; time = time; loose = loose }

made_identity : (i time : ℕ) (loose : Bool) → i < 2 ^ 32 → identity_of (made i time loose) ≡ i
unfolding bytes_for
made_identity i time loose h =
    let e : length (sealed_of (body_for i)) - 6 ≡ 2 =
    omega (arith, length-append (body_for i) (hash_of (body_for i) ∷ []), body_length_lem i) in
    let zero : List ℕ = 0 ∷ [] in
    let four : take 4 (be 4 i ++ zero ++ (hash_of (body_for i) ∷ [])) ≡ be 4 i =
    take-append-le 4 (be 4 i ++ zero) (hash_of (body_for i) ∷ [])
    (omega (arith, length-append (be 4 i) zero, be-length 4 i))
    ∙ take_at (be 4 i) zero 4 (be-length 4 i) in
    ap (λ (n : ℕ). unbe (part n 4 (sealed_of (body_for i)))) e ∙ ap unbe four ∙ unbe-be 4 i h

made_fit : (i time : ℕ) (loose : Bool) → time < 2 ^ 64 → is_fit (made i time loose) ≡ true
made_fit i time loose h = and-true (bytes-valid i) (lt-ltb time (2 ^ 64) h)

-- ---- two lines of one transmitter

joined_assoc : (a b c : Line) → merged_line a (merged_line b c) ≡ merged_line (merged_line a b) c
joined_assoc a b c =
    let k : (merged_line a (merged_line b c)).kept ≡ (merged_line (merged_line a b) c).kept = omega arith in
    let l : (merged_line a (merged_line b c)).loose ≡ (merged_line (merged_line a b) c).loose = omega arith in
    let s : (merged_line a (merged_line b c)).earliest ≡ (merged_line (merged_line a b) c).earliest = omega arith in
    let t : (merged_line a (merged_line b c)).latest ≡ (merged_line (merged_line a b) c).latest = omega arith in
    λ i. record { identity = a.identity; kept = k i; loose = l i; earliest = s i; latest = t i }

insert-twice : (a b : Line) (l : List Line) → a.identity ≡ b.identity
    → insert a (insert b l) ≡ insert (merged_line a b) l
insert-twice a b [] e = ap (insert a) (insert_nil b) ∙ insert_same a b [] e ∙ sym (insert_nil (merged_line a b))
insert-twice a b (c ∷ l) e =
    insert-cases (λ (m : List Line). insert a m ≡ insert (merged_line a b) (c ∷ l)) b c l
    (λ k. insert_same a b (c ∷ l) e ∙ sym (insert_before (merged_line a b) c l (omega arith)))
    (λ k. insert_same a (merged_line b c) l e ∙ ap (λ (x : Line). x ∷ l) (joined_assoc a b c)
    ∙ sym (insert_same (merged_line a b) c l (e ∙ k)))
    (λ k. insert_after a c (insert b l) (omega arith) ∙ ap (λ (m : List Line). c ∷ m) (insert-twice a b l e)
    ∙ sym (insert_after (merged_line a b) c l (omega arith)))

-- ---- a row many times

abbrev grown : ℕ → Row → Line → Line
grown zero r x = x
grown (suc n) r x = grown n r (merged_line (line_of_row r) x)

grown-added : (n : ℕ) (r : Row) (x : Line) (l : List Line) → identity_of r ≡ x.identity
    → add_rows (replicate n r) (insert x l) ≡ insert (grown n r x) l
unfolding add_rows
grown-added zero r x l e = refl
grown-added (suc n) r x l e =
    ap (add_rows (replicate n r)) (insert-twice (line_of_row r) x l e)
    ∙ grown-added n r (merged_line (line_of_row r) x) l refl

-- the earliest time after n rows at time e
abbrev lower : ℕ → ℕ → ℕ → ℕ
lower zero e y = y
lower (suc n) e y = min e y

lower_again : (n e y : ℕ) → lower n e (min e y) ≡ min e y
lower_again zero e y = refl
lower_again (suc n) e y = omega arith

grown_is : (n i e : ℕ) (loose : Bool) (x : Line) → i < 2 ^ 32 → x.identity ≡ i → e ≤ x.latest
    → grown n (made i e loose) x
    ≡ record {
      identity = i;
      kept = x.kept + cond loose 0 n;
      loose = x.loose + cond loose n 0;
      earliest = lower n e x.earliest;
      latest = x.latest;
    }
grown_is zero i e loose x h s t =
    let k : x.kept ≡ x.kept + cond loose 0 0 = none loose x.kept in
    let l : x.loose ≡ x.loose + cond loose 0 0 = none loose x.loose in
    λ j. record { identity = s j; kept = k j; loose = l j; earliest = x.earliest; latest = x.latest }
  where
    none : (b : Bool) (n : ℕ) → n ≡ n + cond b 0 0
    none true n = omega arith
    none false n = omega arith
grown_is (suc n) i e loose x h s t =
    let y = merged_line (line_of_row (made i e loose)) x in
    let g : max e x.latest ≡ x.latest = omega arith in
    grown_is n i e loose y h (made_identity i e loose h) (omega arith)
    ∙ (λ j. record {
      identity = i;
      kept = kept loose x.kept j;
      loose = more loose x.loose j;
      earliest = lower_again n e x.earliest j;
      latest = g j;
    })
  where
    kept : (b : Bool) (k : ℕ) → cond b 0 1 + k + cond b 0 n ≡ k + cond b 0 (suc n)
    kept true k = omega arith
    kept false k = omega arith

    more : (b : Bool) (k : ℕ) → cond b 1 0 + k + cond b n 0 ≡ k + cond b (suc n) 0
    more true k = omega arith
    more false k = omega arith

-- ---- the rows of a line: one at the latest time, the others at the earliest

abbrev rows_for : ℕ → ℕ → ℕ → ℕ → ℕ → List Row
rows_for i e t (suc k) m = made i t false ∷ (replicate k (made i e false) ++ replicate m (made i e true))
rows_for i e t zero (suc m) = made i t true ∷ replicate m (made i e true)
rows_for i e t zero zero = []

lower_twice : (k m e t : ℕ) → e ≤ t → (ltb 1 (suc k + m) || eqb e t) ≡ true → lower m e (lower k e t) ≡ e
lower_twice zero zero e t h o = sym (eqb-true e t o)
lower_twice zero (suc m) e t h o = omega arith
lower_twice (suc k) zero e t h o = omega arith
lower_twice (suc k) (suc m) e t h o = omega arith

lower_once : (m e t : ℕ) → e ≤ t → (ltb 1 (suc m) || eqb e t) ≡ true → lower m e t ≡ e
lower_once zero e t h o = sym (eqb-true e t o)
lower_once (suc m) e t h o = omega arith

module _ (i e t : ℕ) (narrow : i < 2 ^ 32) (ordered : e ≤ t) (l : List Line) where
  abbrev first : Bool → Line
  first loose = line_of_row (made i t loose)

  kept_first : (k m : ℕ) → (ltb 1 (suc k + m) || eqb e t) ≡ true
      → add_rows (rows_for i e t (suc k) m) l
      ≡ insert (record { identity = i; kept = suc k; loose = m; earliest = e; latest = t }) l
  unfolding add_rows
  kept_first k m o =
      let a = made i e false in
      let b = made i e true in
      let x = first false in
      let g = grown_is k i e false x narrow (made_identity i t false narrow) ordered in
      let y : Line = record { identity = i; kept = 1 + k; loose = 0 + 0; earliest = lower k e t; latest = t } in
      let f = ap (grown m b) g ∙ grown_is m i e true y narrow refl ordered in
      let n : 1 + k + 0 ≡ suc k = omega arith in
      add_append (replicate k a) (replicate m b) (insert x l)
      ∙ ap (add_rows (replicate m b))
      (grown-added k a x l (made_identity i e false narrow ∙ sym (made_identity i t false narrow)))
      ∙ grown-added m b (grown k a x) l (made_identity i e true narrow ∙ sym (ap (λ (z : Line). z.identity) g))
      ∙ ap (λ (z : Line). insert z l)
      (f
      ∙ (λ j.
      record {
        identity = i;
        kept = n j;
        loose = zero_more m j;
        earliest = lower_twice k m e t ordered o j;
        latest = t;
      }))
    where
      zero_more : (m : ℕ) → 0 + 0 + m ≡ m
      zero_more m = omega arith

  loose_first : (m : ℕ) → (ltb 1 (suc m) || eqb e t) ≡ true
      → add_rows (rows_for i e t zero (suc m)) l
      ≡ insert (record { identity = i; kept = 0; loose = suc m; earliest = e; latest = t }) l
  unfolding add_rows
  loose_first m o =
      let b = made i e true in
      let x = first true in
      let g = grown_is m i e true x narrow (made_identity i t true narrow) ordered in
      let n : 1 + m ≡ suc m = omega arith in
      grown-added m b x l (made_identity i e true narrow ∙ sym (made_identity i t true narrow))
      ∙ ap (λ (z : Line). insert z l)
      (g
      ∙ (λ j. record { identity = i; kept = 0; loose = n j; earliest = lower_once m e t ordered o j; latest = t }))

  rows-line : (k m : ℕ) → 1 ≤ k + m → (ltb 1 (k + m) || eqb e t) ≡ true
      → add_rows (rows_for i e t k m) l
      ≡ insert (record { identity = i; kept = k; loose = m; earliest = e; latest = t }) l
  rows-line (suc k) m h o = kept_first k m o
  rows-line zero (suc m) h o = loose_first m (ap (λ (n : ℕ). ltb 1 n || eqb e t) (plus m) ∙ o)
    where
      plus : (m : ℕ) → suc m ≡ 0 + suc m
      plus m = omega arith
  rows-line zero zero h o = absurd (omega arith)

-- ---- and of all lines

unfoldable pub made_rows : List Line → List Row
made_rows lines = flatten (map (λ a. rows_for a.identity a.earliest a.latest a.kept a.loose) lines)

insert_front : (a : Line) (l : List Line) → all (λ b. ltb a.identity b.identity) l ≡ true → insert a l ≡ a ∷ l
insert_front a [] h = insert_nil a
insert_front a (c ∷ l) h =
    insert_before a c l (ltb-true a.identity c.identity (both (ltb a.identity c.identity) _ h).0)

pub rows-lines : (lines : List Line) → all is_line lines ≡ true
    → is_rising lines ≡ true → add_rows (made_rows lines) [] ≡ lines
unfolding made_rows flatten
rows-lines [] h r = add_none []
rows-lines (a ∷ lines) h r =
    let w = both (is_line a) (all is_line lines) h in
    let v = both (all (λ b. ltb a.identity b.identity) lines) (is_rising lines) r in
    let g = line_facts a w.0 in
    let own = rows_for a.identity a.earliest a.latest a.kept a.loose in
    add_append own (made_rows lines) [] ∙ add_comm-rows (made_rows lines) own []
    ∙ ap (add_rows own) (rows-lines lines w.1 v.1)
    ∙ rows-line a.identity a.earliest a.latest g.identity
    g.ordered lines a.kept a.loose g.some g.one
    ∙ insert_front a lines v.0

-- ---- they fit an archive, and each gives a line

is_made : Row → Bool
is_made r = is_fit r && (is_line (line_of_row r) && are_bytes r.bytes)

made_is : (i time : ℕ) (loose : Bool) → i < 2 ^ 32 → time < 2 ^ 64 → is_made (made i time loose) ≡ true
unfolding is_made
made_is i time loose n h =
    and-true (made_fit i time loose h)
    (and-true (is_line_of (made i time loose) (omega (arith, made_identity i time loose n)) h) (bytes_are i))

own_made : (i e t k m : ℕ) → i < 2 ^ 32 → e ≤ t → t < 2 ^ 64 → all is_made (rows_for i e t k m) ≡ true
own_made i e t (suc k) m n o h =
    and-true (made_is i t false n h)
    (all_append is_made (replicate k (made i e false)) (replicate m (made i e true))
    (all_repeated is_made k (made i e false) (made_is i e false n (omega arith)))
    (all_repeated is_made m (made i e true) (made_is i e true n (omega arith))))
own_made i e t zero (suc m) n o h =
    and-true (made_is i t true n h) (all_repeated is_made m (made i e true) (made_is i e true n (omega arith)))
own_made i e t zero zero n o h = refl

all_made : (lines : List Line) → all is_line lines ≡ true → all is_made (made_rows lines) ≡ true
unfolding made_rows
all_made lines h =
    all_flat is_made is_line (λ a. rows_for a.identity a.earliest a.latest a.kept a.loose)
    (λ a k. let g = line_facts a k in
    own_made a.identity a.earliest a.latest a.kept a.loose g.identity g.ordered g.times)
    lines h

all_weaker : (p q : Row → Bool) → ((r : Row) → p r ≡ true → q r ≡ true)
    → (rows : List Row) → all p rows ≡ true → all q rows ≡ true
all_weaker p q f [] h = refl
all_weaker p q f (r ∷ rows) h =
    let w = both (p r) (all p rows) h in
    and-true (f r w.0) (all_weaker p q f rows w.1)

pub all_fit : (lines : List Line) → all is_line lines ≡ true → all is_fit (made_rows lines) ≡ true
unfolding is_made
all_fit lines h = all_weaker is_made is_fit (λ r k. (both (is_fit r) _ k).0) (made_rows lines) (all_made lines h)

pub all_lines : (lines : List Line) → all is_line lines ≡ true
    → all (λ r. is_line (line_of_row r)) (made_rows lines) ≡ true
unfolding is_made
all_lines lines h =
    all_weaker is_made (λ r. is_line (line_of_row r))
    (λ r k. (both (is_line (line_of_row r)) (are_bytes r.bytes) (both (is_fit r) _ k).1).0)
    (made_rows lines) (all_made lines h)

pub all_plain : (lines : List Line) → all is_line lines ≡ true → all is_plain (made_rows lines) ≡ true
unfolding is_made
all_plain lines h =
    all_weaker is_made is_plain
    (λ r k.
    let w = both (is_fit r) _ k in
    and-true (both (is_row r) _ w.0).0 (both (is_line (line_of_row r)) (are_bytes r.bytes) w.1).1)
    (made_rows lines) (all_made lines h)
