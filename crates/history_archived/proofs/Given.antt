-- Rows as a list of times and a list of records, and back.
use mathlib.Core.Path.{◌≡◌, refl, sym, ap, ap₂, ◌∙◌}
use mathlib.Core.Bool.{Bool, true, false, cond}
use mathlib.Core.List.{List, [], ◌∷◌, ◌++◌, map, flatten, append_assoc}
use Prim.Native.Nat.{ℕ, suc, ◌+◌, ◌*◌, ◌≤◌, ◌<◌}
use native.Mathlib.Omega.{arith}
use native.Mathlib.Nat.{zero-add}
use lib.ListN.{length, get_or, take, drop, take-append-drop, length-drop}
use lib.Seq.{take-append_seam, drop-append-add, length-take-le}
use borrow.Author.Tests.{eqb-true}
use Rattle.base_lists.specs.Lists.{padded, all, up_from}
use Rattle.base_lists.proofs.Choice.{both}
use Rattle.base_lists.proofs.UpFrom.{map-moved}
use Rattle.base_buffers.specs.Buffer.{part}
use Rattle.base_buffers.proofs.Buffer.{padded-length, resized-back}
use Rattle.radio_erp1.specs.Subtelegram.{max_length, check_of}
use Rattle.radio_erp1.proofs.Checks.{check_facts}
use Rattle.archive_model.specs.Row.{Row, is_row}
use Rattle.archive_model.specs.Claims.{is_fit}
use Rattle.archive_fill.specs.Fill.{row_length, row_given, rows_given, check_rows}

-- the record of a row but its time
abbrev pub record_bytes : Row → List ℕ
record_bytes r = cond r.loose 1 0 ∷ length r.bytes ∷ padded max_length r.bytes

abbrev pub times_of : List Row → List ℕ
times_of rows = map (λ (r : Row). r.time) rows

abbrev pub records_of : List Row → List ℕ
records_of rows = flatten (map record_bytes rows)

-- ---- one row

pub fit-short : (r : Row) → is_fit r ≡ true → length r.bytes ≤ max_length
fit-short r e = (check_facts r.bytes (eqb-true (check_of r.bytes) 0 (both (is_row r) _ e).0)).high

record_long : (r : Row) → length r.bytes ≤ max_length → length (record_bytes r) ≡ row_length
record_long r h = omega (arith, padded-length max_length r.bytes h)

record_back : (r : Row) → length r.bytes ≤ max_length → row_given r.time (record_bytes r) ≡ r
record_back r h = go r.loose refl
  where
    go : (t : Bool) → r.loose ≡ t → row_given r.time (record_bytes r) ≡ r
    go true e = rw (e, resized-back max_length r.bytes h)
    go false e = rw (e, resized-back max_length r.bytes h)

-- ---- rows

first_given : (t : ℕ) (ts r rs : List ℕ) → length r ≡ row_length
    → rows_given (t ∷ ts) (r ++ rs) ≡ row_given t r ∷ rows_given ts rs
unfolding rows_given up_from
first_given t ts r rs e =
    let f : ℕ → Row = λ i. row_given (get_or (t ∷ ts) i 0) (part (row_length * i) row_length (r ++ rs)) in
    let g : ℕ → Row = λ i. row_given (get_or ts i 0) (part (row_length * i) row_length rs) in
    let front : part (row_length * 0) row_length (r ++ rs) ≡ r = rw (← e) (take-append_seam r rs) in
    let next : (i : ℕ) → i < length ts → f (1 + i) ≡ g (0 + i) = λ i k.
    let z : row_length * (1 + i) ≡ length r + row_length * i = omega arith in
    let d : drop (row_length * (1 + i)) (r ++ rs) ≡ drop (row_length * i) rs =
    rw z (drop-append-add r rs (row_length * i)) in
    let s : 1 + i ≡ suc i = omega arith in
    rw (d, s, zero-add i)
    in
    ap₂ ◌∷◌ (ap (row_given t) front) (map-moved f g 1 0 (length ts) next)

-- times and records in two parts
pub given_append : (ts rs us qs : List ℕ) → length rs ≡ row_length * length ts
    → rows_given (ts ++ us) (rs ++ qs) ≡ rows_given ts rs ++ rows_given us qs
unfolding rows_given up_from
given_append [] [] us qs e = refl
given_append [] (r ∷ rs) us qs e = absurd (omega arith)
given_append (t ∷ ts) rs us qs e =
    let r = take row_length rs in
    let rest = drop row_length rs in
    let long : length r ≡ row_length = length-take-le row_length rs (omega arith) in
    let split : rs ≡ r ++ rest = sym (take-append-drop row_length rs) in
    let ih = given_append ts rest us qs (omega (arith, length-drop row_length rs)) in
    ap (λ (l : List ℕ). rows_given (t ∷ (ts ++ us)) (l ++ qs)) split
    ∙ ap (rows_given (t ∷ (ts ++ us))) (append_assoc r rest qs)
    ∙ first_given t (ts ++ us) r (rest ++ qs) long
    ∙ ap (λ (l : List Row). row_given t r ∷ l) ih
    ∙ ap (λ (l : List Row). l ++ rows_given us qs)
    (sym (first_given t ts r rest long) ∙ ap (rows_given (t ∷ ts)) (sym split))

pub given_back : (rows : List Row) → all is_fit rows ≡ true → rows_given (times_of rows) (records_of rows) ≡ rows
unfolding rows_given up_from flatten
given_back [] e = refl
given_back (r ∷ rows) e =
    let w = both (is_fit r) (all is_fit rows) e in
    let h = fit-short r w.0 in
    first_given r.time (times_of rows) (record_bytes r) (records_of rows) (record_long r h)
    ∙ ap₂ ◌∷◌ (record_back r h) (given_back rows w.1)

pub times_append : (xs ys : List Row) → times_of (xs ++ ys) ≡ times_of xs ++ times_of ys
times_append [] ys = refl
times_append (x ∷ xs) ys = ap (λ (l : List ℕ). x.time ∷ l) (times_append xs ys)

pub records_append : (xs ys : List Row) → records_of (xs ++ ys) ≡ records_of xs ++ records_of ys
unfolding flatten
records_append [] ys = refl
records_append (x ∷ xs) ys =
    ap (λ (l : List ℕ). record_bytes x ++ l) (records_append xs ys)
    ∙ sym (append_assoc (record_bytes x) (records_of xs) (records_of ys))

-- the check refuses none of them
pub none_refused : (rows : List Row) (i : ℕ) → all is_fit rows ≡ true → (check_rows i rows).number ≡ 0
unfolding check_rows
none_refused [] i e = refl
none_refused (r ∷ rows) i e =
    let w = both (is_fit r) (all is_fit rows) e in
    rw (both (is_row r) _ w.0).0 (none_refused rows (i + 1) w.1)
