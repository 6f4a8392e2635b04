-- Rows that are compared with leftovers.
--     same-time, same_length, same-loose, same_bytes           the cases of `same_row`, each from the facts that its
-- tests give
--     agree-next, agree-stop, agree-end                        the loop over the rows
--     going-none, going-some, compare-new, compare-left, compare-done       the cases of `compare_call`
use Prim.Native.Nat.{ℕ, ◌+◌, ◌-◌, ◌*◌, ◌/◌, ◌%◌, ◌≤◌, ◌<◌, min}
use native.Mathlib.Numerals.{add-one}
use native.Mathlib.Omega.{arith}
use mathlib.Core.Path.{◌≡◌, refl, sym, ap, ap₂, ◌∙◌}
use mathlib.Core.Bool.{Bool, true, false, cond, not, ◌&&◌}
use mathlib.Core.List.{List, [], ◌∷◌, ◌++◌}
use lib.Dec.{leb, eqb}
use lib.ListN.{length, get_or, take, drop, replicate, length-drop, drop_of_length-le}
use lib.Seq.{drop-cons, take_all, take_at}
use borrow.Author.Tests.{eqb-true, eqb-false, leb-true, leb-false, eq-eqb, ne_eqb}
use Rattle.base_lists.specs.Lists.{equal}
use Rattle.base_lists.proofs.Choice.{cond-ap}
use Rattle.base_lists.proofs.Equal.{equal_eq, equal-refl, equal-said}
use Rattle.base_lists.proofs.Tests.{by_test}
use Rattle.base_refusal.specs.Number.{number_of}
use Rattle.base_refusal.specs.declared.Refusal.TheVariants.{Size}
use Rattle.base_buffers.specs.Buffer.{part, resized}
use Rattle.base_buffers.proofs.Buffer.{resized-length, resized_cut, resized-padded}
use Rattle.archive_model.specs.Row.{Row}
use Rattle.archive_model.specs.Append.{no_row}
use Rattle.archive_fill.specs.Fill.{row_length, row_given, rows_given}
use Rattle.journal_model.specs.Disk as disk
use Rattle.journal_calls.specs.Rows.{Compared, compared_rows, compare_call}

-- ---- two rows

and_no : (a b : Bool) → b ≡ false → false ≡ a && b
and_no true b h = sym h
and_no false b h = refl

and_yes : (a b : Bool) → b ≡ true → a ≡ a && b
and_yes true b h = sym h
and_yes false b h = refl

-- bytes of two lengths differ
lengths_differ : (n m : ℕ) (xs ys : List ℕ) → (m ≡ n → ⊥) → equal (resized n xs) (resized m ys) ≡ false
lengths_differ n m xs ys h =
    equal-said false (resized n xs) (resized m ys) (
      (λ z. absurd (let e : ◌≡◌ {A = Bool} false true = z in no e)),
      (λ z. absurd (h (sym (sym (resized-length n xs) ∙ ap length z ∙ resized-length m ys)))),
    )
  where
    no : false ≡ true → ⊥
    no e = let z : ◌≡◌ {A = ℕ} 0 1 = cc in omega arith

-- zeros behind both change nothing
zeros_behind : (xs ys zs : List ℕ) → length xs ≡ length ys → equal (xs ++ zs) (ys ++ zs) ≡ equal xs ys
zeros_behind xs ys zs e =
    equal-said (equal xs ys) (xs ++ zs) (ys ++ zs) (
      (λ t. ap (λ (l : List ℕ). l ++ zs) (equal_eq xs ys (rw t tt))),
      (λ z.
          let same : xs ≡ ys = sym (take_at xs zs (length xs) refl) ∙ ap (take (length xs)) z ∙ take_at ys zs
          (length xs) (sym e) in
          rw (← same) (equal-refl xs)),
    )

-- as many bytes as a record shows
shown : (n : ℕ) (xs ys : List ℕ) → length xs ≡ length ys
    → equal (take (min n (length xs)) xs) (take (min n (length xs)) ys) ≡ equal (resized n xs) (resized n ys)
shown n xs ys e =
    by_test (leb n (length xs))
    (λ t.
    let h = leb-true n (length xs) t in
    let m : min n (length xs) ≡ n = omega arith in
    rw m (ap₂ equal (sym (resized_cut n xs h)) (sym (resized_cut n ys (omega arith)))))
    (λ f.
    let h = leb-false n (length xs) f in
    let m : min n (length xs) ≡ length xs = omega arith in
    let z : n - length xs ≡ n - length ys = omega arith in
    let pad-y : resized n ys ≡ ys ++ replicate {A = ℕ} (n - length xs) 0 =
    resized-padded n ys (omega arith) ∙ ap (λ (k : ℕ). ys ++ replicate {A = ℕ} k 0) (sym z) in
    rw m
    (ap₂ equal (take_all (length xs) xs (omega arith)) (take_all (length xs) ys (omega arith))
    ∙ sym (zeros_behind xs ys (replicate (n - length xs) 0) e) ∙ ap₂ equal (sym (resized-padded n xs (omega arith)))
    (sym pad-y)))

module _ (t : ℕ) (row : List ℕ) (u : ℕ) (other : List ℕ) where
  abbrev same? : Bool
  same? = disk.same_row (row_given t row) (row_given u other)

  pub same_time : (t ≡ u → ⊥) → false ≡ same?
  same_time h = and_no (equal (row_given t row).bytes (row_given u other).bytes) _ (rw (ne_eqb t u h))

  pub same_length : (get_or other 1 0 ≡ get_or row 1 0 → ⊥) → false ≡ same?
  same_length h = rw (lengths_differ (get_or row 1 0) (get_or other 1 0) (drop 2 row) (drop 2 other) h)

  pub same_loose_lem : disk.same_loose (not (eqb (get_or row 0 0) 0)) (not (eqb (get_or other 0 0) 0)) ≡ false
      → false ≡ same?
  same_loose_lem h = and_no (equal (row_given t row).bytes (row_given u other).bytes) _ (sym (and_no (eqb t u) _ h))

  pub same_bytes : (len : ℕ) → length row ≡ row_length → length other ≡ row_length → len ≡ get_or row 1 0 → t ≡ u
      → get_or other 1 0 ≡ get_or row 1 0
      → disk.same_loose (not (eqb (get_or row 0 0) 0)) (not (eqb (get_or other 0 0) 0)) ≡ true
      → equal (part 2 (2 + min len 21 - 2) row) (part 2 (2 + min len 21 - 2) other) ≡ same?
  same_bytes len l k e time size loose =
      let lr : length (drop 2 row) ≡ 21 = length-drop 2 row ∙ omega arith in
      let lo : length (drop 2 other) ≡ 21 = length-drop 2 other ∙ omega arith in
      let n : 2 + min len 21 - 2 ≡ min len (length (drop 2 row)) = omega arith in
      let both-shown = shown len (drop 2 row) (drop 2 other) (lr ∙ sym lo) in
      let rest : eqb t u && disk.same_loose (not (eqb (get_or row 0 0) 0)) (not (eqb (get_or other 0 0) 0)) ≡ true = rw
      (eq-eqb t u time, loose) in
      ap (λ (m : ℕ). equal (part 2 m row) (part 2 m other)) n ∙ both-shown
      ∙ ap₂ (λ (a b : ℕ). equal (resized a (drop 2 row)) (resized b (drop 2 other))) e (e ∙ sym size)
      ∙ and_yes (equal (row_given t row).bytes (row_given u other).bytes) _ rest

-- ---- the loop

none_come : (ys : List Row) → disk.agreeing [] ys ≡ 0
unfolding disk.agreeing
none_come ys = refl

none_left : (xs : List Row) → disk.agreeing xs [] ≡ 0
unfolding disk.agreeing
none_left [] = refl
none_left (x ∷ xs) = refl

module _ (new left : List Row) (i : ℕ) where
  abbrev rest : ℕ → ℕ
  rest j = disk.agreeing (drop j new) (drop j left)

  module _ (h : i < length new) (k : i < length left) where
    pub agree_next : disk.same_row (get_or new i no_row) (get_or left i no_row) ≡ true
        → i + rest i ≡ i + 1 + rest (i + 1)
    unfolding disk.agreeing
    agree_next e = rw (drop-cons new i no_row h, drop-cons left i no_row k, e, add-one i) (omega arith)

    pub agree_stop : disk.same_row (get_or new i no_row) (get_or left i no_row) ≡ false → i + rest i ≡ i
    unfolding disk.agreeing
    agree_stop e = rw (drop-cons new i no_row h, drop-cons left i no_row k, e) (omega arith)

  pub agree_end : min (length new) (length left) ≤ i → rest i ≡ 0
  agree_end h =
      by_test (leb (length new) i)
      (λ t. ap (λ (l : List Row). disk.agreeing l (drop i left)) (drop_of_length-le new (leb-true (length new) i t))
      ∙ none_come (drop i left))
      (λ f.
      let k = leb-false (length new) i f in
      let z : length left ≤ i = omega arith in
      ap (disk.agreeing (drop i new)) (drop_of_length-le left z) ∙ none_left (drop i new))

-- ---- the call

-- a number beside both counts
abbrev pub beside : ℕ → ℕ → ℕ → Compared
beside agreed going number = record { number = number; agreed = agreed; going = going }

module _ (times records moments left : List ℕ) (agreed going : ℕ) where
  pub compare_new : eqb (length records) (row_length * length times) ≡ false
      → record { number = number_of Size; agreed = agreed; going = going }
      ≡ compare_call times records moments left agreed going
  unfolding compare_call
  compare_new h = rw h

  module _ (sized : eqb (length records) (row_length * length times) ≡ true) where
    pub compare_left : eqb (length left) (row_length * length moments) ≡ false
        → record { number = number_of Size; agreed = agreed; going = going }
        ≡ compare_call times records moments left agreed going
    unfolding compare_call
    compare_left h = rw (sized, h)

    pub compare_done : eqb (length left) (row_length * length moments) ≡ true
        → compared_rows (rows_given times records) (rows_given moments left)
        ≡ compare_call times records moments left agreed going
    unfolding compare_call
    compare_done h = rw (sized, h)

pub going-count : (new left : List Row)
    → cond (leb (length new) (disk.agreeing new left)) 0 (length left - disk.agreeing new left) ≡ length
    (disk.going new left)
going-count new left =
    let n = disk.agreeing new left in
    ap (λ (d : ℕ). cond (leb (length new) n) 0 d) (sym (length-drop n left)) ∙ sym (cond-ap length (leb
    (length new) n) [] (drop n left))
