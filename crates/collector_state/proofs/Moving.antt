-- What one reception makes of the entries: those no longer open, those moved to the front, one that is heard again, and one that is put behind them.
use Rattle.std.specs.Prelude.{Option, Some, None}
use lib.Seq.{paste}
use Prim.Native.Nat.{ℕ, zero, suc, ◌+◌, ◌-◌, ◌*◌, ◌≤◌, ◌<◌}
use native.Mathlib.Nat.{zero-add, add-zero, add-suc, suc-add, le_refl}
use native.Mathlib.Omega.{arith}
use mathlib.Core.Path.{◌≡◌, refl, sym, ◌∙◌, ap}
use mathlib.Core.Bool.{Bool, true, false, cond, false≢true}
use lib.Dec.{eqb}
use mathlib.Core.List.{List, [], ◌∷◌, ◌++◌, map, map-append, append_assoc}
use lib.ListN.{length, get_or, take, drop, set, length-set, length-take, length-map, take-append-drop}
use lib.Seq.{take-set-le, get_or-take, get_or-drop, get_or-set_same, get_or-set_other, ext_get_or, drop-drop, drop-cons}
use lib.Seq.{take-take, take_at, drop_at, take-append_seam, take-length, drop-append-le, length-take-le, length_front}
use borrow.Author.Tests.{eqb-true, eqb-false}
use borrow.Rule.Slice.PartMut.{mid_of, put_mid}
use Rattle.base_lists.specs.Lists.{up_from}
use Rattle.base_lists.proofs.UpFrom.{up_from_add, length-up_from, map-moved}
use Rattle.base_lists.proofs.Tests.{by_test}
use Rattle.radio_erp1.specs.Subtelegram.{max_length}
use Rattle.base_buffers.specs.Buffer.{part, resized}
use Rattle.base_buffers.proofs.Buffer.{resized_cut}
use Rattle.base_buffers.proofs.Segments.{part_length, part_at, part-take}
use Rattle.collector_model.specs.View.{Reception, Entry, opened, recount, capacity, is_open, capped}
use Rattle.collector_model.specs.Acceptable.{is_copy_of}
use Rattle.collector_model.specs.Step.{plus_if, credit}
use Rattle.collector_model.proofs.Copies.{length-credit, credit_at}
use Rattle.collector_state.specs.Collector.{Columns, columns, entry_at, entries_at, moved, set_if, more_if, put_if, last_copy}
use Rattle.collector_state.specs.Admission.{open_from}
use Rattle.collector_state.specs.Private.{Expired, credited}
use Rattle.collector_state.proofs.Decided.{Decision, changed, Whole}
use Rattle.collector_state.proofs.Arrays.{no_entry, entries-length, entry_get, entries-more}

-- ---- the move itself

pub moved_none : {A : Type 0} {gone : ℕ} (n : ℕ) (old : List A) → gone ≡ 0 → old ≡ moved gone n old
unfolding moved
moved_none n old e = rw e (sym (take-append-drop n old))

pub moved_within : {A : Type 0} (gone n end : ℕ) (old : List A) → end ≡ gone + n
    → paste old 0 (drop gone old) (end - gone) ≡ moved gone n old
unfolding moved
moved_within gone n end old e = let k : end - gone ≡ n = omega arith in rw (k, zero-add)

-- ---- what stands after a move

-- the n elements after the first `gone` stand at the front
record Moved (gone n : ℕ) (old new : List ℕ) : Type 0 where
  front : take n new ≡ take n (drop gone old)

module _ (gone n : ℕ) (l : List ℕ) (fits : gone + n ≤ length l) where
  moved_length : length (moved gone n l) ≡ length l
  unfolding moved
  moved_length =
      length_front l (take n (drop gone l)) n (part_length gone n l fits ∙ sym (length-take-le n l (omega arith)))

  moved_front : Moved gone n l (moved gone n l)
  unfolding moved
  moved_front = record { front = take_at (take n (drop gone l)) (drop n l) n (part_length gone n l fits) }

module _ {gone n : ℕ} {old new : List ℕ} (m : Moved gone n old new) where
  moved_at : (i : ℕ) → i < n → get_or new i 0 ≡ get_or old (gone + i) 0
  moved_at i h =
      sym (get_or-take n new i 0 h) ∙ ap (λ (l : List ℕ). get_or l i 0) m.front
      ∙ get_or-take n (drop gone old) i 0 h ∙ get_or-drop gone old i 0

  moved-part : (a k : ℕ) → a + k ≤ n → part a k new ≡ part (gone + a) k old
  moved-part a k h =
      sym (part-take a k n new h) ∙ ap (part a k) m.front
      ∙ part-take a k n (drop gone old) h ∙ ap (take k) (drop-drop a gone old)

-- the entries after the first `gone`, by their index
entries_after : (a : Columns) (gone n count : ℕ) → gone + n ≡ count
    → drop gone (entries_at a count) ≡ map (entry_at a) (up_from gone n)
unfolding entries_at
entries_after a gone n count e =
    rw (← e, up_from_add 0 gone n, zero-add, map-append)
    (drop_at (map (entry_at a) (up_from 0 gone)) (map (entry_at a) (up_from gone n)) gone
    (length-map (up_from 0 gone) (entry_at a) ∙ length-up_from 0 gone))

-- n entries after the first `gone` stand at the front, column by column
record MovedColumns (gone n : ℕ) (a a' : Columns) : Type 0 where
  times : Moved gone n a.times a'.times
  lens : Moved gone n a.lens a'.lens
  bytes : Moved (max_length * gone) (max_length * n) a.bytes a'.bytes
  copies : Moved gone n a.copies a'.copies

moved-entries : (gone n count : ℕ) (a a' : Columns) → gone + n ≡ count
    → MovedColumns gone n a a' → entries_at a' n ≡ drop gone (entries_at a count)
unfolding entries_at
moved-entries gone n count a a' size m =
    map-moved (entry_at a') (entry_at a) 0 gone n (λ i h. rw (zero-add) (same i h))
    ∙ sym (entries_after a gone n count size)
  where
    same : (i : ℕ) → i < n → entry_at a' i ≡ entry_at a (gone + i)
    same i h =
        let e : max_length * gone + max_length * i ≡ max_length * (gone + i) = omega arith in
        rw (
          moved_at m.times i h,
          moved_at m.lens i h,
          moved-part m.bytes (max_length * i) max_length (omega arith),
          moved_at m.copies i h,
          e,
        )

-- ---- a copy is counted

-- for the last entry of which r is a copy, where a test passes
abbrev pub credit_if : Bool → Reception → List Entry → List Entry
credit_if test r l = cond test (credit (λ n. capped (n + 1)) (λ e. is_copy_of e r) l) l

-- the columns with one more copy at i, where a test passes
abbrev more_copies : Bool → ℕ → Columns → Columns
more_copies test i a = columns a.times a.lens a.bytes (more_if test i a.copies)

pub credited-is : (test : Bool) (k : ℕ) {heard : Option ℕ} (l : List ℕ) → heard ≡ cond test (Some k) None
    → credited heard l ≡ more_if test k l
credited-is true k l e = rw e
credited-is false k l e = rw e

more-length : (test : Bool) (i : ℕ) (l : List ℕ) → length (more_if test i l) ≡ length l
more-length true i l = length-set l i _
more-length false i l = refl

module _ (a : Columns) (i n : ℕ) (r : Reception) (long : n ≤ length a.copies) where
  -- entry k after it
  credited_at : (k : ℕ) → k < n
      → entry_at (more_copies true i a) k ≡ cond (eqb k i) (recount (λ c. capped (c + 1)) (entry_at a k)) (entry_at a k)
  credited_at k h =
      by_test (eqb k i)
      (λ e. rw e
      (let same = eqb-true k i e in
      rw (same, get_or-set_same a.copies i (capped (get_or a.copies i 0 + 1)) 0 (omega arith))))
      (λ e. rw (e, get_or-set_other a.copies i k (capped (get_or a.copies i 0 + 1)) 0 (eqb-false k i e)))

  credited_all : i ≡ last_copy (entries_at a n) r
      → entries_at (more_copies true i a) n ≡ credit_if true r (entries_at a n)
  unfolding last_copy
  credited_all e =
      ext_get_or no_entry (entries_at (more_copies true i a) n) (credit_if true r (entries_at a n))
      (entries-length (more_copies true i a) n ∙ sym (length-credit _ _ (entries_at a n) ∙ entries-length a n))
      (λ k l.
      let h : k < n = rw (entries-length (more_copies true i a) n) at l in
      entry_get (more_copies true i a) n k h
      ∙ credited_at k h
      ∙ sym (credit_at _ _ no_entry (entries_at a n) k (rw (entries-length a n) h) ∙ rw (← e, entry_get a n k h)))

  credited-entries : (test : Bool) → (test ≡ true → i ≡ last_copy (entries_at a n) r)
      → entries_at (more_copies test i a) n ≡ credit_if test r (entries_at a n)
  credited-entries true e = credited_all (e refl)
  credited-entries false e = refl

-- ---- what is put

-- x at the end, where a test passes
abbrev pub add_if : {A : Type 0} → Bool → A → List A → List A
add_if b x l = cond b (l ++ (x ∷ [])) l

-- what stands before `at` stays, and xs stand there if the test passes
record PutIf (test : Bool) (at : ℕ) (xs old new : List ℕ) : Type 0 where
  before : take at new ≡ take at old
  stored : test ≡ true → part at (length xs) new ≡ xs

put_none : (at : ℕ) (xs old : List ℕ) → PutIf false at xs old old
put_none at xs old = record { before = refl; stored = λ t. absurd (false≢true t) }

set-put : (test : Bool) (i x : ℕ) (old : List ℕ) → (test ≡ true → i < length old)
    → PutIf test i (x ∷ []) old (set_if test i x old)
set-put true i x old h = record {
  before = take-set-le i old i x (le_refl i);
  stored =
      λ _.
      rw (drop-cons (set old i x) i 0 (omega (arith, h refl, length-set old i x)), get_or-set_same old i x 0 (h refl));
}
set-put false i x old h = put_none i (x ∷ []) old

all_put : (test : Bool) (at : ℕ) (xs old : List ℕ)
    → (test ≡ true → at + length xs ≤ length old) → PutIf test at xs old (put_if test at xs old)
all_put true at xs old h =
    let long : length (take at old) ≡ at = length-take-le at old (omega (arith, h refl)) in
    let rest = xs ++ drop (at + length xs) old in
    record {
      before = take_at (take at old) rest at long;
      stored = λ _. rw (drop_at (take at old) rest at long) (take-append_seam xs (drop (at + length xs) old));
    }
all_put false at xs old h = put_none at xs old

-- what a copy into the part from `at` on leaves
pub put-copied : (at : ℕ) (xs old ys : List ℕ) → at + length xs ≤ length old
    → ys ≡ take (length xs) xs ++ drop (length xs) (mid_of at (length old - at) old)
    → put_mid at (length old - at) old ys ≡ put_if true at xs old
put-copied at xs old ys h e =
    let k = length old - at in
    let mid = mid_of at k old in
    let post = drop k (drop at old) in
    let long : length mid ≡ k = part_length at k old (omega arith) in
    ap (λ (l : List ℕ). take at old ++ (l ++ post))
    (e ∙ ap (λ (l : List ℕ). l ++ drop (length xs) mid) (take-length xs))
    ∙ ap (λ (l : List ℕ). take at old ++ l)
    (append_assoc xs (drop (length xs) mid) post
    ∙ ap (λ (l : List ℕ). xs ++ l)
    (sym (drop-append-le (length xs) mid post (omega arith))
    ∙ ap (drop (length xs)) (take-append-drop k (drop at old))
    ∙ drop-drop (length xs) at old))

-- a length that says how many bytes stand there
resized-part : (n : ℕ) (xs ys : List ℕ) → n ≤ max_length → length ys ≡ n
    → take n xs ≡ ys → resized n (take max_length xs) ≡ ys
resized-part n xs ys h long e =
    let k : n ≤ length xs = omega (arith, length-take n xs, ap length e) in
    resized_cut n (take max_length xs) (simp length-take (omega arith)) ∙ take-take n max_length xs h ∙ e

-- a reception that is kept stands at entry n, column by column
record PutColumns (kept : Bool) (n : ℕ) (r : Reception) (a a' : Columns) : Type 0 where
  times : PutIf kept n (r.time ∷ []) a.times a'.times
  lens : PutIf kept n (length r.bytes ∷ []) a.lens a'.lens
  bytes : PutIf kept (max_length * n) r.bytes a.bytes a'.bytes
  copies : PutIf kept n (0 ∷ []) a.copies a'.copies

module _ (kept : Bool) (n : ℕ) (r : Reception) (a a' : Columns)
    (short : kept ≡ true → length r.bytes ≤ max_length) (p : PutColumns kept n r a a') where
  same_before : entries_at a' n ≡ entries_at a n
  same_before =
      moved-entries 0 n n a a' (zero-add n) (record {
        times = record { front = p.times.before };
        lens = record { front = p.lens.before };
        bytes = record { front = p.bytes.before };
        copies = record { front = p.copies.before };
      })

  one_at : (x : ℕ) (xs : List ℕ) → part n 1 xs ≡ x ∷ [] → get_or xs n 0 ≡ x
  one_at x xs e =
      sym (part_at n 1 xs 0 0 (omega arith) ∙ ap (λ (i : ℕ). get_or xs i 0) (add-zero n))
      ∙ ap (λ (y : List ℕ). get_or y 0 0) e

  put-entry : kept ≡ true → entry_at a' n ≡ opened r
  put-entry k =
      rw (
        one_at r.time a'.times (p.times.stored k),
        one_at (length r.bytes) a'.lens (p.lens.stored k),
        one_at 0 a'.copies (p.copies.stored k),
        resized-part (length r.bytes) (drop (max_length * n) a'.bytes)
            r.bytes (short k) refl (p.bytes.stored k),
      )

  put_entries : entries_at a' (plus_if kept n) ≡ add_if kept (opened r) (entries_at a n)
  put_entries = by_test kept (λ k. rw (k, entries-more a' n, same_before, put-entry k)) (λ k. rw (k, same_before))

-- ---- all that one reception makes of columns whose arrays hold 64 entries

abbrev moved_to : ℕ → ℕ → Columns → Columns
moved_to gone n a =
    columns (moved gone n a.times) (moved gone n a.lens)
    (moved (max_length * gone) (max_length * n) a.bytes) (moved gone n a.copies)

module _ (a : Columns) (whole : Whole a) (d : Decision) (count : ℕ)
    (size : d.gone + d.left ≡ count) (few : count ≤ capacity) (r : Reception) where
  abbrev front : Columns
  front = moved_to d.gone d.left a

  moved_all_four : entries_at front d.left ≡ drop d.gone (entries_at a count)
  moved_all_four =
      moved-entries d.gone d.left count a front size (record {
        times = moved_front d.gone d.left a.times (omega (arith, whole.times));
        lens = moved_front d.gone d.left a.lens (omega (arith, whole.lens));
        bytes = moved_front (max_length * d.gone) (max_length * d.left) a.bytes (omega (arith, whole.bytes));
        copies = moved_front d.gone d.left a.copies (omega (arith, whole.copies));
      })

  -- each array is as long as it was
  front_whole : Whole front
  front_whole = record {
    times = moved_length d.gone d.left a.times (omega (arith, whole.times)) ∙ whole.times;
    lens = moved_length d.gone d.left a.lens (omega (arith, whole.lens)) ∙ whole.lens;
    bytes =
        moved_length (max_length * d.gone) (max_length * d.left) a.bytes (omega (arith, whole.bytes))
        ∙ whole.bytes;
    copies = moved_length d.gone d.left a.copies (omega (arith, whole.copies)) ∙ whole.copies;
  }

  pub changed-entries : (d.kept ≡ true → (d.left < capacity) × (length r.bytes ≤ max_length))
      → (test : Bool) → d.heard ≡ cond test (Some (last_copy (drop d.gone (entries_at a count)) r)) None
      → entries_at (changed d r a) (plus_if d.kept d.left)
      ≡ add_if d.kept (opened r) (credit_if test r (drop d.gone (entries_at a count)))
  changed-entries room test hears =
      let k = last_copy (drop d.gone (entries_at a count)) r in
      put_entries d.kept d.left r (more_copies test k front)
      (changed d r a) (λ e. (room e).1) (record {
        times =
            set-put d.kept d.left r.time front.times (λ e. omega (arith, (room e).0, front_whole.times));
        lens =
            set-put d.kept d.left (length r.bytes) front.lens
            (λ e. omega (arith, (room e).0, front_whole.lens));
        bytes =
            all_put d.kept (max_length * d.left) r.bytes front.bytes
            (λ e. omega (arith, (room e).0, (room e).1, front_whole.bytes));
        copies =
            rw (credited-is test k front.copies hears)
            (set-put d.kept d.left 0 (more_if test k front.copies)
            (λ e. omega (arith, (room e).0, more-length test k front.copies, front_whole.copies)));
      })
      ∙ ap (add_if d.kept (opened r))
      (credited-entries front k d.left r (omega (arith, front_whole.copies)) test
      (λ e. ap (λ (l : List Entry). last_copy l r) (sym moved_all_four))
      ∙ ap (credit_if test r) moved_all_four)

-- ---- which are no longer open

-- n entries that are not open at t are left out, up to one that is
open_after : (f : ℕ → Entry) (t a n m : ℕ) → ((i : ℕ) → a ≤ i → i < a + n → is_open t (f i) ≡ false)
    → (0 < m → is_open t (f (a + n)) ≡ true)
    → open_from t (map f (up_from a (n + m))) ≡ map f (up_from (a + n) m)
unfolding up_from
open_after f t a zero zero closed first = refl
open_after f t a zero (suc m) closed first = rw (zero-add, add-zero, rw (add-zero) at (first (omega arith)))
open_after f t a (suc n) m closed first =
    rw (suc-add n, add-suc, ← (suc-add a), closed a (omega arith) (omega arith))
    (open_after f t (suc a) n m (λ i h k. closed i (omega arith) (omega arith))
    (λ h. rw (suc-add a, ← add-suc) (first h)))

pub expired_open : (a : Columns) (count time gone : ℕ) → Expired a.times count time gone
    → open_from time (entries_at a count) ≡ drop gone (entries_at a count)
unfolding entries_at
expired_open a count time gone e =
    let few = e.few in
    let size : gone + (count - gone) ≡ count = omega arith in
    (rw (size, zero-add) at
    (open_after (entry_at a) time 0 gone (count - gone) (λ i _ h. e.closed i (omega arith))
    (λ h. rw zero-add (e.first (omega arith)))))
    ∙ sym (entries_after a gone (count - gone) count size)
