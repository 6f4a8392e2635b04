-- Lists made of segments, one after the other: how they are written in place from the front, and read back.
--     part_length, part_at, part-ends         a part of a list: its length, its elements, and the form that `&xs[a..a + n]` has in a proof
--     take-clamped, part-clamped              the same where the ends are cut to the list's length
--     part-take, part-replicate               a part of a front; of one value repeated
--     left, right, last, whole                a part of xs ++ ys that lies in xs, or in ys; the part that is ys; all of a list
--     part_join                               two parts, the one where the other ends, are one part
--     start, part-nth                         segments of any lengths: where segment k starts, and that the part there is segment k
--     Each, flatten-length, flatten-part      segments of one length: how long they are together, and segment k of them
--     Begun                                   a list that is written from the front: the first a elements are `front`, the rest is as it was
--     begin, store, lend, lend-sized, wipe    the start; an element stored; a part lent to a callee, one whose length alone it looks at, one that it clears
--     skip                                    a part that stays as it was
--     named, so_far, begun-after, done        the front by another name; what is written; what stands behind it; the end
--     fill, turn, turned                      a turn of a loop that fills, or lends a segment at a time; where that loop ends
--     begun-length, within, lent              what the needs about lengths ask on the way
--     Writing, packed                         the same with its lists packed up, for a place where they are long to write
use mathlib.Core.Path.{◌≡◌, refl, sym, ap, ◌∙◌}
use mathlib.Core.List.{List, [], ◌∷◌, ◌++◌, append_assoc, append-nil, flatten}
use Prim.Native.Nat.{ℕ, zero, suc, ◌+◌, ◌-◌, ◌*◌, ◌≤◌, ◌<◌, min}
use native.Mathlib.Nat.{not-suc-le-zero, mul-suc, mul-zero}
use native.Mathlib.Numerals.{add-one}
use native.Mathlib.Decide.{dec_lt}
use native.Mathlib.Omega.{arith}
use lib.ListN.{length, get_or, take, drop, set, length-append, length-take, length-drop, drop_of_length-le, replicate, length-replicate, get_or-replicate, replicate-append-replicate, take-append-drop}
use lib.Seq.{take_at, take-add, drop_at, take_all, take-nil, take-append-le, drop-append-le, drop-append-add, drop-drop, drop-cons, set_at, append_snoc, get_or-take, get_or-drop, ext_get_or, take-take}
use Rattle.base_lists.specs.Lists.{padded}
use Rattle.base_buffers.specs.Buffer.{part}

module _ {A : Type 0} where
  pub part_length : (a n : ℕ) (xs : List A) → a + n ≤ length xs → length (part a n xs) ≡ n
  part_length a n xs h = simp (length-take, length-drop) (omega arith)

  pub part_at : (a n : ℕ) (xs : List A) (i : ℕ) (d : A) → i < n → get_or (part a n xs) i d ≡ get_or xs (a + i) d
  part_at a n xs i d h = rw (get_or-take n (drop a xs) i d h, get_or-drop a xs i d)

  -- a part of a front
  pub part-take : (a w n : ℕ) (xs : List A) → a + w ≤ n → part a w (take n xs) ≡ part a w xs
  part-take zero w n xs h = take-take w n xs (omega arith)
  part-take (suc a) w zero xs h = absurd (omega arith)
  part-take (suc a) w (suc n) [] h = refl
  part-take (suc a) w (suc n) (x ∷ xs) h = part-take a w n xs (omega arith)

  -- what is lent where both ends are written out
  pub part-ends : (a n : ℕ) (xs : List A) → part a (a + n - a) xs ≡ part a n xs
  part-ends a n xs =
      let e : a + n - a ≡ n = omega arith in
      rw e

  -- ---- a part of two lists one after the other

  pub left : (xs ys : List A) (m a n : ℕ) → length xs ≡ m → a + n ≤ m → part a n (xs ++ ys) ≡ part a n xs
  left xs ys m a n e h =
      let h1 : a ≤ length xs = omega arith in
      let h2 : n ≤ length (drop a xs) = simp length-drop (omega arith) in
      rw (drop-append-le a xs ys h1, take-append-le n (drop a xs) ys h2)

  pub last : (xs ys : List A) (a n : ℕ) → length xs ≡ a → length ys ≡ n → part a n (xs ++ ys) ≡ ys
  last xs ys a n e l =
      let h : length ys ≤ n = omega arith in
      rw (drop_at xs ys a e, take_all n ys h)

  pub right : (xs ys : List A) (m a n : ℕ) → length xs ≡ m → part (m + a) n (xs ++ ys) ≡ part a n ys
  right xs ys m a n e = rw (← e, drop-append-add xs ys a)

  pub whole : (xs : List A) (n : ℕ) → length xs ≡ n → part 0 n xs ≡ xs
  whole xs n e = take_all n xs (omega arith)

  pub part_join : (a m n k : ℕ) (xs : List A) → a + m ≡ k → part a m xs ++ part k n xs ≡ part a (m + n) xs
  part_join a m n k xs e = rw (← e, ← drop-drop m a xs) (sym (take-add m n (drop a xs)))

  -- ---- segments of any lengths

  -- where segment k starts
  abbrev pub start : ℕ → List (List A) → ℕ
  start zero segs = 0
  start (suc k) [] = 0
  start (suc k) (s ∷ segs) = length s + start k segs

  -- the part from there on, as long as it is, is segment k
  pub part-nth : (k : ℕ) (segs : List (List A)) (a n : ℕ) → start k segs ≡ a
      → length (get_or segs k []) ≡ n → part a n (flatten segs) ≡ get_or segs k []
  unfolding flatten
  part-nth zero [] a n e h = rw (← e, ← h) refl
  part-nth (suc k) [] a n e h = rw (← e, ← h) refl
  part-nth zero (s ∷ segs) a n e h = rw (← e) (take_at s (flatten segs) n h)
  part-nth (suc k) (s ∷ segs) a n e h =
      rw (← e, right s (flatten segs) (length s) (start k segs) n refl) (part-nth k segs (start k segs) n refl h)

  pub part-replicate : (a n m : ℕ) (v : A) → a + n ≤ m → part a n (replicate m v) ≡ replicate n v
  part-replicate a n m v h =
      let l : length (part a n (replicate m v)) ≡ n = part_length a n (replicate m v) (rw length-replicate h) in
      ext_get_or v (part a n (replicate m v)) (replicate n v) (l ∙ sym (length-replicate n v))
      (λ i k.
      rw (
        part_at a n (replicate m v) i v (omega arith),
        get_or-replicate m (a + i) v v (omega arith),
        get_or-replicate n i v v (omega arith),
      ))

  -- ---- a part whose ends are cut to the list's length

  pub take_clamped : (n : ℕ) (xs : List A) → take (min n (length xs)) xs ≡ take n xs
  take_clamped n xs = elim (dec_lt n (length xs)) [
    | yes h ↦ (let e : min n (length xs) ≡ n = omega arith in rw e)
    | no h ↦ take_all (min n (length xs)) xs (omega arith) ∙ sym (take_all n xs (omega arith))
  ]

  pub part_clamped : (a n : ℕ) (xs : List A)
      → take (min (a + n) (length xs) - min a (length xs)) (drop (min a (length xs)) xs) ≡ part a n xs
  part_clamped a n xs = elim (dec_lt a (length xs)) [
    | yes h ↦
        (let e : min a (length xs) ≡ a = omega arith in
        let f : min (a + n) (length xs) - a ≡ min n (length (drop a xs)) = rw length-drop (omega arith) in
        rw (e, f) (take_clamped n (drop a xs)))
    | no h ↦
        (let e : min a (length xs) ≡ length xs = omega arith in
        let l : length xs ≤ a = omega arith in
        let k : length xs ≤ length xs = omega arith in
        rw (e, drop_of_length-le xs l, drop_of_length-le xs k, take-nil n)
        (take-nil (min (a + n) (length xs) - length xs)))
  ]

  -- ---- segments of one length

  abbrev pub Each : ℕ → List (List A) → Type 0
  Each w segs = (i : ℕ) → i < length segs → length (get_or segs i []) ≡ w

  pub flatten-length : (w : ℕ) (segs : List (List A)) → Each w segs → length (flatten segs) ≡ w * length segs
  unfolding flatten
  flatten-length w [] each = omega arith
  flatten-length w (s ∷ segs) each =
      simp (length-append, mul-suc, flatten-length w segs (λ i h. each (suc i) (omega arith)), each 0 (omega arith))
      (omega arith)

  pub flatten-part : (w : ℕ) (segs : List (List A)) → Each w segs → (k : ℕ)
      → k < length segs → part (w * k) w (flatten segs) ≡ get_or segs k []
  unfolding flatten
  flatten-part w [] each k h = absurd (not-suc-le-zero h)
  flatten-part w (s ∷ segs) each zero h = rw mul-zero (take_at s (flatten segs) w (each 0 (omega arith)))
  flatten-part w (s ∷ segs) each (suc k) h =
      let e : w * suc k ≡ w + w * k = rw mul-suc (omega arith) in
      rw (e, right s (flatten segs) w (w * k) w (each 0 (omega arith)))
      (flatten-part w segs (λ i l. each (suc i) (omega arith)) k (omega arith))

  -- one segment more
  flatten-more : (segs : List (List A)) (i : ℕ) → i < length segs
      → flatten (take (suc i) segs) ≡ flatten (take i segs) ++ get_or segs i []
  unfolding flatten
  flatten-more [] i h = absurd (not-suc-le-zero h)
  flatten-more (s ∷ segs) zero h = append-nil s
  flatten-more (s ∷ segs) (suc i) h =
      rw (flatten-more segs i (omega arith)) (sym (append_assoc s (flatten (take i segs)) (get_or segs i [])))

  -- ---- a list that is written from the front: xs is what is done, of length a, and then the rest of the list that it was

  pub record Begun (orig front : List A) (a : ℕ) (xs : List A) : Type 0 where
    pub is : xs ≡ front ++ drop a orig
    pub long : length front ≡ a
    pub bound : a ≤ length orig

  pub begin : (orig : List A) → Begun orig [] 0 orig
  begin orig = record { is = refl; long = refl; bound = omega arith }

  module _ {orig front : List A} {a : ℕ} {xs : List A} (b : Begun orig front a xs) where
    pub begun_length : length xs ≡ length orig
    begun_length = rw b.is (simp (length-append, length-drop) (omega (arith, b.long, b.bound)))

    pub within : (e : ℕ) → e ≤ length orig → e ≤ length xs
    within e h = rw begun_length h

    -- how long a part is that is lent
    pub lent : (n e : ℕ) → a + n ≡ e → e ≤ length orig → length (part a (e - a) xs) ≡ n
    lent n e k h = part_length a (e - a) xs (within (a + (e - a)) (omega arith)) ∙ omega arith

    -- one element is stored
    pub store : (v : A) → a < length orig → Begun orig (front ++ (v ∷ [])) (a + 1) (set xs a v)
    store v h = record {
      is =
          rw (b.is, drop-cons orig a v, set_at front (get_or orig a v) (drop (suc a) orig) v a b.long, add-one)
          (sym (append_snoc front v (drop (suc a) orig)));
      long = simp length-append (omega (arith, b.long));
      bound = omega arith;
    }

    -- the front by another name
    pub named : (g : List A) → front ≡ g → Begun orig g a xs
    named g e = rw e at b

    -- the part from a up to e is lent, and comes back as the segment s: p is what the callee ensures, and q what is kept, the part's length
    pub lend : (ys s : List A) (e : ℕ) → ys ≡ s → length ys ≡ length (part a (e - a) xs) → a ≤ e → e ≤ length orig
        → Begun orig (front ++ s) e (take a xs ++ (ys ++ drop (e - a) (drop a xs)))
    lend ys s e p q l h =
        let k : a + (e - a) ≡ e = omega arith in
        let n : length s ≡ e - a = rw p at (q ∙ part_length a (e - a) xs (within (a + (e - a)) (omega arith))) in
        record {
          is =
              rw (
                b.is,
                p,
                take_at front (drop a orig) a b.long,
                drop_at front (drop a orig) a b.long,
                drop-drop (e - a) a orig,
                k,
              )
              (sym (append_assoc front s (drop e orig)));
          long = simp length-append (omega (arith, b.long));
          bound = h;
        }

    -- the same, where what comes back depends on the part's length alone
    pub lend_sized : (ys : List A) (s : ℕ → List A) (e : ℕ) → ys ≡ s (length (part a (e - a) xs))
        → length ys ≡ length (part a (e - a) xs) → a ≤ e → e ≤ length orig
        → Begun orig (front ++ s (e - a)) e (take a xs ++ (ys ++ drop (e - a) (drop a xs)))
    lend_sized ys s e p q l h =
        lend ys (s (e - a)) e (rw (part_length a (e - a) xs (within (a + (e - a)) (omega arith))) at p) q l h

    -- the part from a up to e stays as it was
    pub skip : (e : ℕ) → a ≤ e → e ≤ length orig → Begun orig (front ++ part a (e - a) orig) e xs
    skip e l h =
        let k : a + (e - a) ≡ e = omega arith in
        record {
          is =
              b.is
              ∙ ap (λ (l : List A). front ++ l)
              (sym (take-append-drop (e - a) (drop a orig))
              ∙ ap (λ (l : List A). part a (e - a) orig ++ l)
              (drop-drop (e - a) a orig ∙ ap (λ (n : ℕ). drop n orig) k))
              ∙ sym (append_assoc front (part a (e - a) orig) (drop e orig));
          long = simp length-append (omega (arith, b.long, part_length a (e - a) orig (omega arith)));
          bound = h;
        }

    -- what is written
    pub so_far : take a xs ≡ front
    so_far = rw b.is (take_at front (drop a orig) a b.long)

    -- what stands behind it is still as it was
    pub begun_after : (k : ℕ) → a ≤ k → drop k xs ≡ drop k orig
    begun_after k h =
        let e : length front + (k - a) ≡ k = omega (arith, b.long) in
        let f : a + (k - a) ≡ k = omega arith in
        ap (drop k) b.is ∙ ap (λ (n : ℕ). drop n (front ++ drop a orig)) (sym e)
        ∙ drop-append-add front (drop a orig) (k - a)
        ∙ drop-drop (k - a) a orig ∙ ap (λ (n : ℕ). drop n orig) f

    -- the whole is written
    pub done : length orig ≡ a → xs ≡ front
    done e =
        let h : length orig ≤ a = omega arith in
        rw (b.is, drop_of_length-le orig h) (append-nil front)

  -- a turn of a loop that fills, and of one that copies
  pub fill : (orig : List A) (v : A) (i : ℕ) (xs : List A) → Begun orig (replicate i v) i xs
      → i < length orig → Begun orig (replicate (i + 1) v) (i + 1) (set xs i v)
  fill orig v i xs b h = named (store b v h) (replicate (i + 1) v) (replicate-append-replicate i 1 v)

  -- a turn of a loop that lends one part of w after the other
  pub turn : (orig : List A) (segs : List (List A)) (w i : ℕ) (xs ys : List A)
      → Begun orig (flatten (take i segs)) (w * i) xs → i < length segs
      → ys ≡ get_or segs i [] → length ys ≡ length (part (w * i) (w * i + w - w * i) xs) → w * i + w ≤ length orig
      → Begun orig (flatten (take (i + 1) segs)) (w * (i + 1))
      (take (w * i) xs ++ (ys ++ drop (w * i + w - w * i) (drop (w * i) xs)))
  turn orig segs w i xs ys b l p q h =
      let m : w * (i + 1) ≡ w * i + w = rw (add-one, mul-suc) refl in
      rw (m, add-one, flatten-more segs i l) (lend b ys (get_or segs i []) (w * i + w) p q (omega arith) h)

  -- and where it ends, after n turns
  pub turned : (orig : List A) (segs : List (List A)) (w n i : ℕ) (xs : List A)
      → Begun orig (flatten (take i segs)) (w * i) xs → i ≡ n → length segs ≡ n
      → Begun orig (flatten segs) (w * n) xs
  turned orig segs w n i xs b e l =
      let h : length segs ≤ n = omega arith in
      rw (e, take_all n segs h) at b

-- the part from a up to e is lent, and comes back as zeros
pub wipe : {orig front : List ℕ} {a : ℕ} {xs : List ℕ} → Begun orig front a xs
    → (zs : List ℕ) (e : ℕ) → zs ≡ replicate (length (part a (e - a) xs)) 0
    → length zs ≡ length (part a (e - a) xs) → a ≤ e → e ≤ length orig
    → Begun orig (padded e front) e (take a xs ++ (zs ++ drop (e - a) (drop a xs)))
wipe {orig} {front} {a} {xs} b zs e p q l h =
    let k : e - a ≡ e - length front = omega (arith, b.long) in
    named (lend_sized b zs (λ n. replicate n 0) e p q l h) (padded e front) (ap (λ (n : ℕ). front ++ replicate n 0) k)

-- The same with its three lists packed up, for a place of a function where they are long to write: the first a bytes are written.
pub record Writing (a : ℕ) : Type 0 where
  pub orig : List ℕ
  pub front : List ℕ
  pub xs : List ℕ
  pub begun : Begun orig front a xs

abbrev pub packed : {orig front : List ℕ} {a : ℕ} {xs : List ℕ} → Begun orig front a xs → Writing a
packed {orig} {front} {a} {xs} b = record { orig = orig; front = front; xs = xs; begun = b }
