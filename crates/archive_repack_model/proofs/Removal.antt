-- The claims on removal.
--     Gone, gone          what the number 0 says
--     remains, removed-again, freed, then_append, both-lists     the claims
use Prim.Native.Nat.{ℕ, zero, suc, ◌+◌, ◌-◌, ◌*◌, ◌/◌, ◌≤◌, ◌<◌}
use native.Mathlib.Nat.{zero-add}
use native.Mathlib.Omega.{arith}
use mathlib.Core.Path.{◌≡◌, refl, sym, ap, ap₂, ◌∙◌}
use mathlib.Core.Bool.{Bool, true, false, cond, not, ◌||◌}
use mathlib.Core.List.{List, [], ◌∷◌, ◌++◌, map}
use lib.Dec.{ltb, eqb}
use lib.ListN.{length, get_or, replicate, length-append}
use borrow.Author.Tests.{eqb-true, eqb-false, ltb-false, le-ltb, lt-leb}
use Rattle.base_lists.specs.Lists.{keep, any, count, up_from}
use Rattle.base_lists.proofs.Tests.{keep-keep, length-keep}
use Rattle.base_lists.proofs.Keep.{keep_same}
use Rattle.base_refusal.specs.Number.{number_of}
use Rattle.base_refusal.specs.declared.Refusal.TheVariants.{Argument}
use Rattle.block_layout.specs.Block.{cells_per_block, block_length}
use Rattle.archive_model.specs.Row.{Row, rows_block, is_blank}
use Rattle.archive_model.specs.Buffer.{blocks_for, rows_at, blocks_in, rows_in, buffer_of}
use Rattle.archive_model.specs.Append.{verdict, append_of, block_at}
use Rattle.archive_model.proofs.Blocks.{Fit, Fits, no_row, rows-block-length, count-back}
use Rattle.archive_model.proofs.Buffers.{blank, blank_blank, group_fits, group_few, group_length, buffer-length, rows_in_lem, blocks-back, free_block, not_blank}
use Rattle.archive_model.proofs.Cursor.{blocks_of, is_exact, rows_fit, rows_few, written-verdict}
use Rattle.archive_repack_model.specs.Repack.{max_identities, is_listed, others, Removed, remove_of}
use Rattle.archive_repack_model.specs.Claims.{OtherRowsRemain, RemovedAgain, Freed, ThenAppend, BothLists}

-- ---- the rows that stay

pub fits-keep : (p : Row → Bool) (rows : List Row) → Fits rows → Fits (keep p rows)
unfolding Fits
fits-keep p [] f i h = absurd (omega arith)
fits-keep p (r ∷ rows) f i h = go (p r) i h (fits-keep p rows (λ j k. f (suc j) (omega arith)))
  where
    go : (b : Bool) (j : ℕ) → j < length (cond b (r ∷ keep p rows) (keep p rows))
        → ((k : ℕ) → k < length (keep p rows) → Fit (get_or (keep p rows) k no_row))
        → Fit (get_or (cond b (r ∷ keep p rows) (keep p rows)) j no_row)
    go true zero k rest = f 0 (omega arith)
    go true (suc j) k rest = rest j (omega arith)
    go false j k rest = rest j k

keep-twice : {A : Type 0} (p : A → Bool) (l : List A) → keep p (keep p l) ≡ keep p l
keep-twice p l = keep-keep p p (λ x h. h) l

any_append : {A : Type 0} (p : A → Bool) (xs ys : List A) → any p (xs ++ ys) ≡ (any p xs || any p ys)
any_append p [] ys = refl
any_append p (x ∷ xs) ys = go (p x) (any_append p xs ys)
  where
    go : (b : Bool) → any p (xs ++ ys) ≡ (any p xs || any p ys)
        → (b || any p (xs ++ ys)) ≡ ((b || any p xs) || any p ys)
    go true e = refl
    go false e = e

-- rows that are in neither list
keep_neither : {A : Type 0} (p q : A → Bool) (l : List A)
    → keep (λ x. not (q x)) (keep (λ x. not (p x)) l) ≡ keep (λ x. not (p x || q x)) l
keep_neither p q [] = refl
keep_neither p q (x ∷ l) = go (p x) (q x) refl (keep_neither p q l)
  where
    go : (a b : Bool) → q x ≡ b → keep (λ x. not (q x)) (keep (λ x. not (p x)) l) ≡ keep (λ x. not (p x || q x)) l
        → keep (λ x. not (q x)) (cond (not a) (x ∷ keep (λ x. not (p x)) l) (keep (λ x. not (p x)) l))
        ≡ cond (not (a || b)) (x ∷ keep (λ x. not (p x || q x)) l) (keep (λ x. not (p x || q x)) l)
    go true b e ih = ih
    go false true e ih = rw e ih
    go false false e ih = rw (e, ih)

others_append : (xs ys : List ℕ) (rows : List Row) → others ys (others xs rows) ≡ others (xs ++ ys) rows
others_append xs ys rows =
    keep_neither (is_listed xs) (is_listed ys) rows
    ∙ keep_same (λ r. not (is_listed xs r || is_listed ys r))
    (λ r. not (is_listed (xs ++ ys) r)) (λ r. ap not (sym (any_append _ xs ys))) rows

-- ---- the answer

abbrev removed : List ℕ → List ℕ → Removed
removed buffer identities = record {
  number = 0;
  position = 0;
  freed = blocks_for (length (rows_in buffer)) - blocks_for (length (others identities (rows_in buffer)));
  buffer = buffer_of (length buffer) (others identities (rows_in buffer));
}

module _ (buffer identities : List ℕ) where
  pub record Gone : Type 0 where
    pub archive : (verdict buffer).number ≡ 0
    pub few : length identities ≤ max_identities
    pub is : remove_of buffer identities ≡ removed buffer identities

  pub removed_is : (verdict buffer).number ≡ 0 → length identities ≤ max_identities
      → remove_of buffer identities ≡ removed buffer identities
  unfolding remove_of
  removed_is v h = rw (v, le-ltb max_identities (length identities) h)

  pub gone : (remove_of buffer identities).number ≡ 0 → Gone
  unfolding remove_of
  gone z = go (eqb (verdict buffer).number 0) (ltb max_identities (length identities)) refl refl z
    where
      go : (a b : Bool) → eqb (verdict buffer).number 0 ≡ a → ltb max_identities (length identities) ≡ b
          → (cond (not a)
          (record {
            number = (verdict buffer).number;
            position = (verdict buffer).position;
            freed = 0;
            buffer = buffer;
          })
          (cond b (record { number = number_of Argument; position = 0; freed = 0; buffer = buffer })
          (removed buffer identities))).number
          ≡ 0
          → Gone
      go false b e f q = absurd (eqb-false (verdict buffer).number 0 e q)
      go true true e f q = absurd (omega arith)
      go true false e f q =
          let v = eqb-true (verdict buffer).number 0 e in
          let h = ltb-false max_identities (length identities) f in
          record { archive = v; few = h; is = removed_is v h }

-- ---- an archive without some rows

module _ (buffer identities : List ℕ) (v : (verdict buffer).number ≡ 0) where
  abbrev m : ℕ
  m = length buffer / block_length

  abbrev rest : List Row
  rest = others identities (rows_in buffer)

  pub rest_fits : Fits rest
  rest_fits = fits-keep (λ r. not (is_listed identities r)) (rows_in buffer) (rows_fit buffer v)

  pub rest_few : length rest ≤ cells_per_block * m
  rest_few = omega (arith, rows_few buffer v, length-keep (λ r. not (is_listed identities r)) (rows_in buffer))

  abbrev after : List ℕ
  after = buffer_of (length buffer) rest

  pub after_is : after ≡ buffer_of (block_length * m) rest
  after_is = ap (λ (n : ℕ). buffer_of n rest) (blocks_of buffer v).0

  pub after_length : length after ≡ length buffer
  after_length = ap length after_is ∙ buffer-length rest m rest_fits rest_few ∙ sym (blocks_of buffer v).0

  pub after_verdict : (verdict after).number ≡ 0
  after_verdict = rw after_is (written-verdict rest m rest_fits rest_few (blocks_of buffer v).1)

  pub after_rows : rows_in after ≡ rest
  after_rows = rw after_is (rows_in_lem rest m rest_fits rest_few)

pub remains : OtherRowsRemain
remains buffer identities z =
    let g = gone buffer identities z in
    let v = g.archive in
    rw g.is (after_verdict buffer identities v, after_rows buffer identities v, after_length buffer identities v)

pub removed_again : RemovedAgain
removed_again buffer identities z =
    let g = gone buffer identities z in
    let v = g.archive in
    let first = after buffer identities v in
    let rows : rows_in first ≡ others identities (rows_in buffer) = after_rows buffer identities v in
    let same : others identities (rows_in first) ≡ others identities (rows_in buffer) =
    ap (others identities) rows ∙ keep-twice (λ r. not (is_listed identities r)) (rows_in buffer) in
    let none : blocks_for (length (rows_in first)) - blocks_for (length (others identities (rows_in first))) ≡ 0 =
    omega (arith, ap length rows, ap length same) in
    rw g.is
    (removed_is first identities (after_verdict buffer identities v) g.few
    ∙ ap₂ (λ (n : ℕ) (b : List ℕ). record { number = 0; position = 0; freed = n; buffer = b }) none
    (ap₂ buffer_of (after_length buffer identities v) same))

pub both_lists : BothLists
both_lists buffer xs ys v h =
    let l = length-append xs ys in
    let first = removed_is buffer xs v (omega (arith, l, h)) in
    let rows = after_rows buffer xs v in
    ap (λ (r : Removed). (remove_of r.buffer ys).buffer) first
    ∙ ap (λ (r : Removed). r.buffer)
    (removed_is (after buffer xs v) ys (after_verdict buffer xs v) (omega (arith, l, h)))
    ∙ ap₂ buffer_of (after_length buffer xs v) (ap (others ys) rows ∙ others_append xs ys (rows_in buffer))
    ∙ sym (ap (λ (r : Removed). r.buffer) (removed_is buffer (xs ++ ys) v h))

-- ---- the blocks that are all zero

count_append : {A : Type 0} (p : A → Bool) (xs ys : List A) → count p (xs ++ ys) ≡ count p xs + count p ys
count_append p [] ys = sym (zero-add (count p ys))
count_append p (x ∷ xs) ys = go (p x) (count_append p xs ys)
  where
    go : (b : Bool) → count p (xs ++ ys) ≡ count p xs + count p ys
        → cond b (count p (xs ++ ys) + 1) (count p (xs ++ ys)) ≡ cond b (count p xs + 1) (count p xs) + count p ys
    go true e = omega arith
    go false e = e

blanks : (z : ℕ) → count is_blank (replicate z blank) ≡ z
blanks zero = refl
blanks (suc z) = rw blank_blank (omega (arith, blanks z))

module _ (rows : List Row) (m : ℕ) (fit : Fits rows) (few : length rows ≤ cells_per_block * m) where
  -- no block that holds a row
  used_none : (a j : ℕ) → a + j ≡ blocks_for (length rows)
      → count is_blank (map (λ k. rows_block k (rows_at k rows)) (up_from a j)) ≡ 0
  unfolding up_from
  used_none a zero e = refl
  used_none a (suc j) e =
      let block = rows_block a (rows_at a rows) in
      let some : 1 ≤ length (rows_at a rows) = omega (arith, group_length rows a) in
      let is = count-back a (rows_at a rows) (group_fits rows fit a) (group_few rows a) in
      rw (not_blank block (rows-block-length a (rows_at a rows) (group_fits rows fit a) (group_few rows a))
      (omega (arith, is)))
      (used_none (suc a) j (omega arith))

  pub blank_blocks : count is_blank (blocks_in (buffer_of (block_length * m) rows)) ≡ m - blocks_for (length rows)
  blank_blocks =
      let b = blocks_for (length rows) in
      ap (count is_blank) (blocks-back rows m fit few)
      ∙ count_append is_blank (map (λ k. rows_block k (rows_at k rows)) (up_from 0 b)) (replicate (m - b) blank)
      ∙ ap₂ ◌+◌ (used_none 0 b (zero-add b)) (blanks (m - b)) ∙ zero-add (m - b)

pub freed : Freed
freed buffer identities z =
    let g = gone buffer identities z in
    let v = g.archive in
    let m = length buffer / block_length in
    let rows = rows_in buffer in
    let rest = others identities rows in
    let shorter = length-keep (λ r. not (is_listed identities r)) rows in
    let before : count is_blank (blocks_in buffer) ≡ m - blocks_for (length rows) =
    ap (λ (b : List ℕ). count is_blank (blocks_in b)) (sym (is_exact buffer v))
    ∙ blank_blocks rows m (rows_fit buffer v) (rows_few buffer v) in
    let now : count is_blank (blocks_in (after buffer identities v)) ≡ m - blocks_for (length rest) =
    ap (λ (b : List ℕ). count is_blank (blocks_in b)) (after_is buffer identities v)
    ∙ blank_blocks rest m (rest_fits buffer identities v) (rest_few buffer identities v) in
    let sum : blocks_for (length rows) - blocks_for (length rest) + count is_blank (blocks_in buffer)
    ≡ count is_blank (blocks_in (after buffer identities v)) =
    freed_sum (length rows) (length rest) m (count is_blank (blocks_in buffer))
    (count is_blank (blocks_in (after buffer identities v))) shorter (rows_few buffer v) before now in
    rw g.is (
      sum,
      λ k l h.
          ap (λ (b : List ℕ). is_blank (block_at k b)) (after_is buffer identities v)
          ∙ ap is_blank
          (free_block rest m (rest_fits buffer identities v) (rest_few buffer identities v) k l (omega arith))
          ∙ blank_blank,
    )
  where
    freed_sum : (n r m x y : ℕ) → r ≤ n → n ≤ cells_per_block * m → x ≡ m - blocks_for n
        → y ≡ m - blocks_for r → blocks_for n - blocks_for r + x ≡ y
    freed_sum n r m x y h k e f = omega arith

pub then_append : ThenAppend
unfolding append_of
then_append buffer identities r z valid room =
    let g = gone buffer identities z in
    let v = g.archive in
    let l = after_length buffer identities v in
    let rows = after_rows buffer identities v in
    let free : length (others identities (rows_in buffer))
    < cells_per_block * (length (after buffer identities v) / block_length) =
    omega (arith, l) in
    rw (
      g.is,
      after_verdict buffer identities v,
      valid,
      rows,
      lt-leb (cells_per_block * (length (after buffer identities v) / block_length))
          (length (others identities (rows_in buffer))) free,
      l,
    )
