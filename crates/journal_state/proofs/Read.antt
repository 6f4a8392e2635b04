-- A state file that is read back: each field stands where it is looked for.
--     state-length, read-back     how long the file is, and that it says the state
use Prim.Native.Nat.{ℕ, ◌+◌, ◌-◌, ◌^◌, ◌≤◌, ◌<◌}
use native.Mathlib.Numerals.{add-one}
use native.Mathlib.Omega.{arith}
use mathlib.Core.Path.{◌≡◌, refl, sym, ap, ◌∙◌}
use mathlib.Core.Bool.{Bool, true, cond}
use mathlib.Core.List.{List, [], ◌∷◌, ◌++◌, flatten, append_assoc}
use lib.Dec.{leb, ltb, eqb}
use lib.ListN.{length, get_or, drop, replicate, length-append, drop_of_length-le}
use lib.Seq.{drop-cons, drop_at}
use borrow.Author.Tests.{eqb-true, leb-true, ltb-true}
use Rattle.base_lists.specs.Lists.{padded}
use Rattle.base_lists.proofs.Choice.{both}
use Rattle.base_lists.proofs.Tests.{by_test, all_get_d}
use Rattle.base_crc8.specs.Crc8.{crc_of}
use Rattle.base_buffers.specs.Buffer.{part, resized}
use Rattle.base_buffers.proofs.Buffer.{padded-length, resized_whole}
use Rattle.base_buffers.proofs.Segments.{left, last, start, part-nth}
use Rattle.block_layout.specs.BigEndian.{be, unbe}
use Rattle.block_layout.proofs.BigEndian.{be-length, unbe-be, field_one}
use Rattle.block_layout.specs.Block.{body_length, block_length, sealed}
use Rattle.collector_model.specs.Image.{image_length, accepts}
use Rattle.archive_model.specs.Row.{is_blank}
use Rattle.journal_state.specs.State.{Kept, kept, nth, name_length, logged, tail_length, printed, max_name, max_tail, old_length, state_length, mark, archive_field, log_field, out_field, state_header, state_bytes, numbers_in, read_state}
use Rattle.journal_state.specs.Lawful.{image_rows, is_attached, is_placed, is_printed, is_lawful_state}
use Rattle.journal_state.specs.Claims.{IsKept}

-- ---- a list of fourteen numbers is its elements

module _ (xs : List ℕ) (n : length xs ≡ 14) where
  from : (i : ℕ) → i < 14 → drop i xs ≡ get_or xs i 0 ∷ drop (i + 1) xs
  from i h = drop_next xs i (omega arith)
    where
      drop_next : (l : List ℕ) (j : ℕ) → j < length l → drop j l ≡ get_or l j 0 ∷ drop (j + 1) l
      drop_next l j k = rw add-one (drop-cons l j 0 k)

  fourteen : xs ≡ get_or xs 0 0 ∷ get_or xs 1 0 ∷ get_or xs 2 0 ∷ get_or xs 3 0 ∷ get_or xs 4 0 ∷ get_or xs 5 0 ∷
      get_or xs 6 0 ∷
      get_or xs 7 0 ∷ get_or xs 8 0 ∷ get_or xs 9 0 ∷ get_or xs 10 0 ∷ get_or xs 11 0 ∷ get_or xs 12 0 ∷ get_or xs
      13 0 ∷ []
  fourteen =
      let end : length xs ≤ 14 = omega arith in
      let none : drop 14 xs ≡ [] = drop_of_length-le xs end in
      from 0 (omega arith) ∙ ap (λ (l : List ℕ). get_or xs 0 0 ∷ l)
      (from 1 (omega arith) ∙ ap (λ (l : List ℕ). get_or xs 1 0 ∷ l)
      (from 2 (omega arith) ∙ ap (λ (l : List ℕ). get_or xs 2 0 ∷ l)
      (from 3 (omega arith) ∙ ap (λ (l : List ℕ). get_or xs 3 0 ∷ l)
      (from 4 (omega arith) ∙ ap (λ (l : List ℕ). get_or xs 4 0 ∷ l)
      (from 5 (omega arith) ∙ ap (λ (l : List ℕ). get_or xs 5 0 ∷ l)
      (from 6 (omega arith) ∙ ap (λ (l : List ℕ). get_or xs 6 0 ∷ l)
      (from 7 (omega arith) ∙ ap (λ (l : List ℕ). get_or xs 7 0 ∷ l)
      (from 8 (omega arith) ∙ ap (λ (l : List ℕ). get_or xs 8 0 ∷ l)
      (from 9 (omega arith) ∙ ap (λ (l : List ℕ). get_or xs 9 0 ∷ l)
      (from 10 (omega arith) ∙ ap (λ (l : List ℕ). get_or xs 10 0 ∷ l)
      (from 11 (omega arith) ∙ ap (λ (l : List ℕ). get_or xs 11 0 ∷ l)
      (from 12 (omega arith) ∙ ap (λ (l : List ℕ). get_or xs 12 0 ∷ l)
      (from 13 (omega arith) ∙ ap (λ (l : List ℕ). get_or xs 13 0 ∷ l) none)))))))))))))

-- ---- the parts

module _ (k : Kept) (z : IsKept k) (version : ℕ) where
  -- what stands in the first block before the zeros
  abbrev front : List ℕ
  front = mark version ++ archive_field k ++ log_field k ++ out_field k ++ (crc_of k.tail ∷ [])

  abbrev fields : List (List ℕ)
  fields =
      mark version
      ∷ be 8 (nth k 0)
      ∷ be 8 (nth k 1)
      ∷ be 8 (nth k 2)
      ∷ be 8 (nth k 3)
      ∷ be 1 (nth k 4)
      ∷ k.name
      ∷ be 1 (nth k 5)
      ∷ be 8 (nth k 6)
      ∷ be 8 (nth k 7)
      ∷ be 8 (nth k 8)
      ∷ be 2 (nth k 9)
      ∷ be 1 (nth k 10)
      ∷ be 8 (nth k 11)
      ∷ be 8 (nth k 12)
      ∷ be 8 (nth k 13)
      ∷ (crc_of k.tail ∷ [])
      ∷ []

  front_is : front ≡ flatten fields
  unfolding archive_field log_field out_field flatten
  front_is = simp append_assoc

  front_long : length front ≡ 349
  unfolding archive_field log_field out_field
  front_long = simp (length-append, be-length, z.name)

  body_long : length (padded body_length front) ≡ body_length
  body_long = padded-length body_length front (omega (arith, front_long))

  header-long : length (state_header k version) ≡ block_length
  unfolding state_header sealed
  header-long = length-append (padded body_length front) (crc_of (padded body_length front) ∷ []) ∙ rw body_long refl

  two_long : length (state_header k version ++ k.last) ≡ 1024
  two_long = length-append (state_header k version) k.last ∙ rw (header-long, z.last) refl

  three_long : length (state_header k version ++ k.last ++ k.image) ≡ old_length
  three_long = length-append (state_header k version ++ k.last) k.image ∙ rw (two_long, z.image) refl

  pub state-length : length (state_bytes k version) ≡ state_length
  unfolding state_bytes
  state-length = length-append (state_header k version ++ k.last ++ k.image) k.tail ∙ rw (three_long, z.tail) refl

  -- a part of the first block
  head_part : (a n : ℕ) → a + n ≤ 349 → part a n (state_bytes k version) ≡ part a n front
  unfolding state_bytes state_header sealed
  head_part a n h =
      left (state_header k version ++ k.last ++ k.image) k.tail old_length a n three_long (omega arith)
      ∙ left (state_header k version ++ k.last) k.image 1024 a n two_long (omega arith)
      ∙ left (state_header k version) k.last block_length a n header-long (omega arith)
      ∙ left (padded body_length front) (crc_of (padded body_length front) ∷ []) body_length a n body_long (omega arith)
      ∙ left front (replicate (body_length - length front) 0) 349 a n front_long h

  -- field i of them
  field : (i a n : ℕ) → a + n ≤ 349 → start i fields ≡ a → length (get_or fields i []) ≡ n → part a n
      (state_bytes k version) ≡ get_or fields i []
  field i a n h e l = head_part a n h ∙ ap (part a n) front_is ∙ part-nth i fields a n e l

  last_part : part block_length block_length (state_bytes k version) ≡ k.last
  unfolding state_bytes
  last_part =
      left (state_header k version ++ k.last ++ k.image) k.tail old_length block_length block_length three_long
      (omega arith)
      ∙ left (state_header k version ++ k.last) k.image 1024 block_length block_length two_long (omega arith)
      ∙ last (state_header k version) k.last block_length block_length header-long z.last

  image-part : part 1024 image_length (state_bytes k version) ≡ k.image
  unfolding state_bytes
  image-part =
      left (state_header k version ++ k.last ++ k.image) k.tail old_length 1024 image_length three_long (omega arith)
      ∙ last (state_header k version ++ k.last) k.image 1024 image_length two_long z.image

  tail_part : resized max_tail (drop old_length (state_bytes k version)) ≡ k.tail
  unfolding state_bytes
  tail_part =
      ap (resized max_tail) (drop_at (state_header k version ++ k.last ++ k.image) k.tail old_length three_long)
      ∙ resized_whole max_tail k.tail z.tail

  name-part : part 41 max_name (state_bytes k version) ≡ k.name
  name-part = field 6 41 max_name (omega arith) (simp be-length) z.name

  number_lt : (i : ℕ) → i < 14 → nth k i < 2 ^ 64
  number_lt i h = ltb-true (nth k i) (2 ^ 64) (all_get_d (λ n. ltb n (2 ^ 64)) k.numbers i 0 z.fit (omega
      (arith, z.count)))

  -- a number of eight bytes, or of one
  eight : (i a j : ℕ) → j < 14 → a + 8 ≤ 349 → start i fields ≡ a → get_or fields i [] ≡ be 8 (nth k j) → unbe
      (part a 8 (state_bytes k version)) ≡ nth k j
  eight i a j h l e s = ap unbe (field i a 8 l e (ap length s ∙ be-length 8 (nth k j)) ∙ s) ∙ unbe-be 8 (nth k j)
      (number_lt j h)

  one : (i a j : ℕ) → nth k j < 256 → a + 1 ≤ 349 → start i fields ≡ a → get_or fields i [] ≡ be 1 (nth k j) → get_or
      (state_bytes k version) a 0 ≡ nth k j
  one i a j h l e s =
      sym (field_one a (state_bytes k version) (omega (arith, state-length)))
      ∙ ap unbe (field i a 1 l e (ap length s ∙ be-length 1 (nth k j)) ∙ s) ∙ unbe-be 1 (nth k j) h

  -- ---- numbers that are small

  record Small : Type 0 where
    named : name_length k ≤ max_name
    logs : logged k ≤ 1
    tails : tail_length k ≤ max_tail
    prints : printed k ≤ 1

  small : is_lawful_state k ≡ true → Small
  unfolding is_lawful_state is_attached is_placed is_printed
  small h =
      let a = both (accepts k.image) _ h in
      let b = both (is_attached k (image_rows k.image)) _ a.1 in
      let d = both (is_placed k) _ b.1 in
      let n = both (leb (name_length k) max_name) _ b.0 in
      let t = both (leb (tail_length k) max_tail) _ d.0 in
      let u = both (is_blank (drop (tail_length k) k.tail)) _ t.1 in
      record {
        named = leb-true (name_length k) max_name n.0;
        logs = flag (logged k) _ _ u.1 (λ p. (both (eqb (logged k) 1) _ p).0);
        tails = leb-true (tail_length k) max_tail t.0;
        prints = flag (printed k) _ _ d.1 (λ p. p);
      }
    where
      flag : (n : ℕ) (x y : Bool) → cond (eqb n 0) x y ≡ true → (y ≡ true → eqb n 1 ≡ true) → n ≤ 1
      flag n x y p f =
          by_test {X = n ≤ 1} (eqb n 0) (λ t. let e = eqb-true n 0 t in omega arith)
          (λ g. let q : y ≡ true = rw g at p in let e = eqb-true n 1 (f q) in omega arith)

  -- ---- all numbers

  numbers_part : is_lawful_state k ≡ true → numbers_in (state_bytes k version) ≡ k.numbers
  numbers_part h =
      let s = small h in
      let pair : unbe (part 321 2 (state_bytes k version)) ≡ nth k 9 =
      ap unbe (field 11 321 2 (omega arith) (simp (be-length, z.name)) (be-length 2 (nth k 9))) ∙ unbe-be 2
      (nth k 9) (omega (arith, s.tails)) in
      rw (
        eight 1 8 0 (omega arith) (omega arith) refl refl,
        eight 2 16 1 (omega arith) (omega arith) (simp be-length) refl,
        eight 3 24 2 (omega arith) (omega arith) (simp be-length) refl,
        eight 4 32 3 (omega arith) (omega arith) (simp be-length) refl,
        one 5 40 4 (omega (arith, s.named)) (omega arith) (simp be-length) refl,
        one 7 296 5 (omega (arith, s.logs)) (omega arith) (simp (be-length, z.name)) refl,
        eight 8 297 6 (omega arith) (omega arith) (simp (be-length, z.name)) refl,
        eight 9 305 7 (omega arith) (omega arith) (simp (be-length, z.name)) refl,
        eight 10 313 8 (omega arith) (omega arith) (simp (be-length, z.name)) refl,
        pair,
        one 12 323 10 (omega (arith, s.prints)) (omega arith) (simp (be-length, z.name)) refl,
        eight 13 324 11 (omega arith) (omega arith) (simp (be-length, z.name)) refl,
        eight 14 332 12 (omega arith) (omega arith) (simp (be-length, z.name)) refl,
        eight 15 340 13 (omega arith) (omega arith) (simp (be-length, z.name)) refl,
      )
      (sym (fourteen k.numbers z.count))

  pub read_back : is_lawful_state k ≡ true → read_state (state_bytes k version) ≡ k
  read_back h = λ j. kept (numbers_part h j) (name-part j) (last_part j) (image-part j) (tail_part j)
