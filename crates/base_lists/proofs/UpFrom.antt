-- Laws of `up_from`: lists over numbers in a row.
use mathlib.Core.Path.{◌≡◌, refl, sym, ap, ap₂, ◌∙◌}
use mathlib.Core.Bool.{Bool, true, false}
use mathlib.Core.List.Memᴰ
use mathlib.Core.List.{List, [], ◌∷◌, ◌++◌, map, flat_map, append_assoc, append-nil, Memᴰ}
use mathlib.Core.Logic.{⊎_elim}
use Prim.Native.Nat.{ℕ, zero, suc, ◌+◌, ◌-◌, ◌≤◌, ◌<◌}
use native.Mathlib.Nat.{add-zero, zero-add, suc-add, add-suc, not-suc-le-zero, le_of_suc-le-suc}
use native.Mathlib.Decide.{dec_lt}
use native.Mathlib.Omega.{arith}
use lib.ListN.{length, get_or}
use Rattle.base_lists.specs.Lists.{keep, pairwise, up_from}
use Rattle.base_lists.proofs.Keep.{keep_append}
use Rattle.base_lists.proofs.Pairwise.{pairwise_append}

pub up_from_add : (a n m : ℕ) → up_from a (n + m) ≡ up_from a n ++ up_from (a + n) m
unfolding up_from
up_from_add a zero m = rw (zero-add, add-zero)
up_from_add a (suc n) m = rw (suc-add n, add-suc, ← (suc-add a))
    (ap (λ (xs : List ℕ). a ∷ xs) (up_from_add (suc a) n m))

pub length-up_from : (a n : ℕ) → length (up_from a n) ≡ n
unfolding up_from
length-up_from a zero = refl
length-up_from a (suc n) = ap suc (length-up_from (suc a) n)

pub get_d_up_from : {A : Type 0} (g : ℕ → A) (a n k : ℕ) (x : A) → k < n → get_or (map g (up_from a n)) k x ≡ g (a + k)
unfolding up_from
get_d_up_from g a zero k x h = absurd (not-suc-le-zero h)
get_d_up_from g a (suc n) zero x h = rw add-zero
get_d_up_from g a (suc n) (suc k) x h = rw (add-suc, ← (suc-add a)) (get_d_up_from g (suc a) n k x (le_of_suc-le-suc h))

pub up_from_in : (a n i : ℕ) → a ≤ i → i < a + n → Memᴰ i (up_from a n)
unfolding up_from
up_from_in a zero i h k = absurd (omega arith)
up_from_in a (suc n) i h k =
    elim (dec_lt a i) [
      | yes l ↦ Memᴰ.tail (up_from_in (suc a) n i l (omega arith))
      | no l ↦ let e : i ≡ a = omega arith in Memᴰ.head e
    ]

pub map_shift : {A : Type 0} (f : ℕ → A) (n a m : ℕ) → map f (up_from (n + a) m) ≡ map (λ j. f (n + j)) (up_from a m)
unfolding up_from
map_shift f n a zero = refl
map_shift f n a (suc m) =
    ap (λ (l : List _). f (n + a) ∷ l)
    (ap (λ (i : ℕ). map f (up_from i m)) (sym (add-suc n a)) ∙ map_shift f n (suc a) m)

-- two maps that agree, over numbers in a row from a on and from b on
pub map-moved : {A : Type 0} (f g : ℕ → A) (a b n : ℕ)
    → ((i : ℕ) → i < n → f (a + i) ≡ g (b + i)) → map f (up_from a n) ≡ map g (up_from b n)
unfolding up_from
map-moved f g a b zero h = refl
map-moved f g a b (suc n) h =
    ap₂ ◌∷◌ (rw (add-zero, add-zero) at (h 0 (omega arith)))
    (map-moved f g (suc a) (suc b) n (λ i k. rw (suc-add, suc-add, ← add-suc, ← add-suc) (h (suc i) (omega arith))))

pub map_same : {A : Type 0} (f g : ℕ → A) (a n : ℕ)
    → ((i : ℕ) → a ≤ i → i < a + n → f i ≡ g i) → map f (up_from a n) ≡ map g (up_from a n)
map_same f g a n h = map-moved f g a a n (λ i k. h (a + i) (omega arith) (omega arith))

-- ── keep ──

module _ (p : ℕ → Bool) where
  pub keep_none : (a n : ℕ) → ((i : ℕ) → a ≤ i → i < a + n → p i ≡ false) → keep p (up_from a n) ≡ []
  unfolding up_from
  keep_none a zero h = refl
  keep_none a (suc n) h =
      rw (h a (omega arith) (omega arith)) (keep_none (suc a) n (λ i s t. h i (omega arith) (omega arith)))

  pub keep_all : (a n : ℕ) → ((i : ℕ) → a ≤ i → i < a + n → p i ≡ true) → keep p (up_from a n) ≡ up_from a n
  unfolding up_from
  keep_all a zero h = refl
  keep_all a (suc n) h =
      rw (h a (omega arith) (omega arith))
      (ap (λ (xs : List ℕ). a ∷ xs) (keep_all (suc a) n (λ i s t. h i (omega arith) (omega arith))))

  -- of the numbers lo to hi, a test that passes from x to y alone keeps these
  pub keep_between : (lo hi x y : ℕ) → lo ≤ x → x ≤ y → y ≤ hi → ((i : ℕ) → lo ≤ i → i < x → p i ≡ false)
      → ((i : ℕ) → x ≤ i → i ≤ y → p i ≡ true) → ((i : ℕ) → y < i → i ≤ hi → p i ≡ false)
      → keep p (up_from lo (hi + 1 - lo)) ≡ up_from x (y + 1 - x)
  keep_between lo hi x y a b c below inside above =
      let size : hi + 1 - lo ≡ x - lo + (y + 1 - x + (hi - y)) = omega arith in
      let middle : lo + (x - lo) ≡ x = omega arith in
      rw (
        size,
        up_from_add lo (x - lo),
        middle,
        up_from_add x (y + 1 - x),
        keep_append,
        keep_append,
        keep_none lo (x - lo) (λ i h k. below i h (omega arith)),
        keep_all x (y + 1 - x) (λ i h k. inside i h (omega arith)),
        keep_none (x + (y + 1 - x)) (hi - y) (λ i h k. above i (omega arith) (omega arith)),
        append-nil,
      )

-- ── blocks, one for each number ──

pub flat_map_append : {A B : Type 0} (g : A → List B) (xs ys : List A)
    → flat_map g (xs ++ ys) ≡ flat_map g xs ++ flat_map g ys
unfolding flat_map
flat_map_append g [] ys = refl
flat_map_append g (x ∷ xs) ys = rw (flat_map_append g xs ys, append_assoc)

pub flat_map_same : {A : Type 0} (f g : ℕ → List A) (a n : ℕ)
    → ((i : ℕ) → a ≤ i → i < a + n → f i ≡ g i) → flat_map f (up_from a n) ≡ flat_map g (up_from a n)
unfolding flat_map up_from
flat_map_same f g a zero h = refl
flat_map_same f g a (suc n) h =
    rw (h a (omega arith) (omega arith), flat_map_same f g (suc a) n (λ i s t. h i (omega arith) (omega arith)))

module _ {A : Type 0} (g : ℕ → List A) where
  pub flat_map_in : {x : A} (a n i : ℕ) → a ≤ i → i < a + n → Memᴰ x (g i) → Memᴰ x (flat_map g (up_from a n))
  unfolding flat_map up_from
  flat_map_in a zero i h k m = absurd (omega arith)
  flat_map_in a (suc n) i h k m =
      elim (dec_lt a i) [
        | yes l ↦ Memᴰ.append_right (g a) (flat_map_in (suc a) n i l (omega arith) m)
        | no l ↦ let e : i ≡ a = omega arith in Memᴰ.append_left _ (rw e at m)
      ]

  pub flat_map-from : {x : A} (a n : ℕ) → Memᴰ x (flat_map g (up_from a n))
      → (i : ℕ) × (a ≤ i) × (i < a + n) × Memᴰ x (g i)
  unfolding flat_map up_from
  flat_map-from {x = x} a zero m = absurd (Memᴰ.not-nil m)
  flat_map-from {x = x} a (suc n) m =
      ⊎_elim (λ k. (a, omega arith, omega arith, k))
      (λ k.
      let w : (i : ℕ) × (suc a ≤ i) × (i < suc a + n) × Memᴰ x (g i) = flat_map-from {x = x} (suc a) n k in
      (w.0, omega (arith, w.1), omega (arith, w.2), w.3))
      (Memᴰ.append_cases (g a) m)

  -- each block is in order, and each element of a block stands before those of later blocks
  pub pairwise-flat_map : (r : A → A → Bool) → ((i : ℕ) → pairwise r (g i) ≡ true)
      → ((i j : ℕ) → i < j → (x y : A) → Memᴰ x (g i) → Memᴰ y (g j) → r x y ≡ true)
      → (a n : ℕ) → pairwise r (flat_map g (up_from a n)) ≡ true
  unfolding flat_map up_from
  pairwise-flat_map r s h a zero = refl
  pairwise-flat_map r s h a (suc n) =
      pairwise_append r (g a) _ (s a) (pairwise-flat_map r s h (suc a) n)
      (λ x y k m. let w = flat_map-from (suc a) n m in h a w.0 w.1 x y k w.3)

map-blocks : {A B : Type 0} (g : A → B) (xs : List A) → map g xs ≡ flat_map (λ x. g x ∷ []) xs
unfolding flat_map
map-blocks g [] = refl
map-blocks g (x ∷ xs) = ap (λ (ys : List _). g x ∷ ys) (map-blocks g xs)

-- what a map makes of numbers in a row is in order where it keeps their order
pub pairwise_map : {A : Type 0} (g : ℕ → A) (r : A → A → Bool)
    → ((i j : ℕ) → i < j → r (g i) (g j) ≡ true) → (a n : ℕ) → pairwise r (map g (up_from a n)) ≡ true
pairwise_map g r h a n =
    rw (map-blocks g (up_from a n))
    (pairwise-flat_map (λ i. g i ∷ []) r (λ i. refl)
    (λ i j l x y k m. rw (Memᴰ.eq_of_singleton k, Memᴰ.eq_of_singleton m) (h i j l)) a n)
