-- Buffers: what is resized, and what is overwritten.
--     padded-length, resized-length                    how long they are
--     zeros-after, padded-at                           zeros behind a list change no element, as past its end it reads as 0
--     resized-padded, resized-cut, resized-whole       what is resized: a list that is not longer, not shorter, or as long
--     resized-more                                     one number more, which a loop puts
--     resized-back                                     a list, zero filled, and its front again
--     overwritten-fits, overwritten-not                a buffer of the right length, and one of another
--     copied                                           what a copy of the same length leaves
use mathlib.Core.Path.{◌≡◌, refl, sym, ap₂, ◌∙◌}
use mathlib.Core.List.{List, [], ◌∷◌, ◌++◌, append_assoc, append-nil}
use Prim.Native.Nat.{ℕ, zero, suc, ◌+◌, ◌-◌, ◌≤◌}
use native.Mathlib.Numerals.{add-one}
use native.Mathlib.Decide.{dec_lt}
use native.Mathlib.Omega.{arith}
use borrow.Author.Tests.{eq-eqb, ne_eqb}
use lib.ListN.{length, get_or, take, drop, replicate, drop_of_length-le, length-append, length-take, length-replicate, replicate-append-replicate, get_or-eq_default}
use lib.Seq.{take_all, take_at, take-append-le, take-suc}
use Rattle.base_lists.specs.Lists.{padded}
use Rattle.base_buffers.specs.Buffer.{resized, overwritten}

pub padded-length : (n : ℕ) (xs : List ℕ) → length xs ≤ n → length (padded n xs) ≡ n
padded-length n xs h = simp (length-append, length-replicate) (omega arith)

pub resized-length : (n : ℕ) (xs : List ℕ) → length (resized n xs) ≡ n
unfolding resized
resized-length n xs = simp (length-take, length-append, length-replicate) (omega arith)

-- past its end a list reads as 0, as the zeros do
zeros_at : (n i : ℕ) → get_or {A = ℕ} (replicate n 0) i 0 ≡ 0
zeros_at zero i = refl
zeros_at (suc n) zero = refl
zeros_at (suc n) (suc i) = zeros_at n i

pub zeros_after : (xs : List ℕ) (n i : ℕ) → get_or (xs ++ replicate n 0) i 0 ≡ get_or xs i 0
zeros_after [] n i = zeros_at n i
zeros_after (x ∷ xs) n zero = refl
zeros_after (x ∷ xs) n (suc i) = zeros_after xs n i

pub padded_at : (n : ℕ) (xs : List ℕ) (i : ℕ) → get_or (padded n xs) i 0 ≡ get_or xs i 0
padded_at n xs i = zeros_after xs (n - length xs) i

-- a list that is not longer is zero filled
pub resized-padded : (n : ℕ) (xs : List ℕ) → length xs ≤ n → resized n xs ≡ padded n xs
unfolding resized
resized-padded n xs h = take_all n (padded n xs) (omega (arith, padded-length n xs h))

-- one that is not shorter is cut
pub resized_cut : (n : ℕ) (xs : List ℕ) → n ≤ length xs → resized n xs ≡ take n xs
unfolding resized
resized_cut n xs h = take-append-le n xs (replicate (n - length xs) 0) h

pub resized_whole : (n : ℕ) (xs : List ℕ) → length xs ≡ n → resized n xs ≡ xs
resized_whole n xs h = resized_cut n xs (omega arith) ∙ take_all n xs (omega arith)

pub resized-more : (n : ℕ) (xs : List ℕ) → resized n xs ++ (get_or xs n 0 ∷ []) ≡ resized (n + 1) xs
resized-more n xs = elim (dec_lt n (length xs)) [
  | yes h ↦ rw (resized_cut n xs (omega arith), resized_cut (n + 1) xs (omega arith), add-one) (sym (take-suc xs n 0 h))
  | no h ↦ past (omega arith)
]
  where
    past : length xs ≤ n → resized n xs ++ (get_or xs n 0 ∷ []) ≡ resized (n + 1) xs
    past h =
        let e : n + 1 - length xs ≡ n - length xs + 1 = omega arith in
        rw (
          resized-padded n xs h,
          resized-padded (n + 1) xs (omega arith),
          get_or-eq_default xs 0 h,
          e,
          ← replicate-append-replicate,
        )
        (append_assoc xs (replicate (n - length xs) 0) (replicate 1 0))

pub resized-back : (n : ℕ) (xs : List ℕ) → length xs ≤ n → resized (length xs) (padded n xs) ≡ xs
resized-back n xs h =
    resized_cut (length xs) (padded n xs) (omega (arith, padded-length n xs h))
    ∙ take_at xs (replicate (n - length xs) 0) (length xs) refl

module _ (n : ℕ) (new old : List ℕ) where
  pub overwritten-fits : length old ≡ n → overwritten n new old ≡ new
  unfolding overwritten
  overwritten-fits h = rw (eq-eqb (length old) n h)

  pub overwritten-not : (length old ≡ n → ⊥) → overwritten n new old ≡ old
  unfolding overwritten
  overwritten-not h = rw (ne_eqb (length old) n h)

pub copied : (src dst ys : List ℕ) → length src ≡ length dst
    → ys ≡ take (length src) src ++ drop (length src) dst → ys ≡ src
copied src dst ys e c =
    let l : length dst ≤ length src = omega arith in
    let k : length src ≤ length src = omega arith in
    c ∙ ap₂ ◌++◌ (take_all (length src) src k) (drop_of_length-le dst l) ∙ append-nil src
