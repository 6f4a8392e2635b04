-- Laws of lists that are filled one place after the other.
use mathlib.Core.Path.{◌≡◌, ◌∙◌}
use mathlib.Core.List.{List}
use Prim.Native.Nat.{ℕ, ◌+◌, ◌<◌}
use native.Mathlib.Omega.{arith}
use native.Mathlib.Decide.{dec_lt}
use lib.ListN.{length, get_or, set}
use lib.Seq.{get_or-set_same, get_or-set_other}

-- each place before k holds what a rule says, and so does place k
pub filled_next : (f : ℕ → ℕ) (l : List ℕ) (k x : ℕ) → k < length l → ((j : ℕ) → j < k → get_or l j 0 ≡ f j) → x ≡ f k
    → (j : ℕ) → j < k + 1 → get_or (set l k x) j 0 ≡ f j
filled_next f l k x h done e j i = elim (dec_lt j k) [
  | yes b ↦ (get_or-set_other l k j x 0 (λ z. omega arith) ∙ done j b)
  | no b ↦
      (let s : j ≡ k = omega arith in
      rw s (get_or-set_same l k x 0 h ∙ e))
]

-- the same from a place on
pub filled_from : (f : ℕ → ℕ) (l : List ℕ) (to k x : ℕ) → to + k < length l
    → ((j : ℕ) → j < k → get_or l (to + j) 0 ≡ f j) → x ≡ f k
    → (j : ℕ) → j < k + 1 → get_or (set l (to + k) x) (to + j) 0 ≡ f j
filled_from f l to k x h done e j i = elim (dec_lt j k) [
  | yes b ↦ (get_or-set_other l (to + k) (to + j) x 0 (λ z. omega arith) ∙ done j b)
  | no b ↦
      (let s : j ≡ k = omega arith in
      rw s (get_or-set_same l (to + k) x 0 h ∙ e))
]
