-- The tests of a burst beside that of the state, by what the code tests.
--     call-short, call-refused, call-done     the number by its tests
--     called                        what a call without a refusal says of its numbers
use Prim.Native.Nat.{ℕ, ◌≤◌, ◌<◌}
use native.Mathlib.Omega.{arith}
use native.Mathlib.Decide.{dec_lt}
use mathlib.Core.Path.{◌≡◌, refl, ◌∙◌}
use mathlib.Core.Bool.{Bool, true, false, cond, ◌||◌}
use lib.Dec.{ltb}
use borrow.Author.Tests.{lt-ltb, le-ltb}
use Rattle.base_refusal.specs.Number.{number_of}
use Rattle.base_refusal.specs.declared.Refusal.TheVariants.{ShortOutput, Argument}
use Rattle.base_refusal.proofs.Numbers.{refused-number}
use Rattle.radio_telegram.specs.Repeater.{max_setting}
use Rattle.collector_model.specs.Burst.{max_burst, call_number}

module _ (setting n m : ℕ) where
  pub call-short : m < n → number_of ShortOutput ≡ call_number setting n m
  unfolding call_number
  call-short h = rw (lt-ltb m n h)

  module _ (room : n ≤ m) where
    pub call-refused : (ltb max_burst n || ltb max_setting setting) ≡ true
        → number_of Argument ≡ call_number setting n m
    unfolding call_number
    call-refused e = rw (le-ltb m n room) (go (ltb max_burst n) (ltb max_setting setting) e)
      where
        go : (a b : Bool) → (a || b) ≡ true
            → number_of Argument ≡ cond a (number_of Argument) (cond b (number_of Argument) 0)
        go true b e = refl
        go false true e = refl
        go false false e = cc

    pub call-done : (ltb max_burst n || ltb max_setting setting) ≡ false → 0 ≡ call_number setting n m
    unfolding call_number
    call-done e = rw (le-ltb m n room) (go (ltb max_burst n) (ltb max_setting setting) e)
      where
        go : (a b : Bool) → (a || b) ≡ false
            → ◌≡◌ {A = ℕ} 0 (cond a (number_of Argument) (cond b (number_of Argument) 0))
        go true b e = cc
        go false true e = cc
        go false false e = refl

pub called : (setting n m : ℕ) → call_number setting n m ≡ 0 → (n ≤ m) × (n ≤ max_burst)
called setting n m e = elim (dec_lt m n) [
  | yes h ↦ absurd (refused-number ShortOutput (call-short setting n m h ∙ e))
  | no h ↦ elim (dec_lt max_burst n) [
    | yes k ↦ absurd (refused-number Argument (call-refused setting n m (omega arith) (rw (lt-ltb max_burst n k)) ∙ e))
    | no k ↦ (omega arith, omega arith)
  ]
]
