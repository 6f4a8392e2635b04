-- The cases of `encapsulate_of` and `decapsulate_of`.
use Rattle.std.specs.Prelude.{Err}
use mathlib.Core.Path.{◌≡◌, refl}
use mathlib.Core.Bool.{Bool, true, false, cond, not}
use mathlib.Core.List.{List}
use Prim.Native.Nat.{ℕ}
use borrow.Author.Tests.{eqb-true, eqb-false, not-false}
use Rattle.base_refusal.specs.Number.{number_of}
use Rattle.base_refusal.specs.declared.Refusal.{Refusal}
use Rattle.base_refusal.specs.declared.Refusal.TheVariants.{Nested, NotAddressed}
use Rattle.base_refusal.proofs.Numbers.{refused-number}
use Rattle.radio_erp1.specs.Subtelegram.{check_of, is_addressed, is_valid}
use Rattle.radio_erp1.proofs.Checks.{check_facts, not_valid}
use Rattle.radio_telegram.specs.declared.fields.Telegram.{Telegram}
use Rattle.radio_telegram.specs.Output.{Result, result_of, refused, put_of}
use Rattle.radio_telegram.specs.Fields.{fields_of, is_unbuildable, build_of}
use Rattle.radio_telegram.specs.Addressing.{addressed_to, unaddressed, encapsulated, decapsulated, encapsulate_of, decapsulate_of}
use Rattle.radio_telegram.proofs.Frames.{unrefused}
use Rattle.radio_telegram.proofs.Reading.{fields_fit}

module _ (s out : List ℕ) where
  module _ (why : Refusal) (e : number_of why ≡ check_of s) where
    pub encapsulate_refused : (to : List ℕ) → result_of (Err why) out ≡ encapsulate_of s to out
    unfolding encapsulate_of
    encapsulate_refused to = rw (not_valid s why e, e)

    pub decapsulate_refused : result_of (Err why) out ≡ decapsulate_of s out
    unfolding decapsulate_of
    decapsulate_refused = rw (not_valid s why e, e)

  -- an answer 0 says that s is valid, and whether it is addressed
  checked : (r : Result) → (cond (not (is_valid s)) (refused (check_of s) out) r).number ≡ 0
      → (check_of s ≡ 0) × (r.number ≡ 0)
  checked r e = go (is_valid s) refl e
    where
      go : (b : Bool) → is_valid s ≡ b → (cond (not b) (refused (check_of s) out) r).number ≡ 0
          → (check_of s ≡ 0) × (r.number ≡ 0)
      go true v z = (eqb-true _ _ v, z)
      go false v z = absurd (eqb-false (check_of s) 0 v z)

  pub encapsulate_facts : (to : List ℕ) → (encapsulate_of s to out).number ≡ 0
      → (check_of s ≡ 0) × (is_addressed s ≡ false) × ((put_of (encapsulated s to) out).number ≡ 0)
  unfolding encapsulate_of
  encapsulate_facts to e =
      let p = checked _ e in
      let q = unrefused (is_addressed s) _ out (put_of (encapsulated s to) out) (refused-number Nested) p.1 in
      (p.0, q.0, q.1)

  pub decapsulate_facts : (decapsulate_of s out).number ≡ 0
      → (check_of s ≡ 0) × (is_addressed s ≡ true) × ((put_of (decapsulated s) out).number ≡ 0)
  unfolding decapsulate_of
  decapsulate_facts e =
      let p = checked _ e in
      let q = unrefused (not (is_addressed s)) _ out (put_of (decapsulated s) out) (refused-number NotAddressed) p.1 in
      (p.0, not-false _ q.0, q.1)

  module _ (valid : check_of s ≡ 0) where
    pub encapsulate_nested : (to : List ℕ) → is_addressed s ≡ true
        → result_of (Err Nested) out ≡ encapsulate_of s to out
    unfolding encapsulate_of
    encapsulate_nested to a = rw (valid, a)

    pub decapsulate_plain : is_addressed s ≡ false → result_of (Err NotAddressed) out ≡ decapsulate_of s out
    unfolding decapsulate_of
    decapsulate_plain a = rw (valid, a)

    pub encapsulate_put : (to : List ℕ) → is_addressed s ≡ false
        → put_of (encapsulated s to) out ≡ encapsulate_of s to out
    unfolding encapsulate_of
    encapsulate_put to a = rw (valid, a)

    pub decapsulate_put : is_addressed s ≡ true → put_of (decapsulated s) out ≡ decapsulate_of s out
    unfolding decapsulate_of
    decapsulate_put a = rw (valid, a)

    -- the fields u that were read are built with another address, as t
    module _ (t u : Telegram) (read : u ≡ fields_of s) where
      pub encapsulate_built : (to : List ℕ) → t ≡ addressed_to u to
          → is_addressed s ≡ false → build_of t out ≡ encapsulate_of s to out
      unfolding build_of is_unbuildable
      encapsulate_built to made a = rw (made, read, fields_fit s (check_facts s valid)) (encapsulate_put to a)

      pub decapsulate_built : t ≡ unaddressed u → is_addressed s ≡ true → build_of t out ≡ decapsulate_of s out
      unfolding build_of is_unbuildable
      decapsulate_built made a = rw (made, read, fields_fit s (check_facts s valid)) (decapsulate_put a)
