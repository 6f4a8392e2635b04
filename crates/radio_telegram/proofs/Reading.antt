-- The cases of `fields_of` and `read_of`, and what a reading says of the check and the fields.
use Rattle.std.specs.Prelude.{Ok, Err, is_some}
use mathlib.Core.Path.{◌≡◌, refl, sym, ap, ◌∙◌}
use mathlib.Core.Bool.{Bool, true, false, cond}
use mathlib.Core.List.{List, ◌++◌}
use Prim.Native.Nat.{ℕ, ◌-◌}
use native.Mathlib.Omega.{arith}
use lib.ListN.{length, get_or, take, drop, replicate}
use lib.Seq.{take-length}
use borrow.Author.Tests.{le-ltb, eq-eqb, ne_eqb, eqb-true, eqb-false}
use Rattle.base_lists.specs.Lists.{padded}
use Rattle.base_lists.proofs.Padded.{drop-replicate}
use Rattle.base_refusal.specs.Number.{number_of}
use Rattle.base_refusal.specs.declared.Refusal.{Refusal}
use Rattle.radio_erp1.specs.Subtelegram.{addressed, check_of, is_addressed}
use Rattle.radio_erp1.proofs.Checks.{Sound, not_valid}
use Rattle.radio_telegram.specs.declared.fields.Telegram.{Telegram}
use Rattle.radio_telegram.specs.Fields.{max_data, is_unbuildable, plain_fields, addressed_fields, fields_of, Read, shown_reading, read_of}

module _ (s : List ℕ) where
  pub fields-addressed : get_or s 0 0 ≡ addressed → addressed_fields s ≡ fields_of s
  unfolding fields_of
  fields-addressed h = rw (eq-eqb _ _ h)

  pub fields-plain : (get_or s 0 0 ≡ addressed → ⊥) → plain_fields s ≡ fields_of s
  unfolding fields_of
  fields-plain h = rw (ne_eqb _ _ h)

  -- a telegram is read as addressed where its first byte says so
  pub fields_flag : is_some (fields_of s).destid ≡ is_addressed s
  unfolding fields_of
  fields_flag = go (is_addressed s)
    where
      go : (b : Bool) → is_some (cond b (addressed_fields s) (plain_fields s)).destid ≡ b
      go true = refl
      go false = refl

  pub read_valid : (t : Telegram) → check_of s ≡ 0 → t ≡ fields_of s
      → shown_reading (Ok t) ≡ read_of s
  unfolding read_of
  read_valid t e f = rw (e, f)

  pub read_refused : (why : Refusal) → number_of why ≡ check_of s → shown_reading (Err why) ≡ read_of s
  unfolding read_of
  read_refused why e = rw (not_valid s why e, e)

  pub reads_refused : (why : Refusal) → shown_reading (Err why) ≡ read_of s → number_of why ≡ check_of s
  unfolding read_of
  reads_refused why e = ap (λ (x : Read). x.number) e

  module _ (t : Telegram) (e : shown_reading (Ok t) ≡ read_of s) where
    pub reads_valid : check_of s ≡ 0
    unfolding read_of
    reads_valid = sym (ap (λ (x : Read). x.number) e)

    pub reads_fields : t ≡ fields_of s
    unfolding read_of
    reads_fields = ap (λ (x : Read). x.telegram) e ∙ rw reads_valid

    pub reads_flag : is_addressed s ≡ is_some t.destid
    reads_flag = sym (ap (λ (x : Telegram). is_some x.destid) reads_fields ∙ fields_flag)

-- the fields of a valid subtelegram can be built, but for the length that an address adds
module _ (s : List ℕ) (v : Sound s) where
  plain-fit : (get_or s 0 0 ≡ addressed → ⊥) → is_unbuildable (plain_fields s) ≡ false
  unfolding is_unbuildable
  plain-fit n =
      rw (
        le-ltb (length s - 7) 1 (omega (arith, v.low)),
        le-ltb max_data (length s - 7) (omega (arith, v.high)),
        ne_eqb _ _ n,
      )

  addressed-fit : get_or s 0 0 ≡ addressed → is_unbuildable (addressed_fields s) ≡ false
  unfolding is_unbuildable
  addressed-fit a =
      let i = v.inner a in
      rw (
        le-ltb (length s - 12) 1 (omega (arith, i.0)),
        le-ltb max_data (length s - 12) (omega (arith, v.high)),
        ne_eqb _ _ i.1,
      )

  pub fields_fit : is_unbuildable (fields_of s) ≡ false
  fields_fit = go (is_addressed s) refl
    where
      go : (b : Bool) → is_addressed s ≡ b → is_unbuildable (fields_of s) ≡ false
      go true e = rw (← fields-addressed s (eqb-true _ _ e)) (addressed-fit (eqb-true _ _ e))
      go false e = rw (← fields-plain s (eqb-false _ _ e)) (plain-fit (eqb-false _ _ e))
