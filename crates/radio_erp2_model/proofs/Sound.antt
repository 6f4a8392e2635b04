-- What a check that passes says of a list.
use mathlib.Core.Path.{◌≡◌, refl, sym, ◌∙◌}
use mathlib.Core.Bool.{Bool, true, false, cond, not, true≢false}
use mathlib.Core.List.{List}
use Prim.Native.Nat.{ℕ, ◌+◌, ◌-◌, ◌≤◌, ◌<◌}
use native.Mathlib.Omega.{arith}
use lib.Dec.{eqb}
use lib.ListN.{length, get_or}
use borrow.Author.Tests.{eqb-true, eqb-false, leb-false, ltb-false, not-false}
use Rattle.base_lists.proofs.Choice.{cond_no, neither}
use Rattle.base_refusal.specs.Number.{number_of}
use Rattle.base_refusal.specs.declared.Refusal.TheVariants.{Length, Crc, ReservedAddress, Misfit}
use Rattle.base_refusal.proofs.Numbers.{refused-number}
use Rattle.base_crc8.specs.Crc8.{crc_of}
use Rattle.base_buffers.specs.Buffer.{part}
use Rattle.radio_erp2_model.specs.Header.{is_reserved}
use Rattle.radio_erp2_model.specs.Sizes.{overhead}
use Rattle.radio_erp2_model.specs.Reading.{length_byte, is_length_wrong, has_short_length, is_intact, header_in, sizes_in, is_overrun, check_of}
use Rattle.radio_erp2_model.proofs.Lookups.{short-fits}

pub record Sound (s : List ℕ) : Type 0 where
  pub long : length s ≡ 1 + length_byte s
  pub some : 0 < length_byte s
  pub fits : overhead (sizes_in s) ≤ length_byte s
  pub intact : has_short_length s ≡ false → get_or s (length_byte s) 0 ≡ crc_of (part 1 (length_byte s - 1) s)
  pub allowed : has_short_length s ≡ false → (header_in s).control < 4

-- the tests of a long form, in their order
abbrev long_tests : List ℕ → ℕ
long_tests s =
    cond (not (is_intact s)) (number_of Crc)
    (cond (is_reserved (header_in s)) (number_of ReservedAddress)
    (cond (is_overrun s) (number_of Misfit)
    0))

module _ (s : List ℕ) (some : 0 < length_byte s) (long : length s ≡ 1 + length_byte s) where
  sound_short : has_short_length s ≡ true → Sound s
  sound_short h = record {
    long = long;
    some = some;
    fits = rw h (omega (arith, short-fits (length_byte s)));
    intact = λ k. absurd (true≢false (sym h ∙ k));
    allowed = λ k. absurd (true≢false (sym h ∙ k));
  }

  sound_long : has_short_length s ≡ false → long_tests s ≡ 0 → Sound s
  sound_long h e =
      let a = cond_no (not (is_intact s)) (refused-number Crc) e in
      let b = cond_no (is_reserved (header_in s)) (refused-number ReservedAddress) a.1 in
      let c = cond_no (is_overrun s) (refused-number Misfit) b.1 in
      record {
        long = long;
        some = some;
        fits = ltb-false _ _ c.0;
        intact = λ k. eqb-true _ _ (not-false _ a.0);
        allowed = λ k. leb-false _ _ b.0;
      }

by_form : (s : List ℕ) → 0 < length_byte s → length s ≡ 1 + length_byte s
    → (b : Bool) → has_short_length s ≡ b → cond b 0 (long_tests s) ≡ 0 → Sound s
by_form s some long true h e = sound_short s some long h
by_form s some long false h e = sound_long s some long h e

pub check_facts : (s : List ℕ) → check_of s ≡ 0 → Sound s
unfolding check_of
check_facts s e =
    let a = cond_no (is_length_wrong s) (refused-number Length) e in
    let w = neither (eqb (length_byte s) 0) (not (eqb (length s) (1 + length_byte s))) a.0 in
    by_form s (omega (arith, eqb-false (length_byte s) 0 w.0))
    (eqb-true _ _ (not-false _ w.1)) (has_short_length s) refl a.1
