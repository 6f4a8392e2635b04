-- Which telegrams are admitted: sizes that are small, and one law for each return of `admission` and `is_misfitting`.
use mathlib.Core.Path.{◌≡◌, refl, sym}
use mathlib.Core.Bool.{Bool, true, false, not, ◌&&◌, ◌||◌, or-true}
use Prim.Native.Nat.{◌+◌, ◌^◌, ◌≤◌, ◌<◌}
use native.Mathlib.Omega.{arith}
use lib.Dec.{eqb, leb, ltb}
use borrow.Author.Tests.{ne_eqb, lt-ltb, ltb-false, not-false, eqb-true}
use Rattle.base_lists.proofs.Choice.{neither, cond_no}
use Rattle.base_refusal.specs.Number.{number_of}
use Rattle.base_refusal.specs.declared.Refusal.TheVariants.{Argument, ReservedAddress, Misfit}
use Rattle.base_refusal.proofs.Numbers.{refused-number}
use Rattle.radio_erp2_model.specs.declared.Telegram.{Telegram}
use Rattle.radio_erp2_model.specs.Header.{is_reserved, announced_of}
use Rattle.radio_erp2_model.specs.Sizes.{short_sizes, long_sizes, overhead}
use Rattle.radio_erp2_model.specs.Building.{is_short_form, sizes_for, telegram_size, is_unholdable, is_against_header, is_misfitting}
use Rattle.radio_erp2_model.specs.Bounds.{Buildable}
use Rattle.radio_erp2.specs.Private.{admission_of}
use Rattle.radio_erp2_model.proofs.Lookups.{short-high, originator-low, originator-high}
use Rattle.radio_erp2_model.proofs.Placing.{long-small}

module _ (t : Telegram) where
  by_form_high : (x : Bool) → is_short_form t ≡ x → (sizes_for t).originator ≤ 6
  by_form_high true f =
      let o = short-high t.short in
      rw f (omega arith)
  by_form_high false f = rw f (originator-high t.header.control)

  pub for_high : (sizes_for t).originator ≤ 6
  for_high = by_form_high (is_short_form t) refl

  by_form_small : announced_of t.extension < 256 → (x : Bool) → is_short_form t ≡ x → overhead (sizes_for t) ≤ 300
  by_form_small b true f =
      let o = short-high t.short in
      rw f (omega arith)
  by_form_small b false f = rw f (long-small t.header (announced_of t.extension) b)

  pub for_small : announced_of t.extension < 256 → overhead (sizes_for t) ≤ 300
  for_small b = by_form_small b (is_short_form t) refl

  -- ---- admission

  pub admits_unholdable : is_unholdable t ≡ true → number_of Argument ≡ admission_of t
  unfolding admission_of
  admits_unholdable e = simp e

  pub admits_against : is_against_header t ≡ true → number_of Argument ≡ admission_of t
  unfolding admission_of
  admits_against e = simp (e, or-true)

  module _ (u : is_unholdable t ≡ false) (a : is_against_header t ≡ false) where
    pub admits-reserved : (not (is_short_form t) && is_reserved t.header) ≡ true
        → number_of ReservedAddress ≡ admission_of t
    unfolding admission_of
    admits-reserved e = simp (u, a, e)

    module _ (r : (not (is_short_form t) && is_reserved t.header) ≡ false) where
      pub admits_misfit : is_misfitting t ≡ true → number_of Misfit ≡ admission_of t
      unfolding admission_of
      admits_misfit e = simp (u, a, r, e)

      pub admits_all : is_misfitting t ≡ false → 0 ≡ admission_of t
      unfolding admission_of
      admits_all e = simp (u, a, r, e)

  -- a telegram that is admitted can be built
  pub admitted : admission_of t ≡ 0 → Buildable t
  unfolding admission_of
  admitted e =
      let p = cond_no (is_unholdable t || is_against_header t) (refused-number Argument) e in
      let q = cond_no (not (is_short_form t) && is_reserved t.header) (refused-number ReservedAddress) p.1 in
      let r = cond_no (is_misfitting t) (refused-number Misfit) q.1 in
      let w = neither (is_unholdable t) (is_against_header t) p.0 in
      record { holds = w.0; agrees = w.1; allowed = q.0; fits = r.0 }

  -- a short form's Length
  by_form_short : is_unholdable t ≡ false → (x : Bool) → is_short_form t ≡ x → t.short ≤ 6
  unfolding is_unholdable
  by_form_short u true f =
      ltb-false 6 t.short
      (neither (leb (256 ^ (short_sizes t.short).originator) t.originator) (ltb 6 t.short) (rw f at u)).1
  by_form_short u false f = omega (arith, eqb-true t.short 0 (not-false (eqb t.short 0) f))

  pub short-most : is_unholdable t ≡ false → t.short ≤ 6
  short-most u = by_form_short u (is_short_form t) refl

  -- ---- what does not fit

  by_form_long_data : t.short ≤ 6 → 250 < t.len → (x : Bool) → is_short_form t ≡ x → is_misfitting t ≡ true
  unfolding is_misfitting telegram_size
  by_form_long_data s h true f =
      let n : eqb (overhead (short_sizes t.short) + t.len) t.short ≡ false
      = ne_eqb (overhead (short_sizes t.short) + t.len) t.short
      (λ (e : overhead (short_sizes t.short) + t.len ≡ t.short). omega arith) in
      rw (f, n)
  by_form_long_data s h false f =
      let o = originator-low t.header.control in
      let n : ltb 255 (overhead (long_sizes t.header (announced_of t.extension)) + t.len) ≡ true
      = lt-ltb 255 (overhead (long_sizes t.header (announced_of t.extension)) + t.len) (omega arith) in
      simp (f, n, or-true)

  pub long_data : t.short ≤ 6 → 250 < t.len → true ≡ is_misfitting t
  long_data s h = sym (by_form_long_data s h (is_short_form t) refl)

  pub short_misfit : is_short_form t ≡ true → not (eqb (telegram_size t) t.short) ≡ is_misfitting t
  unfolding is_misfitting
  short_misfit f = rw f

  pub long_misfit : is_short_form t ≡ false → (ltb (telegram_size t) 7 || ltb 255 (telegram_size t)) ≡ is_misfitting t
  unfolding is_misfitting
  long_misfit f = rw f
