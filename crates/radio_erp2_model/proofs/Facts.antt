-- What a telegram says that can be built: the tests as inequalities, for each form, and how long its parts are.
use mathlib.Core.Path.{◌≡◌, refl}
use mathlib.Core.Bool.{Bool, true, false, cond, not, ◌&&◌, ◌||◌, true≢false}
use mathlib.Core.List.{List}
use Prim.Native.Nat.{ℕ, ◌+◌, ◌^◌, ◌≤◌, ◌<◌}
use native.Mathlib.Omega.{arith}
use lib.Dec.{eqb, leb, ltb}
use lib.ListN.{length}
use lib.Seq.{length-take-le}
use borrow.Author.Tests.{eqb-true, eqb-false, leb-false, ltb-false, not-true, not-false}
use Rattle.std.specs.Prelude.{None, is_some}
use Rattle.base_lists.proofs.Choice.{neither}
use Rattle.base_refusal.specs.declared.Refusal.TheVariants.{Argument, ReservedAddress, Misfit, ShortOutput}
use Rattle.base_refusal.proofs.Numbers.{refused-number}
use Rattle.radio_telegram.proofs.Frames.{unrefused}
use Rattle.radio_telegram.specs.Output.{written}
use Rattle.radio_erp2_model.specs.declared.Telegram.{Telegram}
use Rattle.radio_erp2_model.specs.Header.{is_reserved, is_type_extended, is_addressed, hops_of, announced_of}
use Rattle.radio_erp2_model.specs.Sizes.{short_sizes, long_sizes, overhead}
use Rattle.radio_erp2_model.specs.Building.{is_short_form, sizes_for, telegram_size, differ, is_extension_over, is_unholdable, is_against_header, is_misfitting, data_of, optional_of, seal_of, erp2_bytes, build_of}
use Rattle.radio_erp2_model.specs.Bounds.{Buildable}
use Rattle.radio_erp2_model.specs.Claims.{Shaped}
use Rattle.radio_erp2_model.proofs.Lookups.{originator-low}
use Rattle.radio_erp2_model.proofs.Optionals.{is_absent, extension_bits}

pub build_facts : (t : Telegram) (out : List ℕ) → (build_of t out).number ≡ 0
    → Buildable t × (build_of t out ≡ written (erp2_bytes t) out)
unfolding build_of
build_facts t out e =
    let p = unrefused (is_unholdable t || is_against_header t) _ out _ (refused-number Argument) e in
    let q = unrefused (not (is_short_form t) && is_reserved t.header) _ out _ (refused-number ReservedAddress) p.1 in
    let r = unrefused (is_misfitting t) _ out _ (refused-number Misfit) q.1 in
    let u =
    unrefused (ltb (length out) (1 + telegram_size t)) _ out
    (written (erp2_bytes t) out) (refused-number ShortOutput) r.1 in
    let w = neither (is_unholdable t) (is_against_header t) p.0 in
    (record { holds = w.0; agrees = w.1; allowed = q.0; fits = r.0 }, rw (p.0, q.0, r.0, u.0))

-- ---- the same as numbers

same_flags : (a b : Bool) → differ a b ≡ false → a ≡ b
same_flags true true e = refl
same_flags true false e = absurd (true≢false e)
same_flags false true e = absurd (true≢false e)
same_flags false false e = refl

pub record Short (t : Telegram) : Type 0 where
  pub most : t.short ≤ 6
  pub some : 0 < t.short
  pub originator : t.originator < 256 ^ (short_sizes t.short).originator
  pub size : telegram_size t ≡ t.short
  pub extension : t.extension ≡ None
  pub subtype : t.subtype ≡ None
  pub destination : t.destination ≡ None

pub record Long (t : Telegram) : Type 0 where
  pub none : t.short ≡ 0
  pub control : t.header.control < 4
  pub kind : t.header.kind < 16
  pub originator : t.originator < 256 ^ (long_sizes t.header 0).originator
  pub hops : hops_of t.extension < 16
  pub announced : announced_of t.extension < 16
  pub low : 7 ≤ telegram_size t
  pub high : telegram_size t ≤ 255
  pub extension : is_some t.extension ≡ t.header.extended
  pub subtype : is_some t.subtype ≡ is_type_extended t.header
  pub destination : is_some t.destination ≡ is_addressed t.header

module _ (t : Telegram) (v : Buildable t) where
  pub short_facts : is_short_form t ≡ true → Short t
  unfolding is_unholdable is_against_header is_misfitting
  short_facts f =
      let h =
      neither (leb (256 ^ (short_sizes t.short).originator) t.originator)
      (ltb 6 t.short) (rw f at v.holds) in
      let before-destination = differ (is_some t.extension) false || differ (is_some t.subtype) false in
      let g = neither before-destination (differ (is_some t.destination) false) (rw f at v.agrees) in
      let g2 = neither (differ (is_some t.extension) false) (differ (is_some t.subtype) false) g.0 in
      record {
        most = ltb-false 6 t.short h.1;
        some = omega (arith, eqb-false t.short 0 (not-true (eqb t.short 0) f));
        originator = leb-false _ _ h.0;
        size = eqb-true _ _ (not-false _ (rw f at v.fits));
        extension = is_absent t.extension (same_flags _ false g2.0);
        subtype = is_absent t.subtype (same_flags _ false g2.1);
        destination = is_absent t.destination (same_flags _ false g.1);
      }

  pub long_facts : is_short_form t ≡ false → Long t
  unfolding is_unholdable is_against_header is_misfitting
  long_facts f =
      let header-over = ltb 7 t.header.control || ltb 15 t.header.kind in
      let extension-over = is_extension_over t.extension in
      let h =
      neither (leb (256 ^ (long_sizes t.header 0).originator) t.originator)
      (header-over || extension-over) (rw f at v.holds) in
      let h1 = neither header-over extension-over h.1 in
      let h2 = neither (ltb 7 t.header.control) (ltb 15 t.header.kind) h1.0 in
      let before-destination =
      differ (is_some t.extension) t.header.extended
      || differ (is_some t.subtype) (is_type_extended t.header) in
      let g =
      neither before-destination
      (differ (is_some t.destination) (is_addressed t.header)) (rw f at v.agrees) in
      let g2 =
      neither (differ (is_some t.extension) t.header.extended)
      (differ (is_some t.subtype) (is_type_extended t.header)) g.0 in
      let k = neither (ltb (telegram_size t) 7) (ltb 255 (telegram_size t)) (rw f at v.fits) in
      let bits = extension_bits t.extension h1.1 in
      record {
        none = eqb-true t.short 0 (not-false (eqb t.short 0) f);
        control = leb-false 4 t.header.control (rw f at v.allowed);
        kind = omega (arith, ltb-false 15 t.header.kind h2.1);
        originator = leb-false _ _ h.0;
        hops = bits.0;
        announced = bits.1;
        low = ltb-false (telegram_size t) 7 k.0;
        high = ltb-false 255 (telegram_size t) k.1;
        extension = same_flags _ _ g2.0;
        subtype = same_flags _ _ g2.1;
        destination = same_flags _ _ g.1;
      }

-- ---- how long the parts of a telegram are

pub record Lengths (t : Telegram) : Type 0 where
  pub payload : length (data_of t) ≡ t.len
  pub optional : length (optional_of t) ≡ (sizes_for t).optional
  pub seal : length (seal_of t) ≡ (sizes_for t).crc

pub optional-high : (t : Telegram) → Long t → (x : Bool) → cond x (announced_of t.extension) 0 ≤ 15
optional-high t v true = omega (arith, v.announced)
optional-high t v false = omega arith

module _ (t : Telegram) (shape : Shaped t) where
  pub short_lengths : is_short_form t ≡ true → Short t → Lengths t
  unfolding telegram_size
  short_lengths f v =
      let n : overhead (short_sizes t.short) + t.len ≡ t.short = rw f at v.size in
      record {
        payload = length-take-le t.len t.payload (omega (arith, shape.payload, v.most));
        optional = rw f refl;
        seal = rw f refl;
      }

  pub long-lengths : is_short_form t ≡ false → Long t → Lengths t
  unfolding telegram_size
  long-lengths f v =
      let n : overhead (long_sizes t.header (announced_of t.extension)) + t.len ≤ 255 = rw f at v.high in
      let o = originator-low t.header.control in
      let p : cond t.header.extended (announced_of t.extension) 0 ≤ 15 = optional-high t v t.header.extended in
      record {
        payload = length-take-le t.len t.payload (omega (arith, shape.payload));
        optional = rw f (length-take-le _ t.optional (omega (arith, shape.optional)));
        seal = rw f refl;
      }
