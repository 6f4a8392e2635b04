-- The sizes of a list that fits are small, and its fields fill it.
use mathlib.Core.Path.{◌≡◌, refl}
use mathlib.Core.Bool.{Bool, true, false}
use mathlib.Core.List.{List}
use Prim.Native.Nat.{ℕ, ◌-◌, ◌%◌, ◌≤◌, ◌<◌}
use native.Mathlib.Omega.{arith}
use borrow.Author.Tests.{leb-true}
use lib.ListN.{get_or}
use Rattle.radio_erp2_model.specs.declared.Header.{Header}
use Rattle.radio_erp2_model.specs.Header.{is_type_extended, is_addressed}
use Rattle.radio_erp2_model.specs.Sizes.{short_sizes, long_sizes, overhead}
use Rattle.radio_erp2_model.specs.Reading.{length_byte, has_short_length, header_in, sizes_in}
use Rattle.radio_erp2_model.specs.Bounds.{Fitting, Placed}
use Rattle.radio_erp2_model.proofs.Lookups.{short-high, originator-low, originator-high, flag_le}

-- no sizes of a long form are large
pub long-small : (h : Header) (announced : ℕ) → announced < 256 → overhead (long_sizes h announced) ≤ 300
long-small h announced b =
    let e = flag_le h.extended 1 in
    let x = flag_le (is_type_extended h) 1 in
    let o = originator-high h.control in
    let d = flag_le (is_addressed h) 4 in
    let p = flag_le h.extended announced in
    omega arith

module _ (s : List ℕ) (v : Fitting s) (b : length_byte s < 256) where
  short-placed : has_short_length s ≡ true → Placed s (sizes_in s) (length_byte s - overhead (sizes_in s))
  short-placed h =
      let l = leb-true (length_byte s) 6 h in
      let o = short-high (length_byte s) in
      let f : overhead (short_sizes (length_byte s)) ≤ length_byte s = rw h at v.fits in
      rw h (record {
        long = omega (arith, v.long);
        header = omega arith;
        extension = omega arith;
        subtype = omega arith;
        originator = omega arith;
        destination = omega arith;
        optional = omega arith;
        payload = omega arith;
      })

  long-placed : has_short_length s ≡ false → Placed s (sizes_in s) (length_byte s - overhead (sizes_in s))
  long-placed h =
      let x = header_in s in
      let f : overhead (long_sizes x (get_or s 2 0 % 16)) ≤ length_byte s = rw h at v.fits in
      let e = flag_le x.extended 1 in
      let u = flag_le (is_type_extended x) 1 in
      let o = originator-high x.control in
      let q = originator-low x.control in
      let d = flag_le (is_addressed x) 4 in
      let p = flag_le x.extended (get_or s 2 0 % 16) in
      rw h (record {
        long = omega (arith, v.long);
        header = omega arith;
        extension = e;
        subtype = u;
        originator = omega (arith, o);
        destination = d;
        optional = omega (arith, p);
        payload = omega (arith, q);
      })

  by_form : (x : Bool) → has_short_length s ≡ x → Placed s (sizes_in s) (length_byte s - overhead (sizes_in s))
  by_form true h = short-placed h
  by_form false h = long-placed h

  pub placed : Placed s (sizes_in s) (length_byte s - overhead (sizes_in s))
  placed = by_form (has_short_length s) refl
