-- What is read can be built: no test of building refuses it.
use mathlib.Core.Path.{◌≡◌, refl, ap}
use mathlib.Core.Bool.{Bool, true, false, cond, not, ◌&&◌, ◌||◌}
use mathlib.Core.List.{List}
use Prim.Native.Nat.{ℕ, ◌+◌, ◌/◌, ◌%◌, ◌^◌, ◌≤◌, ◌<◌}
use native.Mathlib.Omega.{arith}
use lib.Dec.{leb, ltb}
use lib.ListN.{length, get_or}
use borrow.Author.Tests.{eq-eqb, lt-leb, le-ltb, leb-true, leb-false}
use Rattle.base_buffers.specs.Buffer.{part}
use Rattle.block_layout.specs.BigEndian.{unbe, unbe_from, Bytes}
use Rattle.block_layout.proofs.BigEndian.{field_lt, field_one}
use Rattle.radio_telegram.specs.Output.{written}
use Rattle.radio_erp2_model.specs.Header.{header_fields, extension_of, is_reserved, is_type_extended, is_addressed}
use Rattle.radio_erp2_model.specs.Sizes.{extension_at, subtype_at, originator_at, destination_at}
use Rattle.radio_erp2_model.specs.Reading.{length_byte, has_short_length, header_in, sizes_in, fields_of}
use Rattle.radio_erp2_model.specs.Building.{is_short_form, sizes_for, is_extension_over, is_unholdable, is_against_header, is_misfitting, build_of}
use Rattle.radio_erp2_model.proofs.Optionals.{agrees_there, extension_agrees, extension_holds}
use Rattle.radio_erp2_model.proofs.Sound.{Sound}
use Rattle.radio_erp2_model.proofs.ReadBack.{form_short, form_long, sizes_read, length_read, bytes_read}

or-false : {a b : Bool} → a ≡ false → b ≡ false → (a || b) ≡ false
or-false p q = rw (p, q) refl

-- two bytes, the first with an address control that is not reserved, hold what is read from them
bits_hold : (b e : ℕ) (x : Bool) → b / 32 < 4 → e < 256
    → (ltb 7 (b / 32) || ltb 15 (b % 16) || is_extension_over (extension_of x e)) ≡ false
bits_hold b e x h k =
    let p : ltb 7 (b / 32) ≡ false = le-ltb 7 (b / 32) (omega arith) in
    let q : ltb 15 (b % 16) ≡ false = le-ltb 15 (b % 16) (omega arith) in
    rw (p, q, extension_holds x e k)

module _ (s : List ℕ) (v : Sound s) (b : Bytes s) where
  originator-holds : leb (256 ^ (sizes_for (fields_of s)).originator) (fields_of s).originator ≡ false
  unfolding fields_of
  originator-holds =
      let low = field_lt (originator_at (sizes_in s)) (sizes_in s).originator s b in
      rw (sizes_read s v) (lt-leb _ _ low)

  short-holds : has_short_length s ≡ true → is_unholdable (fields_of s) ≡ false
  unfolding is_unholdable fields_of
  short-holds h = rw (originator-holds, form_short s v h, h) (le-ltb 6 (length_byte s) (leb-true (length_byte s) 6 h))

  short-agrees : has_short_length s ≡ true → is_against_header (fields_of s) ≡ false
  unfolding is_against_header fields_of unbe unbe_from
  short-agrees h = rw (form_short s v h, h) refl

  -- the byte of an extended header, 0 where there is none
  second_lt : has_short_length s ≡ false → (x : Bool) → (header_in s).extended ≡ x → unbe (part 2 (cond x 1 0) s) < 256
  unfolding unbe unbe_from
  second_lt h true e = field_lt 2 1 s b
  second_lt h false e = omega arith

  long-holds : has_short_length s ≡ false → is_unholdable (fields_of s) ≡ false
  unfolding is_unholdable fields_of
  long-holds h =
      let low = leb-false (length_byte s) 6 h in
      let e = second_lt h (header_in s).extended refl in
      rw (originator-holds, form_long s v h, h, field_one 1 s (omega (arith, v.long)))
      (bits_hold (get_or s 1 0) (unbe (part 2 (cond (header_in s).extended 1 0) s))
      (header_in s).extended (v.allowed h) e)

  long-agrees : has_short_length s ≡ false → is_against_header (fields_of s) ≡ false
  unfolding is_against_header fields_of
  long-agrees h =
      let z = sizes_in s in
      let x = header_fields (unbe (part 1 z.header s)) in
      let e = unbe (part (extension_at z) z.extension s) in
      rw (form_long s v h)
      (or-false
      (or-false (extension_agrees x.extended e)
      (agrees_there (is_type_extended x) (unbe (part (subtype_at z) z.subtype s))))
      (agrees_there (is_addressed x) (unbe (part (destination_at z) z.destination s))))

  named : has_short_length s ≡ true → (fields_of s).short ≡ length_byte s
  unfolding fields_of
  named h = rw h refl

  fits_read : (x : Bool) → has_short_length s ≡ x → is_misfitting (fields_of s) ≡ false
  unfolding is_misfitting
  fits_read true h = rw (length_read s v, form_short s v h, named h, eq-eqb (length_byte s) (length_byte s) refl) refl
  fits_read false h =
      let low = leb-false (length_byte s) 6 h in
      rw (
        length_read s v,
        form_long s v h,
        le-ltb (length_byte s) 7 (omega arith),
        le-ltb 255 (length_byte s) (omega (arith, b 0)),
      )
      refl

  allowed_read : (x : Bool) → has_short_length s ≡ x
      → (not (is_short_form (fields_of s)) && is_reserved (fields_of s).header) ≡ false
  unfolding fields_of
  allowed_read true h = rw (form_short s v h) refl
  allowed_read false h =
      let low = leb-false (length_byte s) 6 h in
      rw (form_long s v h, h, field_one 1 s (omega (arith, v.long))) (lt-leb 4 (header_in s).control (v.allowed h))

  holds_read : (x : Bool) → has_short_length s ≡ x
      → (is_unholdable (fields_of s) || is_against_header (fields_of s)) ≡ false
  holds_read true h = or-false (short-holds h) (short-agrees h)
  holds_read false h = or-false (long-holds h) (long-agrees h)

  -- what is read builds the same bytes, in any output that is as long
  pub build_fields : (out : List ℕ) → length s ≤ length out → build_of (fields_of s) out ≡ written s out
  unfolding build_of
  build_fields out h =
      let room = le-ltb (length out) (1 + length_byte s) (omega (arith, v.long)) in
      rw (
        holds_read (has_short_length s) refl,
        allowed_read (has_short_length s) refl,
        fits_read (has_short_length s) refl,
        length_read s v,
        room,
      )
      (ap (λ (xs : List ℕ). written xs out) (bytes_read s v b))
