-- What is read builds the same bytes: each field is a part of the list, and parts one after the other are one part.
use mathlib.Core.Path.{◌≡◌, refl, sym, ap, ◌∙◌}
use mathlib.Core.Bool.{Bool, true, false, cond}
use mathlib.Core.List.{List, [], ◌∷◌, ◌++◌, append-nil}
use Prim.Native.Nat.{ℕ, ◌+◌, ◌-◌, ◌%◌, ◌≤◌, ◌<◌}
use native.Mathlib.Omega.{arith}
use lib.ListN.{length, get_or, take, drop, length-drop}
use lib.Seq.{take_at, take_all, drop-cons}
use borrow.Author.Tests.{leb-false, ne_eqb}
use Rattle.base_lists.specs.Lists.{padded}
use Rattle.base_crc8.specs.Crc8.{crc_of}
use Rattle.base_buffers.specs.Buffer.{part}
use Rattle.block_layout.specs.BigEndian.{be, unbe, unbe_from, Bytes}
use Rattle.base_buffers.proofs.Segments.{part_length, part_join}
use Rattle.block_layout.proofs.BigEndian.{field_back, field_one}
use Rattle.radio_erp2_model.specs.declared.Sizes.{Sizes}
use Rattle.radio_erp2_model.specs.declared.Header.{Header}
use Rattle.radio_erp2_model.specs.Header.{header_fields, extension_of, announced_of, is_type_extended, is_addressed}
use Rattle.radio_erp2_model.specs.Sizes.{long_sizes, overhead, extension_at, subtype_at, originator_at, destination_at, payload_at}
use Rattle.radio_erp2_model.specs.Reading.{max_data, max_optional, length_byte, has_short_length, header_in, sizes_in, fields_of}
use Rattle.radio_erp2_model.specs.Building.{is_short_form, sizes_for, telegram_size, body_of, erp2_bytes}
use Rattle.radio_erp2_model.proofs.Lookups.{short-fits}
use Rattle.radio_erp2_model.proofs.Bits.{header-back}
use Rattle.radio_erp2_model.proofs.Optionals.{bytes_there, extension_bytes_there}
use Rattle.radio_erp2_model.proofs.Sound.{Sound}

part_one : (a : ℕ) (s : List ℕ) → a < length s → get_or s a 0 ∷ [] ≡ part a 1 s
part_one a s h = rw (drop-cons s a 0 h) refl

-- bytes of all fields before the data
abbrev field_bytes : Sizes → ℕ
field_bytes z = z.header + z.extension + z.subtype + z.originator + z.destination

-- fields of any sizes, one after the other, are the list behind its length byte
module _ (s : List ℕ) (b : Bytes s) (z : Sizes) (n : ℕ) (long : length s ≡ 1 + (overhead z + n)) where
  laid : be z.header (unbe (part 1 z.header s))
      ++ be z.extension (unbe (part (extension_at z) z.extension s))
      ++ be z.subtype (unbe (part (subtype_at z) z.subtype s))
      ++ be z.originator (unbe (part (originator_at z) z.originator s))
      ++ be z.destination (unbe (part (destination_at z) z.destination s))
      ++ part (payload_at z) n s
      ++ part (payload_at z + n) z.optional s
      ≡ part 1 (field_bytes z + n + z.optional) s
  laid =
      rw (
        field_back 1 z.header s b (omega arith),
        field_back (extension_at z) z.extension s b (omega arith),
        field_back (subtype_at z) z.subtype s b (omega arith),
        field_back (originator_at z) z.originator s b (omega arith),
        field_back (destination_at z) z.destination s b (omega arith),
        part_join 1 z.header z.extension (extension_at z) s (omega arith),
        part_join 1 (z.header + z.extension) z.subtype (subtype_at z) s (omega arith),
        part_join 1 (z.header + z.extension + z.subtype) z.originator (originator_at z) s (omega arith),
        part_join 1 (z.header + z.extension + z.subtype + z.originator)
            z.destination (destination_at z) s (omega arith),
        part_join 1 (field_bytes z) n (payload_at z) s (omega arith),
      )
      (part_join 1 (field_bytes z + n) z.optional (payload_at z + n) s (omega arith))

-- the sizes of what is read are those of the list
module _ (s : List ℕ) (v : Sound s) where
  sizes_short : has_short_length s ≡ true → sizes_for (fields_of s) ≡ sizes_in s
  unfolding fields_of
  sizes_short h = rw (h, ne_eqb (length_byte s) 0 (λ e. omega (arith, v.some))) refl

  second : has_short_length s ≡ false → (x : Bool) → (header_in s).extended ≡ x
      → cond x (announced_of (extension_of x (unbe (part 2 (cond x 1 0) s)))) 0 ≡ cond x (get_or s 2 0 % 16) 0
  second h true e = rw (field_one 2 s (omega (arith, v.long, leb-false (length_byte s) 6 h))) refl
  second h false e = refl

  -- the sizes of a long form, with another length of optional data
  abbrev with_optional : ℕ → Sizes
  with_optional p =
      let z = long_sizes (header_in s) 0 in
      record {
        header = 1;
        extension = z.extension;
        subtype = z.subtype;
        originator = z.originator;
        destination = z.destination;
        optional = p;
        crc = 1;
      }

  sizes_long : has_short_length s ≡ false → sizes_for (fields_of s) ≡ sizes_in s
  unfolding fields_of
  sizes_long h =
      rw (h, field_one 1 s (omega (arith, v.long, leb-false (length_byte s) 6 h)))
      (ap with_optional (second h (header_in s).extended refl))

  by_form_sizes : (x : Bool) → has_short_length s ≡ x → sizes_for (fields_of s) ≡ sizes_in s
  by_form_sizes true h = sizes_short h
  by_form_sizes false h = sizes_long h

  pub sizes_read : sizes_for (fields_of s) ≡ sizes_in s
  sizes_read = by_form_sizes (has_short_length s) refl

  pub length_read : telegram_size (fields_of s) ≡ length_byte s
  unfolding fields_of telegram_size
  length_read = rw sizes_read (omega (arith, v.fits))

  pub form_short : has_short_length s ≡ true → is_short_form (fields_of s) ≡ true
  unfolding fields_of
  form_short h = rw (h, ne_eqb (length_byte s) 0 (λ e. omega (arith, v.some))) refl

  pub form_long : has_short_length s ≡ false → is_short_form (fields_of s) ≡ false
  unfolding fields_of
  form_long h = rw h refl

  -- the header that is read says which optional fields have bytes
  abbrev read_header : Header
  read_header = header_fields (unbe (part 1 (sizes_in s).header s))

  record Sized : Type 0 where
    extension : (sizes_in s).extension ≡ cond read_header.extended 1 0
    subtype : (sizes_in s).subtype ≡ cond (is_type_extended read_header) 1 0
    destination : (sizes_in s).destination ≡ cond (is_addressed read_header) 4 0

  by_form_sized : (x : Bool) → has_short_length s ≡ x → Sized
  unfolding unbe unbe_from
  by_form_sized true h = record { extension = rw h refl; subtype = rw h refl; destination = rw h refl }
  by_form_sized false h =
      let one = field_one 1 s (omega (arith, v.long, leb-false (length_byte s) 6 h)) in
      record { extension = rw (h, one) refl; subtype = rw (h, one) refl; destination = rw (h, one) refl }

  sized : Sized
  sized = by_form_sized (has_short_length s) refl

  -- a payload or optional data, without its zeros again
  unpadded : (m a n : ℕ) → a + n ≤ length s → take n (padded m (part a n s)) ≡ part a n s
  unpadded m a n h = take_at (part a n s) _ n (part_length a n s h)

  module _ (b : Bytes s) where
    abbrev rest : ℕ
    rest = length_byte s - overhead (sizes_in s)

    -- bytes in front of the CRC
    abbrev in_front : ℕ
    in_front = field_bytes (sizes_in s) + rest + (sizes_in s).optional

    body_read : body_of (fields_of s) ≡ part 1 in_front s
    unfolding body_of fields_of
    body_read =
        rw (
          sizes_read,
          header-back,
          extension_bytes_there _ (sizes_in s).extension _ sized.extension,
          bytes_there _ (sizes_in s).subtype 1 _ sized.subtype,
          bytes_there _ (sizes_in s).destination 4 _ sized.destination,
          unpadded max_data (payload_at (sizes_in s)) rest (omega (arith, v.fits, v.long)),
          unpadded max_optional (payload_at (sizes_in s) + rest) (sizes_in s).optional (omega (arith, v.fits, v.long)),
        )
        (laid s b (sizes_in s) rest (omega (arith, v.fits, v.long)))

    -- the list is its length byte and what stands behind it
    whole : length_byte s ∷ part 1 (length_byte s) s ≡ s
    whole =
        let behind = take_all (length_byte s) (drop 1 s) (rw length-drop (omega (arith, v.long))) in
        sym (drop-cons s 0 0 (omega (arith, v.long)) ∙ ap (λ (l : List ℕ). length_byte s ∷ l) (sym behind))

    crc-short : has_short_length s ≡ true → erp2_bytes (fields_of s) ≡ s
    unfolding erp2_bytes
    crc-short h =
        let n : in_front ≡ length_byte s
        = rw h (omega (arith, short-fits (length_byte s))) in
        rw (length_read, body_read, n, form_short h)
        (ap (λ (l : List ℕ). length_byte s ∷ l) (append-nil (part 1 (length_byte s) s)) ∙ whole)

    crc-long : has_short_length s ≡ false → erp2_bytes (fields_of s) ≡ s
    unfolding erp2_bytes
    crc-long h =
        let low = leb-false (length_byte s) 6 h in
        let n : in_front ≡ length_byte s - 1
        = rw h (omega (arith, rw h at v.fits)) in
        let last : crc_of (part 1 (length_byte s - 1) s) ∷ [] ≡ part (length_byte s) 1 s
        = ap (λ (c : ℕ). c ∷ []) (sym (v.intact h)) ∙ part_one (length_byte s) s (omega (arith, v.long)) in
        let m : length_byte s - 1 + 1 ≡ length_byte s = omega arith in
        rw (
          length_read,
          body_read,
          n,
          form_long h,
          last,
          part_join 1 (length_byte s - 1) 1 (length_byte s) s (omega arith),
          m,
        )
        whole

    by_form_bytes : (x : Bool) → has_short_length s ≡ x → erp2_bytes (fields_of s) ≡ s
    by_form_bytes true h = crc-short h
    by_form_bytes false h = crc-long h

    -- what is read builds the same bytes
    pub bytes_read : erp2_bytes (fields_of s) ≡ s
    bytes_read = by_form_bytes (has_short_length s) refl
