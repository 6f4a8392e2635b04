-- What is built reads back: for each form, its check passes and its fields are those of the telegram.
use mathlib.Core.Path.{◌≡◌, refl, sym, ap, ◌∙◌}
use mathlib.Core.Bool.{Bool, true, false, cond}
use mathlib.Core.List.{List, [], ◌∷◌, ◌++◌}
use Prim.Native.Nat.{ℕ, ◌+◌, ◌-◌, ◌%◌, ◌≤◌}
use native.Mathlib.Omega.{arith}
use lib.Dec.{ltb}
use lib.ListN.{length, get_or, length-append}
use lib.Seq.{take_at, get_or_at}
use borrow.Author.Tests.{eq-eqb, ne_eqb, le-leb, lt-leb, le-ltb}
use Rattle.std.specs.Prelude.{Option, Some, None, is_some, unwrap_or}
use Rattle.base_lists.specs.Lists.{padded}
use Rattle.base_refusal.specs.Number.{number_of}
use Rattle.base_refusal.specs.declared.Refusal.TheVariants.{Misfit}
use Rattle.base_crc8.specs.Crc8.{crc_of}
use Rattle.base_buffers.specs.Buffer.{part}
use Rattle.block_layout.specs.BigEndian.{be, unbe, unbe_from}
use Rattle.block_layout.proofs.BigEndian.{be-length, unbe-be, field_one}
use Rattle.radio_erp2_model.specs.declared.Header.{Header}
use Rattle.radio_erp2_model.specs.declared.Sizes.{Sizes}
use Rattle.radio_erp2_model.specs.declared.Extension.{Extension}
use Rattle.radio_erp2_model.specs.declared.Telegram.{Telegram}
use Rattle.radio_erp2_model.specs.Header.{header_fields, header_byte, is_reserved, is_type_extended, is_addressed, extension_of, extension_byte, announced_of}
use Rattle.radio_erp2_model.specs.Sizes.{short_sizes, long_sizes, overhead, extension_at}
use Rattle.radio_erp2_model.specs.Reading.{max_data, max_optional, length_byte, has_short_length, header_in, sizes_in, fields_of, check_of, no_header}
use Rattle.radio_erp2_model.specs.Building.{is_short_form, sizes_for, telegram_size, data_of, optional_of, body_of, seal_of, erp2_bytes}
use Rattle.radio_erp2_model.specs.Bounds.{Buildable}
use Rattle.radio_erp2_model.specs.Claims.{Shaped, normal_of}
use Rattle.radio_erp2_model.proofs.Bits.{header_forth, header_lt}
use Rattle.radio_erp2_model.proofs.Optionals.{is_absent, some_again, extension_lt, announced-back, extension-forth}
use Rattle.radio_erp2_model.proofs.Facts.{Short, Long, Lengths, short_facts, long_facts, short_lengths, long-lengths}
use Rattle.radio_erp2_model.proofs.Segments.{header_field, extension_field, subtype_field, originator_field, destination_field, part-header, part-extension, part-subtype, part-originator, part-destination, part-payload, part-optional, built_length}

-- the sizes of a long form, with another length of optional data
abbrev with_optional : Header → ℕ → Sizes
with_optional h p = record {
  header = 1;
  extension = (long_sizes h 0).extension;
  subtype = (long_sizes h 0).subtype;
  originator = (long_sizes h 0).originator;
  destination = (long_sizes h 0).destination;
  optional = p;
  crc = 1;
}

none : (n : ℕ) → unbe (be 0 n) ≡ 0
unfolding be unbe unbe_from
none n = refl

length_built : (t : Telegram) → length_byte (erp2_bytes t) ≡ telegram_size t
unfolding erp2_bytes
length_built t = refl

rest_built : (t : Telegram) → telegram_size t - overhead (sizes_for t) ≡ t.len
unfolding telegram_size
rest_built t = omega arith

module _ (t : Telegram) (shape : Shaped t) (f : is_short_form t ≡ true) (v : Short t) (l : Lengths t) where
  short_is : has_short_length (erp2_bytes t) ≡ true
  short_is = rw (length_built t) (le-leb (telegram_size t) 6 (omega (arith, v.size, v.most)))

  short_sizes_lem : sizes_in (erp2_bytes t) ≡ sizes_for t
  short_sizes_lem = rw (short_is, length_built t, v.size, f) refl

  short_checks : check_of (erp2_bytes t) ≡ 0
  unfolding check_of
  short_checks =
      rw (
        length_built t,
        built_length t l,
        ne_eqb (telegram_size t) 0 (λ e. omega (arith, v.size, v.some)),
        eq-eqb (1 + telegram_size t) (1 + telegram_size t) refl,
        le-leb (telegram_size t) 6 (omega (arith, v.size, v.most)),
      )

  short-fields : fields_of (erp2_bytes t) ≡ normal_of t
  unfolding fields_of
  short-fields =
      let a : unbe (header_field t) ≡ 0 = rw f (none _) in
      let d : unbe (originator_field t) ≡ t.originator =
      rw f (unbe-be (short_sizes t.short).originator t.originator v.originator) in
      rw (
        short_sizes_lem,
        length_built t,
        rest_built t,
        part-header t,
        part-extension t,
        part-subtype t,
        part-originator t,
        part-destination t,
        part-payload t l,
        part-optional t l,
        a,
        d,
        le-leb (telegram_size t) 6 (omega (arith, v.size, v.most)),
        v.size,
        f,
        v.extension,
        v.subtype,
        v.destination,
      )

module _ (t : Telegram) (shape : Shaped t) (f : is_short_form t ≡ false) (v : Long t) (l : Lengths t) where
  long_is : has_short_length (erp2_bytes t) ≡ false
  long_is = rw (length_built t) (lt-leb (telegram_size t) 6 (omega (arith, v.low)))

  header_read : unbe (header_field t) ≡ header_byte t.header
  header_read = rw f (unbe-be 1 (header_byte t.header) (header_lt t.header (omega (arith, v.control)) v.kind))

  one_header : (sizes_for t).header ≡ 1
  one_header = rw f refl

  first_byte : get_or (erp2_bytes t) 1 0 ≡ header_byte t.header
  first_byte =
      sym (field_one 1 (erp2_bytes t) (rw (built_length t l) (omega (arith, v.low))))
      ∙ ap unbe (ap (λ (w : ℕ). part 1 w (erp2_bytes t)) (sym one_header) ∙ part-header t) ∙ header_read

  header_is : header_in (erp2_bytes t) ≡ t.header
  header_is = rw first_byte (header_forth t.header (omega (arith, v.control)) v.kind)

  -- where there is an extended header
  module _ (e : t.header.extended ≡ true) where
    there : is_some t.extension ≡ true
    there = v.extension ∙ e

    one_extension : (sizes_for t).extension ≡ 1
    one_extension = rw (f, e) refl

    extension_read : unbe (extension_field t) ≡ extension_byte t.extension
    extension_read =
        rw one_extension (unbe-be 1 (extension_byte t.extension) (extension_lt t.extension v.hops v.announced))

    second-byte : get_or (erp2_bytes t) 2 0 ≡ extension_byte t.extension
    second-byte =
        let two : extension_at (sizes_for t) ≡ 2 = rw one_header refl in
        sym (field_one 2 (erp2_bytes t) (rw (built_length t l) (omega (arith, v.low))))
        ∙ ap unbe (ap (λ (w : ℕ). part 2 w (erp2_bytes t)) (sym one_extension)
        ∙ ap (λ (a : ℕ). part a (sizes_for t).extension (erp2_bytes t)) (sym two) ∙ part-extension t)
        ∙ extension_read

  optional_is : (x : Bool) → t.header.extended ≡ x
      → cond x (get_or (erp2_bytes t) 2 0 % 16) 0 ≡ cond x (announced_of t.extension) 0
  optional_is true e = rw (second-byte e) (announced-back t.extension v.announced)
  optional_is false e = refl

  announced_sizes : long_sizes (header_in (erp2_bytes t)) (get_or (erp2_bytes t) 2 0 % 16) ≡ sizes_for t
  announced_sizes =
      rw f
      (ap (λ (h : Header). long_sizes h (get_or (erp2_bytes t) 2 0 % 16)) header_is
      ∙ ap (with_optional t.header) (optional_is t.header.extended refl))

  long_sizes_lem : sizes_in (erp2_bytes t) ≡ sizes_for t
  long_sizes_lem = rw long_is announced_sizes

  -- each optional field, there or not
  extension_is : (x : Bool) → t.header.extended ≡ x
      → extension_of t.header.extended (unbe (extension_field t)) ≡ t.extension
  extension_is true e =
      ap (λ (b : Bool). extension_of b (unbe (extension_field t))) e
      ∙ ap (extension_of true) (extension_read e)
      ∙ extension-forth t.extension (there e) v.announced
  extension_is false e =
      ap (λ (b : Bool). extension_of b (unbe (extension_field t))) e
      ∙ sym (is_absent t.extension (v.extension ∙ e))

  abbrev read_number : Bool → ℕ → Option ℕ
  read_number present n = cond present (Some n) None

  subtype_is : (x : Bool) → is_type_extended t.header ≡ x
      → read_number (is_type_extended t.header) (unbe (subtype_field t)) ≡ t.subtype
  subtype_is true e =
      let q : unbe (subtype_field t) ≡ unwrap_or t.subtype 0 =
      rw (f, e) (unbe-be 1 (unwrap_or t.subtype 0) shape.value) in
      ap (λ (b : Bool). read_number b (unbe (subtype_field t))) e
      ∙ ap (read_number true) q
      ∙ some_again t.subtype (v.subtype ∙ e)
  subtype_is false e =
      ap (λ (b : Bool). read_number b (unbe (subtype_field t))) e
      ∙ sym (is_absent t.subtype (v.subtype ∙ e))

  destination_is : (x : Bool) → is_addressed t.header ≡ x
      → read_number (is_addressed t.header) (unbe (destination_field t)) ≡ t.destination
  destination_is true e =
      let q : unbe (destination_field t) ≡ unwrap_or t.destination 0 =
      rw (f, e) (unbe-be 4 (unwrap_or t.destination 0) shape.id) in
      ap (λ (b : Bool). read_number b (unbe (destination_field t))) e
      ∙ ap (read_number true) q
      ∙ some_again t.destination (v.destination ∙ e)
  destination_is false e =
      ap (λ (b : Bool). read_number b (unbe (destination_field t))) e
      ∙ sym (is_absent t.destination (v.destination ∙ e))

  -- the telegram with these fields
  abbrev made : ℕ → Header → Option Extension → Option ℕ → Option ℕ → Telegram
  made n h e u d = record {
    short = n;
    header = h;
    extension = e;
    subtype = u;
    originator = t.originator;
    destination = d;
    payload = padded max_data (data_of t);
    len = t.len;
    optional = padded max_optional (optional_of t);
  }

  long_normal : normal_of t ≡ made 0 t.header t.extension t.subtype t.destination
  long_normal =
      ap (λ (n : ℕ). made n (cond (is_short_form t) no_header t.header) t.extension t.subtype t.destination)
      v.none
      ∙ ap (λ (b : Bool). made 0 (cond b no_header t.header) t.extension t.subtype t.destination) f

  abbrev read_subtype : Header → Option ℕ
  read_subtype h = read_number (is_type_extended h) (unbe (subtype_field t))

  abbrev read_destination : Header → Option ℕ
  read_destination h = read_number (is_addressed h) (unbe (destination_field t))

  -- the same, with what a header says of its optional fields
  abbrev read_as : Header → Telegram
  read_as h =
      made 0 h (extension_of h.extended (unbe (extension_field t)))
      (read_subtype h)
      (read_destination h)

  header_built : header_fields (unbe (header_field t)) ≡ t.header
  header_built = ap header_fields header_read ∙ header_forth t.header (omega (arith, v.control)) v.kind

  long-fields : fields_of (erp2_bytes t) ≡ normal_of t
  unfolding fields_of
  long-fields =
      let d : unbe (originator_field t) ≡ t.originator =
      rw f (unbe-be (long_sizes t.header 0).originator t.originator v.originator) in
      rw (
        long_sizes_lem,
        length_built t,
        rest_built t,
        part-header t,
        part-extension t,
        part-subtype t,
        part-originator t,
        part-destination t,
        part-payload t l,
        part-optional t l,
        d,
        lt-leb (telegram_size t) 6 (omega (arith, v.low)),
      )
      (ap read_as header_built
      ∙ ap (λ (e : Option Extension). made 0 t.header e (read_subtype t.header) (read_destination t.header))
      (extension_is t.header.extended refl)
      ∙ ap (λ (u : Option ℕ). made 0 t.header t.extension u (read_destination t.header))
      (subtype_is (is_type_extended t.header) refl)
      ∙ ap (λ (w : Option ℕ). made 0 t.header t.extension t.subtype w)
      (destination_is (is_addressed t.header) refl)
      ∙ sym long_normal)

  body_length_lem : length (body_of t) + 1 ≡ telegram_size t
  unfolding body_of telegram_size
  body_length_lem = simp (length-append, be-length, l.payload, l.optional) (rw f (omega arith))

  behind : part 1 (telegram_size t - 1) (erp2_bytes t) ≡ body_of t
  unfolding erp2_bytes
  behind = take_at (body_of t) (seal_of t) (telegram_size t - 1) (omega (arith, body_length_lem))

  last_byte : get_or (erp2_bytes t) (telegram_size t) 0 ≡ crc_of (body_of t)
  unfolding erp2_bytes
  last_byte =
      let s : seal_of t ≡ crc_of (body_of t) ∷ [] = rw f in
      ap (λ (x : List ℕ). get_or (telegram_size t ∷ (body_of t ++ x)) (telegram_size t) 0) s
      ∙ get_or_at (telegram_size t ∷ body_of t) (crc_of (body_of t)) [] 0 (telegram_size t)
      (omega (arith, body_length_lem))

  room : overhead (sizes_for t) ≤ telegram_size t
  unfolding telegram_size
  room = omega arith

  long_checks : check_of (erp2_bytes t) ≡ 0
  unfolding check_of
  long_checks =
      let open-address : is_reserved (header_in (erp2_bytes t)) ≡ false =
      ap is_reserved header_is ∙ lt-leb 4 t.header.control v.control in
      let fit : ltb (telegram_size t) (overhead
      (long_sizes (header_in (erp2_bytes t)) (get_or (erp2_bytes t) 2 0 % 16)))
      ≡ false =
      ap (λ (y : Sizes). ltb (telegram_size t) (overhead y)) announced_sizes
      ∙ le-ltb (telegram_size t) (overhead (sizes_for t)) room in
      rw (
        length_built t,
        built_length t l,
        ne_eqb (telegram_size t) 0 (λ e. omega (arith, v.low)),
        eq-eqb (1 + telegram_size t) (1 + telegram_size t) refl,
        lt-leb (telegram_size t) 6 (omega (arith, v.low)),
        last_byte,
        behind,
        eq-eqb (crc_of (body_of t)) (crc_of (body_of t)) refl,
        open-address,
      )
      (ap (λ (b : Bool). cond b (number_of Misfit) 0) fit)

-- ---- both forms

pub record Reads (t : Telegram) : Type 0 where
  pub checks : check_of (erp2_bytes t) ≡ 0
  pub fields : fields_of (erp2_bytes t) ≡ normal_of t

pub built_reads : (t : Telegram) → Shaped t → Buildable t → (x : Bool) → is_short_form t ≡ x → Reads t
built_reads t shape b true f =
    let v = short_facts t b f in
    let l = short_lengths t shape f v in
    record { checks = short_checks t shape f v l; fields = short-fields t shape f v l }
built_reads t shape b false f =
    let v = long_facts t b f in
    let l = long-lengths t shape f v in
    record { checks = long_checks t shape f v l; fields = long-fields t shape f v l }
