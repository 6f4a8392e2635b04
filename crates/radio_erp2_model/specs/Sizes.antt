-- How many bytes each field has, and where it starts (source document 004, figures 9 to 11). A field that is not
-- present has 0 bytes, so one order of fields is enough for the short form and for every long form.
use Rattle.std.specs.Prelude.{ℕ, ◌+◌, cond, List, [], ◌∷◌, get_or}
use Rattle.radio_erp2_model.specs.declared.Header.{Header}
use Rattle.radio_erp2_model.specs.declared.Sizes.{Sizes}
use Rattle.radio_erp2_model.specs.Header.{is_type_extended, is_addressed}

-- the longest Data_PL of a short form, and of any telegram (4.4, and figure 6)
abbrev pub max_short : ℕ
max_short = 6

abbrev pub max_length : ℕ
max_length = 255

-- ---- `Sizes`: the number of bytes of each field except the data

-- the number of bytes of the Originator-ID of a short form, by Length (figure 9)
abbrev pub short_originators : List ℕ
short_originators = 0 ∷ 1 ∷ 1 ∷ 2 ∷ 3 ∷ 4 ∷ 4 ∷ []

-- the same for a long form, by address control 000 to 011 (figure 11)
abbrev pub originators : List ℕ
originators = 3 ∷ 4 ∷ 4 ∷ 6 ∷ []

-- a short form (figure 8), by its Length 1 to 6: only an Originator-ID and data
abbrev pub short_sizes : ℕ → Sizes
short_sizes length = record {
  header = 0;
  extension = 0;
  subtype = 0;
  originator = get_or short_originators length 0;
  destination = 0;
  optional = 0;
  crc = 0;
}

-- a long form (figure 10), by its header and the length of optional data in the extended header. For a reserved address
-- control, the Originator-ID has at most 48 bits.
abbrev pub long_sizes : Header → ℕ → Sizes
long_sizes h announced = record {
  header = 1;
  extension = cond h.extended 1 0;
  subtype = cond (is_type_extended h) 1 0;
  originator = get_or originators h.control 6;
  destination = cond (is_addressed h) 4 0;
  optional = cond h.extended announced 0;
  crc = 1;
}

-- the length of Data_PL without its data
abbrev pub overhead : Sizes → ℕ
overhead z = z.header + z.extension + z.subtype + z.originator + z.destination + z.optional + z.crc

-- ---- where each field starts after the length byte (figure 10): where the one before it ends

abbrev pub extension_at : Sizes → ℕ
extension_at z = 1 + z.header

abbrev pub subtype_at : Sizes → ℕ
subtype_at z = extension_at z + z.extension

abbrev pub originator_at : Sizes → ℕ
originator_at z = subtype_at z + z.subtype

abbrev pub destination_at : Sizes → ℕ
destination_at z = originator_at z + z.originator

abbrev pub payload_at : Sizes → ℕ
payload_at z = destination_at z + z.destination
