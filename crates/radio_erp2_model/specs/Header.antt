-- The bits of the header and of the extended header (source document 004, figures 11 and 12). Bit 7 is the highest.
use Rattle.std.specs.Prelude.{ℕ, ◌+◌, ◌*◌, ◌/◌, ◌%◌, Bool, cond, leb, eqb, Option, Some, None}
use Rattle.radio_erp2_model.specs.declared.Header.{Header}
use Rattle.radio_erp2_model.specs.declared.Extension.{Extension}

-- ---- the header (figure 11): bits 5 to 7 address control, bit 4 extended header available, bits 0 to 3 telegram type

-- the parts of a header byte
abbrev pub header_fields : ℕ → Header
header_fields b = record { control = b / 32; extended = eqb (b / 16 % 2) 1; kind = b % 16 }

-- the byte of a header
abbrev pub header_byte : Header → ℕ
header_byte h = h.control * 32 + cond h.extended 16 0 + h.kind

-- address control 100 to 111
abbrev pub is_reserved : Header → Bool
is_reserved h = leb 4 h.control

-- telegram type 1111: "The Extended telegram type field is available, if bits 0...3 in Header are all set"
abbrev pub is_type_extended : Header → Bool
is_type_extended h = eqb h.kind 15

-- address control 010: the only one with a Destination-ID
abbrev pub is_addressed : Header → Bool
is_addressed h = eqb h.control 2

-- ---- the extended header (figure 12): bits 4 to 7 repeater count, bits 0 to 3 length of optional data

-- the parts of an extended header byte, if there is one
abbrev pub extension_of : Bool → ℕ → Option Extension
extension_of present b = cond present (Some (record { hops = b / 16; announced = b % 16 })) None

-- the byte of an extended header; where there is none, the three words are 0
abbrev pub extension_byte : Option Extension → ℕ
extension_byte (Some e) = e.hops * 16 + e.announced
extension_byte None = 0

abbrev pub hops_of : Option Extension → ℕ
hops_of (Some e) = e.hops
hops_of None = 0

abbrev pub announced_of : Option Extension → ℕ
announced_of (Some e) = e.announced
announced_of None = 0
