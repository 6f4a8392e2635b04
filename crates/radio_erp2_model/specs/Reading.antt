-- Reading the list of the length byte and Data_PL (document 02, A4; source document 004, 4.4 to 4.6).
use Rattle.std.specs.Prelude.{ℕ, ◌+◌, ◌-◌, ◌%◌, Bool, false, cond, not, ◌||◌, List, leb, ltb, eqb, length, get_or, replicate, Some, None, Ok, Err, Result}
use Rattle.base_lists.specs.Lists.{padded}
use Rattle.base_refusal.specs.Number.{number_of}
use Rattle.base_refusal.specs.declared.Refusal.{Refusal}
use Rattle.base_refusal.specs.declared.Refusal.TheVariants.{Length, Crc, ReservedAddress, Misfit}
use Rattle.base_crc8.specs.Crc8.{crc_of}
use Rattle.base_buffers.specs.Buffer.{part}
use Rattle.block_layout.specs.BigEndian.{unbe}
use Rattle.radio_erp2_model.specs.declared.Header.{Header}
use Rattle.radio_erp2_model.specs.declared.Sizes.{Sizes}
use Rattle.radio_erp2_model.specs.declared.Telegram.{Telegram}
use Rattle.radio_erp2_model.specs.Header.{header_fields, extension_of, is_reserved, is_type_extended, is_addressed}
use Rattle.radio_erp2_model.specs.Sizes.{max_short, short_sizes, long_sizes, overhead, extension_at, subtype_at, originator_at, destination_at, payload_at}

-- the longest data and the longest optional data of any telegram
abbrev pub max_data : ℕ
max_data = 250

abbrev pub max_optional : ℕ
max_optional = 15

-- ---- the tests

-- the length byte: the number of bytes of Data_PL
abbrev pub length_byte : List ℕ → ℕ
length_byte s = get_or s 0 0

-- "length 0 or not matching the bytes"
abbrev pub is_length_wrong : List ℕ → Bool
is_length_wrong s = eqb (length_byte s) 0 || not (eqb (length s) (1 + length_byte s))

-- Length 1 to 6 has no header and no CRC (4.4)
abbrev pub has_short_length : List ℕ → Bool
has_short_length s = leb (length_byte s) max_short

-- the last byte is the CRC "over all of Data_PL before it" (4.6)
abbrev pub is_intact : List ℕ → Bool
is_intact s = eqb (get_or s (length_byte s) 0) (crc_of (part 1 (length_byte s - 1) s))

-- the header of a long form is its first byte; the extended header, if present, is its second
abbrev pub header_in : List ℕ → Header
header_in s = header_fields (get_or s 1 0)

-- the sizes of the fields in a list
abbrev pub sizes_in : List ℕ → Sizes
sizes_in s = cond (has_short_length s) (short_sizes (length_byte s)) (long_sizes (header_in s) (get_or s 2 0 % 16))

-- "fields that don't fit the length": the fields alone are longer than the telegram
abbrev pub is_overrun : List ℕ → Bool
is_overrun s = ltb (length_byte s) (overhead (sizes_in s))

-- the refusals of document 02, A4, in their order: 1, and for a long form 13, 14, 15; 0 means read
unfoldable pub check_of : List ℕ → ℕ
check_of s =
    cond (is_length_wrong s) (number_of Length)
    (cond (has_short_length s) 0
    (cond (not (is_intact s)) (number_of Crc)
    (cond (is_reserved (header_in s)) (number_of ReservedAddress)
    (cond (is_overrun s) (number_of Misfit)
    0))))

-- ---- the fields

-- the fields of a list by their sizes, with n bytes of data; an Originator-ID of 0 bytes reads as 0
abbrev pub fields_by_size : List ℕ → Sizes → ℕ → ℕ → Telegram
fields_by_size s z n short =
    let h = header_fields (unbe (part 1 z.header s)) in
    let b = unbe (part (extension_at z) z.extension s) in
    record {
      short = short;
      header = h;
      extension = extension_of h.extended b;
      subtype = cond (is_type_extended h) (Some (unbe (part (subtype_at z) z.subtype s))) None;
      originator = unbe (part (originator_at z) z.originator s);
      destination = cond (is_addressed h) (Some (unbe (part (destination_at z) z.destination s))) None;
      payload = padded max_data (part (payload_at z) n s);
      len = n;
      optional = padded max_optional (part (payload_at z + n) z.optional s);
    }

-- the fields of a list in which they fit; the data is the rest
unfoldable pub fields_of : List ℕ → Telegram
fields_of s = fields_by_size s (sizes_in s) (length_byte s - overhead (sizes_in s)) (cond (has_short_length s) (length_byte s) 0)

-- ---- what a refusal shows

abbrev pub no_header : Header
no_header = record { control = 0; extended = false; kind = 0 }

-- with a refusal, everything is zero, and no optional field is present
abbrev pub no_telegram : Telegram
no_telegram = record {
  short = 0;
  header = no_header;
  extension = None;
  subtype = None;
  originator = 0;
  destination = None;
  payload = replicate max_data 0;
  len = 0;
  optional = replicate max_optional 0;
}

-- ---- the answer of reading

-- the number, and the fields
pub record Read : Type 0 where
  pub number : ℕ
  pub telegram : Telegram

abbrev pub shown_erp2_reading : Result Telegram Refusal → Read
shown_erp2_reading (Ok t) = record { number = 0; telegram = t }
shown_erp2_reading (Err why) = record { number = number_of why; telegram = no_telegram }

-- reading a list
unfoldable pub read_of : List ℕ → Read
read_of s = record { number = check_of s; telegram = cond (eqb (check_of s) 0) (fields_of s) no_telegram }
