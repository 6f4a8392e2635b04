-- Building the list of the length byte and Data_PL (document 02, A4; source document 004, 4.4 to 4.6).
use Rattle.std.specs.Prelude.{ℕ, ◌+◌, ◌^◌, Bool, false, cond, not, ◌&&◌, ◌||◌, List, [], ◌∷◌, ◌++◌, leb, ltb, eqb, length, take, Option, Some, None, is_some, unwrap_or}
use Rattle.base_refusal.specs.Number.{number_of}
use Rattle.base_refusal.specs.declared.Refusal.TheVariants.{ShortOutput, Argument, ReservedAddress, Misfit}
use Rattle.base_crc8.specs.Crc8.{crc_of}
use Rattle.block_layout.specs.BigEndian.{be}
use Rattle.radio_telegram.specs.Output.{Result, refused, written}
use Rattle.radio_erp2_model.specs.declared.Extension.{Extension}
use Rattle.radio_erp2_model.specs.declared.Sizes.{Sizes}
use Rattle.radio_erp2_model.specs.declared.Telegram.{Telegram}
use Rattle.radio_erp2_model.specs.Header.{header_byte, is_reserved, is_type_extended, is_addressed, extension_byte, announced_of}
use Rattle.radio_erp2_model.specs.Sizes.{max_short, max_length, short_sizes, long_sizes, overhead}

-- the Length of a short form is not 0; for a long form it is
abbrev pub is_short_form : Telegram → Bool
is_short_form t = not (eqb t.short 0)

-- the sizes of a telegram's fields
abbrev pub sizes_for : Telegram → Sizes
sizes_for t = cond (is_short_form t) (short_sizes t.short) (long_sizes t.header (announced_of t.extension))

-- the number of bytes of Data_PL
unfoldable pub telegram_size : Telegram → ℕ
telegram_size t = overhead (sizes_for t) + t.len

-- an extended header, if there is one, with a value its bits can't hold
abbrev pub is_extension_over : Option Extension → Bool
is_extension_over (Some e) = ltb 15 e.hops || ltb 15 e.announced
is_extension_over None = false

-- "a value its bits can't hold": a field that is not present has no bits
unfoldable pub is_unholdable : Telegram → Bool
is_unholdable t =
    leb (256 ^ (sizes_for t).originator) t.originator
    || cond (is_short_form t) (ltb max_short t.short)
    (ltb 7 t.header.control
    || ltb 15 t.header.kind
    || is_extension_over t.extension)

-- one flag is set and the other is not
abbrev pub differ : Bool → Bool → Bool
differ a b = cond a (not b) b

-- "an optional field there or missing against the header"; a short form has no header, so it has no optional field
unfoldable pub is_against_header : Telegram → Bool
is_against_header t =
    differ (is_some t.extension) (not (is_short_form t) && t.header.extended)
    || differ (is_some t.subtype) (not (is_short_form t) && is_type_extended t.header)
    || differ (is_some t.destination) (not (is_short_form t) && is_addressed t.header)

-- "fields that don't fit the length": a short form names its length; a long form has 7 to 255
unfoldable pub is_misfitting : Telegram → Bool
is_misfitting t =
    cond (is_short_form t) (not (eqb (telegram_size t) t.short))
    (ltb (telegram_size t) (max_short + 1) || ltb max_length (telegram_size t))

-- ---- the bytes

-- the data, without the zeros after it
abbrev pub data_of : Telegram → List ℕ
data_of t = take t.len t.payload

-- the optional data, without the zeros after it
abbrev pub optional_of : Telegram → List ℕ
optional_of t = take (sizes_for t).optional t.optional

-- the fields of a telegram by their sizes, one after the other: all of Data_PL before the CRC (figure 10)
abbrev pub bytes_by_size : Telegram → Sizes → List ℕ
bytes_by_size t z =
    be z.header (header_byte t.header)
    ++ be z.extension (extension_byte t.extension)
    ++ be z.subtype (unwrap_or t.subtype 0)
    ++ be z.originator t.originator
    ++ be z.destination (unwrap_or t.destination 0)
    ++ data_of t
    ++ take z.optional t.optional

-- all of Data_PL before the CRC
unfoldable pub body_of : Telegram → List ℕ
body_of t = bytes_by_size t (sizes_for t)

-- the CRC, which a short form does not have
abbrev pub seal_of : Telegram → List ℕ
seal_of t = cond (is_short_form t) [] (crc_of (body_of t) ∷ [])

-- every byte of a telegram: the length byte, and Data_PL
unfoldable pub erp2_bytes : Telegram → List ℕ
erp2_bytes t = telegram_size t ∷ (body_of t ++ seal_of t)

-- ---- the answer of building: the refusals of document 02, A4, in their order: 10, 14, 15, 6

-- building a telegram into an output
unfoldable pub build_of : Telegram → List ℕ → Result
build_of t output =
    cond (is_unholdable t || is_against_header t) (refused (number_of Argument) output)
    (cond (not (is_short_form t) && is_reserved t.header) (refused (number_of ReservedAddress) output)
    (cond (is_misfitting t) (refused (number_of Misfit) output)
    (cond (ltb (length output) (1 + telegram_size t)) (refused (number_of ShortOutput) output)
    (written (erp2_bytes t) output))))
