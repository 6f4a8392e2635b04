-- What the contracts of private functions say. No public contract cites these.
use Rattle.std.specs.Prelude.{ℕ, ◌+◌, ◌≤◌, cond, not, ◌&&◌, ◌||◌, List, [], ◌∷◌, ◌++◌, eqb, take, drop, unwrap_or}
use Rattle.base_crc8.specs.Crc8.{crc_of}
use Rattle.block_layout.specs.BigEndian.{be}
use Rattle.base_refusal.specs.Number.{number_of}
use Rattle.base_refusal.specs.declared.Refusal.TheVariants.{Argument, ReservedAddress, Misfit}
use Rattle.radio_erp2_model.specs.declared.Telegram.{Telegram}
use Rattle.radio_erp2_model.specs.declared.Sizes.{Sizes}
use Rattle.radio_erp2_model.specs.Header.{is_reserved, header_byte, extension_byte}
use Rattle.radio_erp2_model.specs.Sizes.{overhead}
use Rattle.radio_erp2_model.specs.Building.{is_short_form, is_unholdable, is_against_header, is_misfitting, data_of, bytes_by_size}

-- the refusals that do not depend on the output (10, 14, 15); 0 if none fits
unfoldable pub admission_of : Telegram → ℕ
admission_of t =
    cond (is_unholdable t || is_against_header t) (number_of Argument)
    (cond (not (is_short_form t) && is_reserved t.header) (number_of ReservedAddress)
    (cond (is_misfitting t) (number_of Misfit)
    0))

-- the bytes of a row in three parts: the length byte and what comes before the IDs; the IDs; the data
unfoldable pub before_ids : Telegram → Sizes → ℕ → List ℕ
before_ids t z size =
    (size ∷ []) ++ be z.header (header_byte t.header) ++ be z.extension (extension_byte t.extension)
    ++ be z.subtype (unwrap_or t.subtype 0)

unfoldable pub id_bytes : Telegram → Sizes → List ℕ
id_bytes t z = be z.originator t.originator ++ be z.destination (unwrap_or t.destination 0)

unfoldable pub data_bytes : Telegram → Sizes → List ℕ
data_bytes t z = data_of t ++ take z.optional t.optional

-- the CRC, if there is one
abbrev pub seal_by : Sizes → List ℕ → List ℕ
seal_by z body = cond (eqb z.crc 1) (crc_of body ∷ []) []

-- the length byte, the fields by their sizes, and the CRC if there is one
unfoldable pub row_written : Telegram → Sizes → List ℕ → List ℕ
row_written t z output =
    ((overhead z + t.len) ∷ (bytes_by_size t z ++ seal_by z (bytes_by_size t z))) ++ drop (1 + overhead z + t.len) output

-- fields of these sizes fit into a telegram, and into an output of n bytes
pub record FitsOutput (t : Telegram) (z : Sizes) (n : ℕ) : Type 0 where
  pub size : overhead z + t.len ≤ 255
  pub room : 1 + overhead z + t.len ≤ n
  pub payload : t.len ≤ 250
  pub optional : z.optional ≤ 15
  pub crc : z.crc ≤ 1
