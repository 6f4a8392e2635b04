-- The claims on reading and building, for every list of bytes and every telegram (document 02, A4: "Both round trips
-- hold, with the presence of each optional field part of what was read"). proofs/Theorems.antt proves them.
use Rattle.std.specs.Prelude.{◌≡◌, true, false, cond, List, [], ◌∷◌, map, ℕ, ◌-◌, ◌*◌, ◌^◌, ◌≤◌, ◌<◌, length, unwrap_or}
use Rattle.base_lists.specs.Lists.{padded}
use Rattle.block_layout.specs.BigEndian.{Bytes}
use Rattle.radio_telegram.specs.Output.{written, result_bytes}
use Rattle.radio_erp2_model.specs.declared.Telegram.{Telegram}
use Rattle.radio_erp2_model.specs.Header.{header_fields, is_reserved}
use Rattle.radio_erp2_model.specs.Sizes.{short_sizes, long_sizes, overhead}
use Rattle.radio_erp2_model.specs.Reading.{max_data, max_optional, has_short_length, no_header, read_of}
use Rattle.radio_erp2_model.specs.Building.{is_short_form, data_of, optional_of, build_of}

-- ---- the round trips

-- Build read: what is read builds the same bytes, into any output that is long enough.
abbrev pub BuildRead : Type 0
BuildRead =
    (s out : List ℕ) → Bytes s → (read_of s).number ≡ 0 → length s ≤ length out
    → build_of (read_of s).telegram out ≡ written s out

-- the lengths of a telegram's arrays and the ranges of its numbers, as its type gives them
pub record Shaped (t : Telegram) : Type 0 where
  pub payload : length t.payload ≡ max_data
  pub optional : length t.optional ≡ max_optional
  pub value : unwrap_or t.subtype 0 < 256
  pub id : unwrap_or t.destination 0 < 256 ^ 4

-- a telegram with zeros for all that its bytes do not carry: after its data and optional data, and for the header of a
-- short form
abbrev pub normal_of : Telegram → Telegram
normal_of t = record {
  short = t.short;
  header = cond (is_short_form t) no_header t.header;
  extension = t.extension;
  subtype = t.subtype;
  originator = t.originator;
  destination = t.destination;
  payload = padded max_data (data_of t);
  len = t.len;
  optional = padded max_optional (optional_of t);
}

-- Read built: what is built reads back, with each optional field or without it.
abbrev pub ReadBuilt : Type 0
ReadBuilt =
    (t : Telegram) → Shaped t → (out : List ℕ) → (build_of t out).number ≡ 0
    → read_of (result_bytes (build_of t out)) ≡ record { number = 0; telegram = normal_of t }

-- Normal read: what is read has these zeros. So for telegrams that are read, reading and building are inverse to each
-- other.
abbrev pub NormalRead : Type 0
NormalRead = (s : List ℕ) → Bytes s → (read_of s).number ≡ 0 → normal_of (read_of s).telegram ≡ (read_of s).telegram

-- ---- the tables of 004 as it prints them: the round trips would also hold with other tables

-- how many bits the Originator-ID and the data of a short form have
abbrev pub short_row : ℕ → List ℕ
short_row l = 8 * (short_sizes l).originator ∷ 8 * (l - overhead (short_sizes l)) ∷ []

-- how many bits the Originator-ID and the Destination-ID have, by the header byte
abbrev pub id_row : ℕ → List ℕ
id_row b = 8 * (long_sizes (header_fields b) 0).originator ∷ 8 * (long_sizes (header_fields b) 0).destination ∷ []

-- how many bits the extended header and the extended telegram type have, by the header byte
abbrev pub optional_row : ℕ → List ℕ
optional_row b = 8 * (long_sizes (header_fields b) 0).extension ∷ 8 * (long_sizes (header_fields b) 0).subtype ∷ []

-- Figures: the sizes are those in the tables.
pub record Figures : Type 0 where
  -- figure 9, Length 1 to 6; 7 is a long form
  pub short : map short_row (1 ∷ 2 ∷ 3 ∷ 4 ∷ 5 ∷ 6 ∷ [])
      ≡ (8 ∷ 0 ∷ []) ∷ (8 ∷ 8 ∷ []) ∷ (16 ∷ 8 ∷ []) ∷ (24 ∷ 8 ∷ []) ∷ (32 ∷ 8 ∷ []) ∷ (32 ∷ 16 ∷ []) ∷ []
  pub forms : map (λ (l : ℕ). has_short_length (l ∷ [])) (1 ∷ 6 ∷ 7 ∷ []) ≡ true ∷ true ∷ false ∷ []
  -- figure 11, bits 5 to 7: 000, 001, 010, 011, and the reserved 100, 101, 110, 111
  pub control : map id_row (0x00 ∷ 0x20 ∷ 0x40 ∷ 0x60 ∷ [])
      ≡ (24 ∷ 0 ∷ []) ∷ (32 ∷ 0 ∷ []) ∷ (32 ∷ 32 ∷ []) ∷ (48 ∷ 0 ∷ []) ∷ []
  pub allowed : map (λ (b : ℕ). is_reserved (header_fields b)) (0x1F ∷ 0x3F ∷ 0x5F ∷ 0x7F ∷ [])
      ≡ false ∷ false ∷ false ∷ false ∷ []
  pub reserved : map (λ (b : ℕ). is_reserved (header_fields b)) (0x80 ∷ 0xA0 ∷ 0xC0 ∷ 0xE0 ∷ [])
      ≡ true ∷ true ∷ true ∷ true ∷ []
  -- figure 11, bit 4 and bits 0 to 3: an extended header by 1, an extended telegram type by 1111
  pub optional : map optional_row (0x0E ∷ 0x0F ∷ 0x1E ∷ 0x1F ∷ [])
      ≡ (0 ∷ 0 ∷ []) ∷ (0 ∷ 8 ∷ []) ∷ (8 ∷ 0 ∷ []) ∷ (8 ∷ 8 ∷ []) ∷ []
