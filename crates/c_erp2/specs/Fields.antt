-- The fields of an ERP2 telegram without its IDs, in 276 bytes.
use Rattle.std.specs.Prelude.{ℕ, Bool, cond, not, List, [], ◌∷◌, ◌++◌, eqb, get_or, Some, None, is_some, unwrap_or}
use Rattle.base_buffers.specs.Buffer.{part, resized}
use Rattle.radio_erp2_model.specs.declared.Telegram.{Telegram}
use Rattle.radio_erp2_model.specs.Header.{hops_of, announced_of}
use Rattle.radio_erp2_model.specs.Reading.{max_data, max_optional}
use Rattle.c_layout.specs.Frame.{flag_byte}

abbrev pub fields_head_length : ℕ
fields_head_length = 11

abbrev pub fields_length : ℕ
fields_length = 276

-- the Length of a short form, or 0; address control, extended header available, telegram type; whether there is an
-- extended header, repeater count, length of optional data; whether there is an extended type, and which; whether there
-- is a Destination-ID; the length of data. What there is not has the value 0.
unfoldable pub head_bytes : Telegram → List ℕ
head_bytes t =
    t.short
    ∷ t.header.control ∷ flag_byte t.header.extended ∷ t.header.kind
    ∷ flag_byte (is_some t.extension) ∷ hops_of t.extension ∷ announced_of t.extension
    ∷ flag_byte (is_some t.subtype) ∷ unwrap_or t.subtype 0
    ∷ flag_byte (is_some t.destination)
    ∷ t.len
    ∷ []

-- the fields: the head, data (250 bytes) and optional data (15)
unfoldable pub fields_bytes : Telegram → List ℕ
fields_bytes t = head_bytes t ++ resized max_data t.payload ++ resized max_optional t.optional

-- the telegram in these bytes, with its IDs. For a flag, any number but 0 means yes.
abbrev pub flag_at : ℕ → List ℕ → Bool
flag_at i bytes = not (eqb (get_or bytes i 0) 0)

-- the telegram in 276 bytes and two IDs; the values beside a flag of 0 are ignored
unfoldable pub telegram_in : List ℕ → ℕ → ℕ → Telegram
telegram_in bytes originator destination = record {
  short = get_or bytes 0 0;
  header = record { control = get_or bytes 1 0; extended = flag_at 2 bytes; kind = get_or bytes 3 0 };
  extension = cond (flag_at 4 bytes) (Some (record { hops = get_or bytes 5 0; announced = get_or bytes 6 0 })) None;
  subtype = cond (flag_at 7 bytes) (Some (get_or bytes 8 0)) None;
  originator = originator;
  destination = cond (flag_at 9 bytes) (Some destination) None;
  payload = part 11 250 bytes;
  len = get_or bytes 10 0;
  optional = part 261 15 bytes;
}
