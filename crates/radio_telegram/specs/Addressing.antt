-- Addressed encapsulation and its removal (document 01, "Subtelegram"; 001, 4.3.2): STATUS is kept and HASH renewed.
use Rattle.std.specs.Prelude.{cond, not, List, ℕ, Option, Some, None}
use Rattle.base_refusal.specs.Number.{number_of}
use Rattle.base_refusal.specs.declared.Refusal.TheVariants.{Nested, NotAddressed}
use Rattle.radio_erp1.specs.Subtelegram.{check_of, is_addressed, is_valid}
use Rattle.radio_telegram.specs.declared.fields.Telegram.{Telegram}
use Rattle.radio_telegram.specs.Output.{Result, refused, put_of}
use Rattle.radio_telegram.specs.Fields.{fields_of, telegram_bytes}

-- a telegram with another address, or with none; all else is unchanged, also STATUS
abbrev pub with_address : Telegram → Option (List ℕ) → Telegram
with_address t to = record {
  rorg = t.rorg;
  payload = t.payload;
  len = t.len;
  destid = to;
  txid = t.txid;
  status = t.status;
}

-- a telegram addressed to a DESTID
abbrev pub addressed_to : Telegram → List ℕ → Telegram
addressed_to t to = with_address t (Some to)

-- the same telegram, plain
abbrev pub unaddressed : Telegram → Telegram
unaddressed t = with_address t None

-- the bytes of s, encapsulated for a DESTID
abbrev pub encapsulated : List ℕ → List ℕ → List ℕ
encapsulated s to = telegram_bytes (addressed_to (fields_of s) to)

-- the plain telegram that s carries, as bytes
abbrev pub decapsulated : List ℕ → List ℕ
decapsulated s = telegram_bytes (unaddressed (fields_of s))

-- encapsulating, with the refusals in document 01's order: the check's, 3, 5, 6
unfoldable pub encapsulate_of : List ℕ → List ℕ → List ℕ → Result
encapsulate_of s to output =
    cond (not (is_valid s)) (refused (check_of s) output)
    (cond (is_addressed s) (refused (number_of Nested) output)
    (put_of (encapsulated s to) output))

-- removing, with the refusals in document 01's order: the check's, 4, 6
unfoldable pub decapsulate_of : List ℕ → List ℕ → Result
decapsulate_of s output =
    cond (not (is_valid s)) (refused (check_of s) output)
    (cond (not (is_addressed s)) (refused (number_of NotAddressed) output)
    (put_of (decapsulated s) output))
