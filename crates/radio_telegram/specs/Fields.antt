-- The fields of a subtelegram: the answer of reading, and the bytes of building (document 01, "Subtelegram").
use Rattle.std.specs.Prelude.{ℕ, ◌-◌, ◌≤◌, ◌≡◌, Bool, cond, ◌||◌, List, [], ◌∷◌, ◌++◌, ltb, eqb, length, get_or, take, drop, replicate, Some, None, IfSome, is_some, unwrap_or, Result as Answer, Ok, Err}
use Rattle.base_lists.specs.Lists.{padded}
use Rattle.base_refusal.specs.Number.{number_of}
use Rattle.base_refusal.specs.declared.Refusal.{Refusal}
use Rattle.base_refusal.specs.declared.Refusal.TheVariants.{Argument, TooLong}
use Rattle.radio_erp1.specs.Subtelegram.{max_length, addressed, check_of, is_addressed, is_valid, sealed_of, status_of}
use Rattle.radio_telegram.specs.declared.fields.Telegram.{Telegram}
use Rattle.radio_telegram.specs.Output.{Result, refused, put_of}

-- the house limit of DATA
abbrev pub max_data : ℕ
max_data = 14

-- the elements of s from one index up to another
abbrev pub between : ℕ → ℕ → List ℕ → List ℕ
between from to s = take (to - from) (drop from s)

-- ---- reading

-- RORG, DATA, TXID (4), STATUS, HASH
abbrev pub plain_fields : List ℕ → Telegram
plain_fields s = record {
  rorg = get_or s 0 0;
  payload = padded max_data (between 1 (length s - 6) s);
  len = length s - 7;
  destid = None;
  txid = between (length s - 6) (length s - 2) s;
  status = status_of s;
}

-- 0xA6, RORG, DATA, DESTID (4), TXID (4), STATUS, HASH
abbrev pub addressed_fields : List ℕ → Telegram
addressed_fields s = record {
  rorg = get_or s 1 0;
  payload = padded max_data (between 2 (length s - 10) s);
  len = length s - 12;
  destid = Some (between (length s - 10) (length s - 6) s);
  txid = between (length s - 6) (length s - 2) s;
  status = status_of s;
}

-- the fields of a valid subtelegram
unfoldable pub fields_of : List ℕ → Telegram
fields_of s = cond (is_addressed s) (addressed_fields s) (plain_fields s)

-- with a refusal, everything is zero, and there is no DESTID
abbrev pub no_telegram : Telegram
no_telegram = record {
  rorg = 0;
  payload = replicate max_data 0;
  len = 0;
  destid = None;
  txid = replicate 4 0;
  status = 0;
}

-- the check's number, and the fields
pub record Read : Type 0 where
  pub number : ℕ
  pub telegram : Telegram

abbrev pub shown_reading : Answer Telegram Refusal → Read
shown_reading (Ok t) = record { number = 0; telegram = t }
shown_reading (Err why) = record { number = number_of why; telegram = no_telegram }

-- reading a subtelegram
unfoldable pub read_of : List ℕ → Read
read_of s = record { number = check_of s; telegram = cond (is_valid s) (fields_of s) no_telegram }

-- ---- building

-- DESTID; zeros if there is none
abbrev pub destid_of : Telegram → List ℕ
destid_of t = unwrap_or t.destid (replicate 4 0)

-- DATA, without the zeros after it
abbrev pub data_of : Telegram → List ℕ
data_of t = take t.len t.payload

-- what comes before DATA; and what comes between DATA and STATUS
abbrev pub before_data : Telegram → List ℕ
before_data t = cond (is_some t.destid) (addressed ∷ t.rorg ∷ []) (t.rorg ∷ [])

abbrev pub ids_of : Telegram → List ℕ
ids_of t = unwrap_or t.destid [] ++ t.txid

-- every byte of a telegram: [0xA6,] RORG, DATA, [DESTID,] TXID, STATUS, HASH
unfoldable pub telegram_bytes : Telegram → List ℕ
telegram_bytes t = sealed_of (((before_data t ++ data_of t) ++ ids_of t) ++ (t.status ∷ []))

-- "DATA not 1 to 14 or RORG 0xA6 when building"
unfoldable pub is_unbuildable : Telegram → Bool
is_unbuildable t = ltb t.len 1 || ltb max_data t.len || eqb t.rorg addressed

-- building, with the refusals in document 01's order: 10, 5, 6
unfoldable pub build_of : Telegram → List ℕ → Result
build_of t output = cond (is_unbuildable t) (refused (number_of Argument) output) (put_of (telegram_bytes t) output)

-- the refusals that do not depend on the output (10, 5), which a private function tests; 0 if none fits
unfoldable pub admission_of : Telegram → ℕ
admission_of t =
    cond (is_unbuildable t) (number_of Argument)
    (cond (ltb max_length (length (telegram_bytes t))) (number_of TooLong)
    0)

-- what holds for a telegram that can be built
pub record Buildable (t : Telegram) : Type 0 where
  pub low : 1 ≤ t.len
  pub high : t.len ≤ max_data
  pub inner : t.rorg ≡ addressed → ⊥
  pub fits : length (telegram_bytes t) ≤ max_length

-- ---- for the round trips

-- the lengths of a telegram's arrays, as its type gives them
pub record Shaped (t : Telegram) : Type 0 where
  pub payload : length t.payload ≡ max_data
  pub destid : IfSome t.destid (λ d. length d ≡ 4)
  pub txid : length t.txid ≡ 4

-- a telegram with zeros for all that its bytes do not carry, which is what stands after its DATA
abbrev pub normal_of : Telegram → Telegram
normal_of t = record {
  rorg = t.rorg;
  payload = padded max_data (data_of t);
  len = t.len;
  destid = t.destid;
  txid = t.txid;
  status = t.status;
}
