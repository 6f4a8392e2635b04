-- The fields of a telegram in 26 bytes.
use Rattle.std.specs.Prelude.{ℕ, cond, List, [], ◌∷◌, ◌++◌, eqb, get_or, None, Some, is_some}
use Rattle.base_buffers.specs.Buffer.{part}
use Rattle.radio_telegram.specs.declared.fields.Telegram.{Telegram}
use Rattle.radio_telegram.specs.Fields.{destid_of}
use Rattle.c_layout.specs.Frame.{flag_byte}

abbrev pub fields_length : ℕ
fields_length = 26

-- RORG, the length of DATA, 1 if addressed, STATUS, DESTID (4; zeros if there is none), TXID (4), DATA (14)
unfoldable pub fields_bytes : Telegram → List ℕ
fields_bytes t = (t.rorg ∷ t.len ∷ flag_byte (is_some t.destid) ∷ t.status ∷ []) ++ destid_of t ++ t.txid ++ t.payload

-- the telegram in these bytes. For "addressed", any number but 0 means yes.
unfoldable pub telegram_in : List ℕ → Telegram
telegram_in bytes = record {
  rorg = get_or bytes 0 0;
  payload = part 12 14 bytes;
  len = get_or bytes 1 0;
  destid = cond (eqb (get_or bytes 2 0) 0) None (Some (part 4 4 bytes));
  txid = part 8 4 bytes;
  status = get_or bytes 3 0;
}
