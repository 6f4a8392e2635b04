-- What is proved of an ERP2 telegram's fields in the layout for other languages.
use Rattle.std.specs.Prelude.{◌≡◌, unwrap_or}
use Rattle.radio_erp2_model.specs.declared.Telegram.{Telegram}
use Rattle.radio_erp2_model.specs.Claims.{Shaped}
use Rattle.c_erp2.specs.Fields.{fields_bytes, telegram_in}

-- Said again: the bytes that are written for a telegram, with its IDs, say that telegram. So `build` accepts what
-- `read` wrote.
abbrev pub SaidAgain : Type 0
SaidAgain = (t : Telegram) → Shaped t → telegram_in (fields_bytes t) t.originator (unwrap_or t.destination 0) ≡ t
