-- What is proved of a telegram's fields in the layout for other languages.
use Rattle.std.specs.Prelude.{◌≡◌}
use Rattle.radio_telegram.specs.declared.fields.Telegram.{Telegram}
use Rattle.radio_telegram.specs.Fields.{Shaped}
use Rattle.c_codec.specs.Fields.{fields_bytes, telegram_in}

-- Said again: the bytes that are written for a telegram say that telegram. So `build` accepts what `read` wrote.
abbrev pub SaidAgain : Type 0
SaidAgain = (t : Telegram) → Shaped t → telegram_in (fields_bytes t) ≡ t
