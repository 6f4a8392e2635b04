-- The transmitter of a row (document 02, A11 and A12).
use Rattle.std.specs.Prelude.{ℕ, ◌-◌, ◌≡◌, true, length}
use Rattle.base_buffers.specs.Buffer.{part}
use Rattle.block_layout.specs.BigEndian.{unbe}
use Rattle.radio_telegram.specs.Fields.{fields_of}
use Rattle.archive_model.specs.Row.{Row, is_row}

-- the transmitter: the four bytes before STATUS and HASH, in a plain and in an addressed subtelegram
abbrev pub identity_of : Row → ℕ
identity_of r = unbe (part (length r.bytes - 6) 4 r.bytes)

-- Transmitter: for a valid row this is the TXID that the codec reads, also in an addressed row, and never a DESTID.
abbrev pub Transmitter : Type 0
Transmitter = (r : Row) → is_row r ≡ true → identity_of r ≡ unbe (fields_of r.bytes).txid
