-- What is printed reads back. proofs/ReadBack.antt proves it.
use Rattle.std.specs.Prelude.{◌≡◌, true, List, ◌∷◌, ◌++◌, ℕ, ◌^◌, ◌≤◌, ◌<◌, length}
use Rattle.text_lines.specs.Ascii.{space}
use Rattle.text_lines.specs.Decimal.{decimal_of, is_time}
use Rattle.text_lines.specs.Hex.{max_bytes, is_hex, hex_bytes}
use Rattle.text_lines.specs.Reading.{reception, line_reading}
use Rattle.text_rows.specs.Text.{decimal_text, hex_text}
use Rattle.base_numbers.specs.Bytes.{are_bytes}

-- a number of 64 bits that is printed is a time, and reads back as that number
pub record NumberRead (n : ℕ) : Type 0 where
  pub time : is_time (decimal_text n) ≡ true
  pub value : decimal_of (decimal_text n) ≡ n

-- Numbers back: this holds for every number of 64 bits.
abbrev pub NumbersBack : Type 0
NumbersBack = (n : ℕ) → n < 2 ^ 64 → NumberRead n

-- Times back: a time that was read is printed as it was written.
abbrev pub TimesBack : Type 0
TimesBack = (s : List ℕ) → is_time s ≡ true → decimal_text (decimal_of s) ≡ s

-- bytes that are printed, at most 64, are bytes in hexadecimal, and read back as these bytes
pub record BytesRead (bs : List ℕ) : Type 0 where
  pub hex : is_hex (hex_text bs) ≡ true
  pub value : hex_bytes (hex_text bs) ≡ bs

-- Bytes back: this holds for all such bytes.
abbrev pub BytesBack : Type 0
BytesBack = (bs : List ℕ) → are_bytes bs ≡ true → length bs ≤ max_bytes → BytesRead bs

-- Lines back: the line of a time and bytes reads back as these.
abbrev pub LinesBack : Type 0
LinesBack = (n : ℕ) (bs : List ℕ) → n < 2 ^ 64 → are_bytes bs ≡ true → length bs ≤ max_bytes
    → line_reading (decimal_text n ++ (space ∷ hex_text bs)) ≡ reception n bs
