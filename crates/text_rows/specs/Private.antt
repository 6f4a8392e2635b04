-- Writing many characters at once, for the contracts of private functions. No public contract cites these.
use Rattle.std.specs.Prelude.{◌≡◌, List, ℕ, ◌+◌, ◌*◌, ◌/◌, ◌%◌, ◌<◌, length, get_or}
use Rattle.text_rows.specs.Text.{hex_digit_of}

-- d has the digits of eight bytes of s
pub record DigitsOf (s : List ℕ) (from : ℕ) (d : List ℕ) : Type 0 where
  pub long : length d ≡ 16
  pub high : (k : ℕ) → k < 8 → get_or d (2 * k) 0 ≡ hex_digit_of (get_or s (from + k) 0 / 16)
  pub low : (k : ℕ) → k < 8 → get_or d (2 * k + 1) 0 ≡ hex_digit_of (get_or s (from + k) 0 % 16)
