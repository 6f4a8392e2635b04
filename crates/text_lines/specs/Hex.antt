-- Bytes in hexadecimal (document 01, "Cases": 0 to 64 bytes of two hex digits each in either case).
use Rattle.std.specs.Prelude.{◌≡◌, ℕ, zero, suc, ◌+◌, ◌-◌, ◌*◌, ◌%◌, Bool, cond, ◌&&◌, List, [], ◌∷◌, eqb, leb, ltb, length}
use Rattle.base_lists.specs.Lists.{all, padded}
use Rattle.text_lines.specs.Ascii.{digit0, upper_a, lower_a, is_among}

-- the largest number of bytes of a reception in a line
abbrev pub max_bytes : ℕ
max_bytes = 64

-- the value of a hexadecimal digit in either case; 16 for any other character
unfoldable pub nibble_of : ℕ → ℕ
nibble_of c =
    cond (is_among 10 digit0 c) (c - digit0)
    (cond (is_among 6 upper_a c) (10 + (c - upper_a))
    (cond (is_among 6 lower_a c) (10 + (c - lower_a))
    16))

abbrev pub is_hex_digit : ℕ → Bool
is_hex_digit c = ltb (nibble_of c) 16

-- 0 to 64 bytes of two digits each
unfoldable pub is_hex : List ℕ → Bool
is_hex s = leb (length s) (2 * max_bytes) && eqb (length s % 2) 0 && all is_hex_digit s

-- the bytes of pairs of digits, the high digit first
unfoldable pub hex_bytes : List ℕ → List ℕ
hex_bytes [] = []
hex_bytes (a ∷ []) = []
hex_bytes (a ∷ b ∷ s) = (nibble_of a * 16 + nibble_of b) ∷ hex_bytes s

-- the bytes of the pairs of digits at the front of a text, n at most
unfoldable pub leading_bytes : ℕ → List ℕ → List ℕ
leading_bytes zero s = []
leading_bytes (suc n) [] = []
leading_bytes (suc n) (a ∷ []) = []
leading_bytes (suc n) (a ∷ b ∷ s) =
    cond (is_hex_digit a && is_hex_digit b) ((nibble_of a * 16 + nibble_of b) ∷ leading_bytes n s) []

-- the pairs at the front of s were read into an array, which is filled with zeros
pub record Decoded (s bytes : List ℕ) (r : ℕ) : Type 0 where
  pub answer : r ≡ length (leading_bytes max_bytes s)
  pub written : bytes ≡ padded max_bytes (leading_bytes max_bytes s)
