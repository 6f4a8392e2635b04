-- The claim on the remainder: it is the remainder of polynomial division. proofs/Divided.antt proves it.
use Rattle.std.specs.Prelude.{◌≡◌, ℕ, zero, suc, ◌+◌, ◌*◌, ◌^◌, ◌<◌}
use Rattle.std.specs.Int.Bits.{bit_xor}
use Rattle.base_crc8.specs.Crc8.{generator, coefficient, cancel, remainder_of}

-- the product of p, whose degree is below n, and q: for each term of p, q is shifted and added
unfoldable pub product : ℕ → ℕ → ℕ → ℕ
product zero p q = 0
product (suc n) p q = bit_xor (coefficient p n * q * 2 ^ n) (product n p q)

-- the quotient that long division gives
unfoldable pub quotient : ℕ → ℕ → ℕ
quotient zero p = 0
quotient (suc n) p = coefficient p (8 + n) * 2 ^ n + quotient n (cancel n p)

-- quotient times generator, plus the remainder
abbrev pub restored : ℕ → ℕ
restored b = bit_xor (product 8 (quotient 8 (b * 2 ^ 8)) generator) (remainder_of b)

-- a byte times x^8 is a quotient times the generator, plus the remainder, whose degree is below that of the generator
pub record Divided (b : ℕ) : Type 0 where
  pub whole : b * 2 ^ 8 ≡ restored b
  pub below : remainder_of b < 2 ^ 8

-- THE CLAIM: this holds for every byte
abbrev pub LongDivision : Type 0
LongDivision = (b : ℕ) → b < 256 → Divided b
