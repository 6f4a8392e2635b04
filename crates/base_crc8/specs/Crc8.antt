-- CRC-8 of source document 001, 3.3.3. A polynomial over GF(2) is a number: its bit k is the coefficient of x^k.
-- Addition and subtraction are XOR.
use Rattle.std.specs.Prelude.{ℕ, zero, suc, ◌+◌, ◌*◌, ◌/◌, ◌%◌, ◌^◌, List, [], ◌∷◌, Bool}
use Rattle.std.specs.Int.Bits.{bit_xor}
use Rattle.base_lists.specs.Lists.{is_table_of}

-- x^8 + x^2 + x + 1
abbrev pub generator : ℕ
generator = 0b1_0000_0111

-- the coefficient of x^k in p
abbrev pub coefficient : ℕ → ℕ → ℕ
coefficient p k = p / 2 ^ k % 2

-- one step of long division: if p has the term x^(8 + k), the generator times x^k cancels it
abbrev pub cancel : ℕ → ℕ → ℕ
cancel k p = bit_xor p (coefficient p (8 + k) * generator * 2 ^ k)

-- the remainder of p, of degree below 8 + n, by the generator: long division from the highest term down
abbrev pub divide_out : ℕ → ℕ → ℕ
divide_out zero p = p
divide_out (suc n) p = divide_out n (cancel n p)

-- the remainder of a byte times x^8
unfoldable pub remainder_of : ℕ → ℕ
remainder_of b = divide_out 8 (b * 2 ^ 8)

-- the table of 256 remainders (document 01, "Subtelegram"): each entry is the remainder of its index times x^8
abbrev pub is_table : List ℕ → Bool
is_table table = is_table_of 256 remainder_of table

-- one byte: XOR it in, multiply by x^8, take the remainder
unfoldable pub step_of : ℕ → ℕ → ℕ
step_of crc b = remainder_of (bit_xor crc b)

-- the CRC after more bytes
abbrev pub crc_from : ℕ → List ℕ → ℕ
crc_from crc [] = crc
crc_from crc (b ∷ bs) = crc_from (step_of crc b) bs

-- the CRC of a list of bytes: it starts at 0
abbrev pub crc_of : List ℕ → ℕ
crc_of bytes = crc_from 0 bytes
