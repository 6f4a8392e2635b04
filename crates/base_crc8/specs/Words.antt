-- The CRC of several bytes at once, with 64-bit words and tables, for the contracts of private functions. The public
-- contract is that of `crc8`.
use Rattle.std.specs.Prelude.{ℕ, zero, suc, ◌+◌, ◌*◌, ◌/◌, ◌%◌, ◌^◌, ◌<◌, List, [], ◌∷◌, length, get_or}
use Rattle.std.specs.Int.Bits.{bit_xor}
use Rattle.base_crc8.specs.Crc8.{remainder_of}

-- the remainder of a byte times x^(8 n): the CRC of the byte and n zero bytes
unfoldable pub power_of : ℕ → ℕ → ℕ
power_of zero b = b
power_of (suc n) b = power_of n (remainder_of b)

-- each element is below 256
abbrev pub EightBits : List ℕ → Type 0
EightBits bs = (i : ℕ) → get_or bs i 0 < 256

-- bytes as a number, the first byte highest
unfoldable pub value_of : List ℕ → ℕ
value_of [] = 0
value_of (b ∷ bs) = b * 2 ^ (8 * length bs) + value_of bs

-- a word shifted left by k, in 64 bits
abbrev pub shl : ℕ → ℕ → ℕ
shl k v = v * 2 ^ k % 2 ^ 64

-- a times x^32, plus w: the remainder of x^32 is x^4 + x^2 + x
unfoldable pub join_words : ℕ → ℕ → ℕ
join_words a w = bit_xor (bit_xor (shl 1 a) (shl 2 a)) (bit_xor (shl 4 a) w)

-- two words reduced to one with the same remainder
unfoldable pub folded_of : ℕ → ℕ → ℕ
folded_of high low =
    join_words (join_words (join_words (high / 2 ^ 32) (high % 2 ^ 32)) (low / 2 ^ 32)) (low % 2 ^ 32)

-- a word reduced with the remainder of x^16, which is x^4 + x^2 + 1
unfoldable pub halved_of : ℕ → ℕ
halved_of v =
    bit_xor (bit_xor (v / 2 ^ 16) (shl 2 (v / 2 ^ 16))) (bit_xor (shl 4 (v / 2 ^ 16)) (v % 2 ^ 16))

-- a word reduced with the remainder of x^8, which is x^2 + x + 1
unfoldable pub shorter_of : ℕ → ℕ
shorter_of v =
    bit_xor (bit_xor (v / 2 ^ 8) (shl 1 (v / 2 ^ 8))) (bit_xor (shl 2 (v / 2 ^ 8)) (v % 2 ^ 8))

-- a word times x^8
unfoldable pub more_of : ℕ → ℕ
more_of v = bit_xor (bit_xor v (shl 1 v)) (shl 2 v)

-- the remainder of a word times x^8
unfoldable pub word_remainder : ℕ → ℕ
word_remainder v =
    shorter_of (more_of (shorter_of (shorter_of (halved_of (join_words (v / 2 ^ 32) (v % 2 ^ 32)))))) % 2 ^ 8
