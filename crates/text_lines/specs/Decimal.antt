-- Decimal numbers (document 01, "Cases": a decimal 64-bit time without leading zeros).
use Rattle.std.specs.Prelude.{ℕ, ◌+◌, ◌-◌, ◌*◌, ◌^◌, Bool, false, cond, not, ◌&&◌, List, [], ◌∷◌, eqb, ltb, length, take, Option, Some, None}
use Rattle.base_bytes.specs.Bytes.{index_of}
use Rattle.base_lists.specs.Lists.{all}
use Rattle.text_lines.specs.Ascii.{space, digit0, is_among}

-- 0 to 9
abbrev pub is_digit : ℕ → Bool
is_digit c = is_among 10 digit0 c

-- the value of these digits: each counts its value times a power of ten
unfoldable pub decimal_of : List ℕ → ℕ
decimal_of [] = 0
decimal_of (c ∷ s) = (c - digit0) * 10 ^ length s + decimal_of s

-- 0 in front of further digits
abbrev pub has_leading_zero : List ℕ → Bool
has_leading_zero [] = false
has_leading_zero (c ∷ []) = false
has_leading_zero (c ∷ d ∷ s) = eqb c digit0

-- only digits, and a number below 2^64
unfoldable pub is_number : List ℕ → Bool
is_number s = all is_digit s && ltb (decimal_of s) (2 ^ 64)

-- a decimal 64-bit time without leading zeros
unfoldable pub is_time : List ℕ → Bool
is_time s = ltb 0 (length s) && not (has_leading_zero s) && is_number s

-- the number n if the test passes
abbrev pub number_if : Bool → ℕ → Option ℕ
number_if t n = cond t (Some n) None

-- n with one more digit, if c is a digit and the number stays below 2^64
unfoldable pub appended : ℕ → ℕ → Option ℕ
appended n c = number_if (is_digit c && ltb (n * 10 + (c - digit0)) (2 ^ 64)) (n * 10 + (c - digit0))

-- the time at the start of a text, up to the first space, and how many digits it has
unfoldable pub timed_of : List ℕ → Option (ℕ × ℕ)
timed_of text =
    let k = index_of space text in
    cond (ltb k (length text) && is_time (take k text)) (Some (decimal_of (take k text), k)) None
