-- Numbers as bytes of any width, the highest byte first (document 01, "Parked collector": numbers are big-endian).
use Rattle.std.specs.Prelude.{List, [], ◌∷◌, ◌++◌, ℕ, zero, suc, ◌+◌, ◌*◌, ◌/◌, ◌%◌, ◌<◌, get_or}

-- the low w bytes of n
unfoldable pub be : ℕ → ℕ → List ℕ
be zero n = []
be (suc w) n = be w (n / 256) ++ (n % 256 ∷ [])

-- the value of these bytes as a number, after bytes with the value `high`
unfoldable pub unbe_from : ℕ → List ℕ → ℕ
unbe_from high [] = high
unbe_from high (b ∷ bs) = unbe_from (high * 256 + b) bs

-- the value of these bytes as a number
unfoldable pub unbe : List ℕ → ℕ
unbe bs = unbe_from 0 bs

-- each number of a list is a byte
abbrev pub Bytes : List ℕ → Type 0
Bytes bs = (i : ℕ) → get_or bs i 0 < 256
