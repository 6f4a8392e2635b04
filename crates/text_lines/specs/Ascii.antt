-- The characters in the lines of `collect`, by their ASCII codes.
use Rattle.std.specs.Prelude.{ℕ, ◌+◌, Bool, ◌&&◌, leb, ltb}

abbrev pub newline : ℕ
newline = 10

abbrev pub space : ℕ
space = 32

-- the characters 0, A and a; the other digits and letters follow in order
abbrev pub digit0 : ℕ
digit0 = 48

abbrev pub upper_a : ℕ
upper_a = 65

abbrev pub lower_a : ℕ
lower_a = 97

-- c is one of the n characters from `first` on
abbrev pub is_among : ℕ → ℕ → ℕ → Bool
is_among n first c = leb first c && ltb c (first + n)
