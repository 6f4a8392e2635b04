-- A text as the ASCII codes of its characters.
use Rattle.std.specs.Prelude.{List, [], ◌∷◌, ℕ, zero, suc, ◌+◌}
use Prim.Native.Char.{code}
use Prim.Native.String.{String, len, char_at}

-- n codes, from position i on
abbrev pub codes_from : String → ℕ → ℕ → List ℕ
codes_from s i zero = []
codes_from s i (suc n) = code (char_at s i) ∷ codes_from s (i + 1) n

-- the codes of a whole text
abbrev pub codes : String → List ℕ
codes s = codes_from s 0 (len s)
