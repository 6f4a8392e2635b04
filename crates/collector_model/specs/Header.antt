-- The first 24 bytes of a checkpoint's block (document 01, "Parked collector").
use Rattle.std.specs.Prelude.{List, [], ◌∷◌, ◌++◌, ℕ, get_or, replicate}
use Rattle.base_buffers.specs.Buffer.{part}
use Rattle.block_layout.specs.BigEndian.{be, unbe}

-- byte 0 is k; byte 1 the entries used; 2 to 7 zero; 8 to 15 and 16 to 23 two numbers
unfoldable pub header_of : ℕ → ℕ → ℕ → ℕ → List ℕ
header_of k used a b = (k ∷ used ∷ []) ++ replicate 6 0 ++ be 8 a ++ be 8 b

-- ---- what a header says

-- the number of entries used
abbrev pub header_used : List ℕ → ℕ
header_used header = get_or header 1 0

-- the first of the two numbers
abbrev pub header_first : List ℕ → ℕ
header_first header = unbe (part 8 8 header)

-- the second of the two numbers
abbrev pub header_second : List ℕ → ℕ
header_second header = unbe (part 16 8 header)
