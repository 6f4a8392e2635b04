-- A block of 512 bytes: a header of 24, fifteen cells of 32, zeros, and the CRC of all bytes before it (document 01,
-- "Parked collector"; in document 02, A2, with another header).
use mathlib.Core.List.{List, [], ◌∷◌, ◌++◌, flatten}
use Rattle.std.specs.Prelude.{ℕ, ◌+◌, ◌*◌, take}
use Rattle.base_lists.specs.Lists.{padded}
use Rattle.base_crc8.specs.Crc8.{crc_of}
use Rattle.base_buffers.specs.Buffer.{part, overwritten}
use Rattle.block_layout.specs.Cell.{cell_length}

abbrev pub header_length : ℕ
header_length = 24

abbrev pub cells_per_block : ℕ
cells_per_block = 15

-- the bytes before the CRC
abbrev pub body_length : ℕ
body_length = 511

abbrev pub block_length : ℕ
block_length = 512

-- bytes, and then their CRC
unfoldable pub sealed : List ℕ → List ℕ
sealed body = body ++ (crc_of body ∷ [])

-- a block of a header and the cells in use; the rest is zero
unfoldable pub block_of : List ℕ → List (List ℕ) → List ℕ
block_of header cells = sealed (padded body_length (header ++ flatten cells))

-- a block whose last byte is overwritten with the CRC of the others
unfoldable pub seal_block : List ℕ → List ℕ
seal_block block = overwritten block_length (sealed (take body_length block)) block

-- ---- reading a block

abbrev pub block_header : List ℕ → List ℕ
block_header block = part 0 header_length block

-- cell i, from 0
abbrev pub block_cell : ℕ → List ℕ → List ℕ
block_cell i block = part (header_length + cell_length * i) cell_length block
