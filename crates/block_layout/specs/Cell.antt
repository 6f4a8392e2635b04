-- The 32 bytes of an entry (document 01, "Parked collector"), which rows of an archive share (document 02, A2).
use Rattle.std.specs.Prelude.{cond, List, [], ◌∷◌, ◌++◌, ℕ, leb, length, get_or}
use Rattle.base_lists.specs.Lists.{padded}
use Rattle.radio_erp1.specs.Subtelegram.{max_length}
use Rattle.base_buffers.specs.Buffer.{part, resized, overwritten}
use Rattle.block_layout.specs.BigEndian.{be, unbe}

abbrev pub cell_length : ℕ
cell_length = 32

-- the largest number of bytes in a cell: the length of the longest subtelegram
abbrev pub cell_capacity : ℕ
cell_capacity = max_length

-- time opened (8 bytes), length (1), bytes as first received (21, zero filled), and the last two bytes, which are zero
-- in document 01 and used by document 02, A2 and A8
unfoldable pub cell_of : ℕ → List ℕ → ℕ → List ℕ
cell_of time bytes last = be 8 time ++ (length bytes ∷ []) ++ padded cell_capacity bytes ++ be 2 last

-- a buffer after a cell is written over it; it is unchanged if the bytes are too long for a cell
unfoldable pub put_cell : ℕ → List ℕ → ℕ → List ℕ → List ℕ
put_cell time bytes last old =
    cond (leb (length bytes) cell_capacity) (overwritten cell_length (cell_of time bytes last) old) old

-- ---- reading a cell

-- the time opened
abbrev pub cell_time : List ℕ → ℕ
cell_time cell = unbe (part 0 8 cell)

-- the length byte
abbrev pub cell_used : List ℕ → ℕ
cell_used cell = get_or cell 8 0

-- the 21 bytes, including the zeros
abbrev pub cell_field : List ℕ → List ℕ
cell_field cell = part 9 cell_capacity cell

-- as many bytes as the length byte says. A length over 21 gives a list of that length, so a reader can refuse it.
unfoldable pub cell_bytes : List ℕ → List ℕ
cell_bytes cell = resized (cell_used cell) (cell_field cell)

-- the last two bytes, as a number
abbrev pub cell_last : List ℕ → ℕ
cell_last cell = unbe (part 30 2 cell)
