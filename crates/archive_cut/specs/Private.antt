-- What the contracts of private functions say. No public contract cites these.
use Rattle.std.specs.Prelude.{ℕ, ◌+◌, ◌-◌, ◌*◌, List, [], ◌∷◌, ◌++◌}
use Rattle.base_lists.specs.Lists.{padded}
use Rattle.base_buffers.specs.Buffer.{part}
use Rattle.block_layout.specs.Cell.{cell_length}
use Rattle.block_layout.specs.Block.{header_length, body_length, sealed}

-- a block with the count m, its first m cells (a cell has the 32 bytes of a row), zeros after them, and the new CRC
unfoldable pub kept_rows : ℕ → List ℕ → List ℕ
kept_rows m block =
    sealed (padded body_length (part 0 4 block ++ (m ∷ []) ++ part 5 (header_length + cell_length * m - 5) block))
