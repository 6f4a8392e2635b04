-- What the contracts of private functions say.
use Rattle.std.specs.Prelude.{ℕ, ◌+◌, ◌*◌, ◌%◌, ◌≤◌, ◌<◌, ◌≡◌, Bool, true, ◌&&◌, List, ltb, eqb, length}
use Rattle.base_lists.specs.Lists.{all}
use Rattle.block_layout.specs.Block.{cells_per_block, block_length}
use Rattle.archive_model.specs.Row.{is_row}
use Rattle.archive_model.specs.Buffer.{max_rows}
use Rattle.archive_fill.specs.Fill.{row_length, rows_given}

-- the lengths of a block, of the times and of their records, and n, for which the answer is not 16
abbrev pub is_given : ℕ → ℕ → ℕ → ℕ → Bool
is_given block n times records = eqb block block_length && (ltb n max_rows && eqb records (row_length * times))

-- rows that can be put: at least one, all valid, and the block has room for them
pub record RowsReady (block : List ℕ) (n : ℕ) (times records : List ℕ) : Type 0 where
  pub long : length block ≡ block_length
  pub sized : length records ≡ row_length * length times
  pub some : 0 < length times
  pub few : n % cells_per_block + length times ≤ cells_per_block
  pub valid : all is_row (rows_given times records) ≡ true
