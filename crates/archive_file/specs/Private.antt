-- What the contracts of private functions say. No public contract cites these.
use Rattle.std.specs.Prelude.{ℕ, ◌≡◌, Bool, cond, not, ◌&&◌, List, map, ltb, Result, ⊤}
use Rattle.base_lists.specs.Lists.{equal, up_from}
use Rattle.base_refusal.specs.Number.{number_of}
use Rattle.base_refusal.specs.declared.Refusal.{Refusal}
use Rattle.base_refusal.specs.declared.Refusal.TheVariants.{ShortOutput, Argument}
use Rattle.radio_erp1.specs.Subtelegram.{check_of, is_valid}
use Rattle.block_layout.specs.Block.{block_cell}
use Rattle.archive_model.specs.Row.{row_cell, row_in, row_count, is_row}
use Rattle.archive_model.specs.Append.{ReadRow, refused_append, no_row, cell_row}
use Rattle.archive_file.specs.Archive.{append_result}
use Rattle.archive_file.specs.declared.ArchiveError.{ArchiveError}

-- a row for which there is no block is refused: with the check's number if the row is not valid, else with 6
abbrev pub NoBlock : List ℕ → Result ⊤ ArchiveError → Type 0
NoBlock bytes r =
    (old : List ℕ)
    → append_result r old
    ≡ cond (not (is_valid bytes)) (refused_append (check_of bytes) 0 old) (refused_append (number_of ShortOutput) 0 old)

-- no row, and the reason
abbrev pub no_row_for : Refusal → ReadRow
no_row_for why = record { number = number_of why; row = no_row }

-- row i of a block; 10 if the block has no row i
abbrev pub row_in_block : List ℕ → ℕ → ReadRow
row_in_block block i =
    cond (ltb i (row_count block)) (cell_row (block_cell i block)) (no_row_for Argument)

-- a cell holds a valid row, and is byte for byte what is written for that row
abbrev pub is_written : List ℕ → Bool
is_written cell = is_row (row_in cell) && equal (row_cell (row_in cell)) cell

-- n cells of a block, from cell a on
unfoldable pub cells_from : List ℕ → ℕ → ℕ → List (List ℕ)
cells_from block a n = map (λ i. block_cell i block) (up_from a n)
