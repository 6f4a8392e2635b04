-- What the contracts of private functions of checkpoint and restore say. No public contract cites these.
use Rattle.std.specs.Prelude.{ℕ, ◌+◌, ◌-◌, ◌*◌, ◌/◌, ◌%◌, ◌≤◌, ◌<◌, ◌≡◌, Bool, ◌&&◌, leb, eqb, length, get_or, drop}
use mathlib.Core.List.{List, [], ◌++◌, map, flatten}
use Rattle.base_lists.specs.Lists.{equal, up_from}
use Rattle.radio_erp1.specs.Subtelegram.{max_length}
use Rattle.radio_telegram.specs.Repeater.{max_setting}
use Rattle.block_layout.specs.Cell.{cell_time, cell_used, cell_field, cell_last}
use Rattle.block_layout.specs.Block.{header_length, cells_per_block, body_length, block_cell}
use Rattle.collector_model.specs.View.{Entry, View, capacity, no_totals}
use Rattle.collector_model.specs.Acceptable.{acceptable}
use Rattle.collector_model.specs.Image.{image_length, image_with, image_block, block_in, setting_in, count_in, entry_in, parse}
use Rattle.collector_state.specs.declared.Collector.{Collector}
use Rattle.collector_state.specs.Collector.{Columns, entry_at, entries_at, columns_of, columns_holding, view_of}

abbrev pub block_count : ℕ
block_count = 5

-- the number of bytes of a block between its header and its CRC
abbrev pub cells_length : ℕ
cells_length = body_length - header_length

-- n entries from `first` on
unfoldable pub entries_from : Columns → ℕ → ℕ → List Entry
entries_from a first n = map (entry_at a) (up_from first n)

-- block k of an image, from the entries of a state and two numbers
abbrev pub block_with : ℕ → ℕ → ℕ → List Entry → List ℕ
block_with k a b entries = image_block k a b (record { latest = 0; totals = no_totals; entries = entries })

-- the arrays have n entries from `first` on, each short enough for a cell
pub record Writable (lens : List ℕ) (first n : ℕ) : Type 0 where
  pub bound : first + n ≤ capacity
  pub short : (i : ℕ) → i < n → get_or lens (first + i) 0 ≤ max_length

-- an image is byte for byte what is written for an acceptable state, with this number as the setting
abbrev pub is_image_of : ℕ → View → List ℕ → Bool
is_image_of setting v image = acceptable v && equal (image_with setting v) image

-- the length is right, the count of entries is one that a state can have, and the number in the setting's place is a
-- setting
abbrev pub is_readable : List ℕ → Bool
is_readable image = eqb (length image) image_length && (leb (count_in image) capacity && leb (setting_in image) max_setting)

-- the first n entries
abbrev pub entries_in : List ℕ → ℕ → List Entry
entries_in image n = map (entry_in image) (up_from 0 n)

-- the cell of entry i, counted over all blocks
abbrev pub cell_in : List ℕ → ℕ → List ℕ
cell_in image i = block_cell (i % cells_per_block) (block_in (i / cells_per_block) image)

-- the columns after the first n cells are read into them; the rest is unchanged
unfoldable pub columns_over : List ℕ → ℕ → Columns → Columns
columns_over image n a = record {
  times = map (λ i. cell_time (cell_in image i)) (up_from 0 n) ++ drop n a.times;
  lens = map (λ i. cell_used (cell_in image i)) (up_from 0 n) ++ drop n a.lens;
  bytes = flatten (map (λ i. cell_field (cell_in image i)) (up_from 0 n)) ++ drop (max_length * n) a.bytes;
  copies = map (λ i. cell_last (cell_in image i)) (up_from 0 n) ++ drop n a.copies;
}

-- the columns that an image gives, accepted or not: from its cells, with zeros after them
abbrev pub image_columns : List ℕ → Columns
image_columns image = columns_over image (count_in image) (columns_holding [])

-- the first n entries are read into columns: the entries, and every element
pub record Reads (image : List ℕ) (n : ℕ) (a a' : Columns) : Type 0 where
  pub entries : entries_at a' n ≡ entries_in image n
  pub elements : a' ≡ columns_over image n a

-- the state that an image gives
pub record Parses (image : List ℕ) (c : Collector) : Type 0 where
  pub state : view_of c ≡ parse image
  pub elements : columns_of c ≡ image_columns image
