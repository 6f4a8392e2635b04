-- The parked collector (document 01): its image, the checkpoint that writes it and the restore that reads it.
use Rattle.std.specs.Prelude.{ℕ, ◌+◌, ◌*◌, ◌/◌, ◌%◌, Bool, cond, not, ◌&&◌, leb, ltb, eqb, length, drop}
use mathlib.Core.List.{List, [], ◌∷◌, ◌++◌, map, flatten}
use Rattle.base_lists.specs.Lists.{equal, up_from}
use Rattle.base_refusal.specs.Number.{number_of}
use Rattle.base_refusal.specs.declared.Refusal.TheVariants.{ShortOutput, NotAccepted}
use Rattle.radio_telegram.specs.Repeater.{max_setting}
use Rattle.base_buffers.specs.Buffer.{part}
use Rattle.block_layout.specs.Cell.{cell_of, cell_time, cell_bytes, cell_last}
use Rattle.collector_model.specs.Header.{header_of, header_used, header_first, header_second}
use Rattle.block_layout.specs.Block.{cells_per_block, block_length, block_of, block_header, block_cell}
use Rattle.collector_model.specs.declared.Totals.{Totals}
use Rattle.collector_model.specs.View.{Entry, View}
use Rattle.collector_model.specs.Acceptable.{acceptable}

-- ---- writing

-- "Five blocks of 512 bytes, 2,560 in all"
abbrev pub image_length : ℕ
image_length = 2560

-- "The last two bytes of a parked entry hold" the number of copies (document 02, A8)
abbrev pub entry_cell : Entry → List ℕ
entry_cell e = cell_of e.time e.bytes e.copies

-- "in opening order, each block filled before the next": the entries of block k
abbrev pub entries_of : ℕ → View → List Entry
entries_of k v = part (cells_per_block * k) cells_per_block v.entries

-- block k, with its two numbers
unfoldable pub image_block : ℕ → ℕ → ℕ → View → List ℕ
image_block k a b v = block_of (header_of k (length (entries_of k v)) a b) (map entry_cell (entries_of k v))

-- "block 0 latest accepted time, received; 1 kept, copies; 2 loose, damaged; 3 late, repeater setting; 4 zero, zero"
abbrev pub blocks_of : ℕ → View → List (List ℕ)
blocks_of setting v =
    image_block 0 v.latest v.totals.received v
    ∷ image_block 1 v.totals.kept v.totals.copies v
    ∷ image_block 2 v.totals.loose v.totals.damaged v
    ∷ image_block 3 v.totals.late setting v
    ∷ image_block 4 0 0 v
    ∷ []

-- the image with a number in the setting's place
unfoldable pub image_with : ℕ → View → List ℕ
image_with setting v = flatten (blocks_of setting v)

-- "its place in the parked image is zero" (document 02, A7)
abbrev pub image_of : View → List ℕ
image_of v = image_with 0 v

-- ---- reading

-- "block k fills bytes 512k to 512k + 511"
abbrev pub block_in : ℕ → List ℕ → List ℕ
block_in k image = part (block_length * k) block_length image

-- the number of entries used in block k
abbrev pub used_in_block : ℕ → List ℕ → ℕ
used_in_block k image = header_used (block_header (block_in k image))

-- the first number of block k
abbrev pub first_in : ℕ → List ℕ → ℕ
first_in k image = header_first (block_header (block_in k image))

-- the second number of block k
abbrev pub second_in : ℕ → List ℕ → ℕ
second_in k image = header_second (block_header (block_in k image))

-- the number in the setting's place
abbrev pub setting_in : List ℕ → ℕ
setting_in image = second_in 3 image

-- how many entries the five blocks say are used
abbrev pub count_in : List ℕ → ℕ
count_in image = used_in_block 0 image + used_in_block 1 image + used_in_block 2 image + used_in_block 3 image
    + used_in_block 4 image

-- an entry; of its number of copies, "any value there accepted"
abbrev pub cell_entry : List ℕ → Entry
cell_entry cell = record { bytes = cell_bytes cell; time = cell_time cell; copies = cell_last cell }

-- entry i, counted over all blocks
unfoldable pub entry_in : List ℕ → ℕ → Entry
entry_in image i = cell_entry (block_cell (i % cells_per_block) (block_in (i / cells_per_block) image))

-- the totals in an image
unfoldable pub totals_in : List ℕ → Totals
totals_in image = record {
  received = second_in 0 image;
  kept = first_in 1 image;
  copies = second_in 1 image;
  loose = first_in 2 image;
  damaged = second_in 2 image;
  late = first_in 3 image;
}

-- the view that an image gives; `accepts` tells whether the image has this layout
unfoldable pub parse : List ℕ → View
parse image = record {
  latest = first_in 0 image;
  totals = totals_in image;
  entries = map (entry_in image) (up_from 0 (count_in image));
}

-- "Reload accepts exactly a 2,560-byte image with this layout and right checks, where ..": byte for byte what a
-- checkpoint writes, or "an older image with 1 or 2 there" (document 02, A7). The view has no setting.
unfoldable pub accepts : List ℕ → Bool
accepts image =
    eqb (length image) image_length
    && (leb (setting_in image) max_setting
    && (acceptable (parse image)
    && equal (image_with (setting_in image) (parse image)) image))

-- ---- the calls, for every state: "a collector state from which no image that reload accepts could be parked gets 11
-- before all else"

-- the number, and every byte of the output after the call
pub record CheckpointResult : Type 0 where
  pub number : ℕ
  pub output : List ℕ

-- 11, then 6 for an output too short; else the image is at the front of the output, and the rest is unchanged
unfoldable pub checkpoint_of : View → List ℕ → CheckpointResult
checkpoint_of v output =
    cond (not (acceptable v)) (record { number = number_of NotAccepted; output = output })
    (cond (ltb (length output) image_length) (record { number = number_of ShortOutput; output = output })
    (record { number = 0; output = image_of v ++ drop image_length output }))

-- the number, and the state of the collector that is returned
pub record RestoreResult : Type 0 where
  pub number : ℕ
  pub next : View

-- "11: image or state not accepted; the collector stays as it was"
unfoldable pub restore_of : View → List ℕ → RestoreResult
restore_of v image =
    cond (not (acceptable v && accepts image)) (record { number = number_of NotAccepted; next = v })
    (record { number = 0; next = parse image })
