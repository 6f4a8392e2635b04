-- What is proved of salvage and of removal (document 02, A9 and A11).
use Rattle.std.specs.Prelude.{ℕ, ◌+◌, ◌*◌, ◌/◌, ◌%◌, ◌≤◌, ◌<◌, ◌≡◌, true, ltb, eqb, length, take, drop}
use mathlib.Core.List.{List, [], ◌∷◌, ◌++◌, flatten, Memᴰ}
use Rattle.base_lists.specs.Lists.{all, count, pairwise}
use Rattle.block_layout.specs.Cell.{cell_length}
use Rattle.block_layout.specs.Block.{cells_per_block, block_length}
use Rattle.archive_model.specs.Row.{Row, is_row, is_sound, is_blank}
use Rattle.archive_model.specs.Buffer.{max_rows, blocks_for, blocks_in, rows_in, archive_of, buffer_of}
use Rattle.archive_model.specs.Append.{verdict, append_of, block_at}
use Rattle.archive_repack_model.specs.Repack.{sound_rows, is_dropped, dropped, salvage_of, max_identities, others, remove_of}
use Rattle.archive_repack_model.specs.Packer.{Packing, packing, pending_length, packed_as, PackCall, PackRun, start_pack_run, pack_all, finish_run}

-- ---- salvage

-- what salvage wrote: the output up to the length of the buffer
abbrev pub salvaged_front : List ℕ → List ℕ → List ℕ → List ℕ
salvaged_front buffer output positions = take (length buffer) (salvage_of buffer output positions).output

-- Rows kept: "Rows are kept in order, none altered, none made up". The output is an archive.
abbrev pub RowsKept : Type 0
RowsKept =
    (buffer output positions : List ℕ) → (salvage_of buffer output positions).number ≡ 0
    → ((verdict (salvaged_front buffer output positions)).number ≡ 0)
    × (rows_in (salvaged_front buffer output positions) ≡ sound_rows buffer)

-- Accounted: each block is kept, dropped or all zero, and only one of these. The list is in rising order. It has
-- exactly the positions of the dropped blocks.
pub record Accounted (buffer : List ℕ) : Type 0 where
  pub blocks :
      count is_sound (blocks_in buffer) + length (dropped buffer) + count is_blank (blocks_in buffer)
      ≡ length buffer / block_length
  pub rising : pairwise ltb (dropped buffer) ≡ true
  pub listed : (k : ℕ) → Memᴰ k (dropped buffer)
      → (k < length buffer / block_length) × (is_dropped (block_at k buffer) ≡ true)
  pub every : (k : ℕ) → k < length buffer / block_length → is_dropped (block_at k buffer) ≡ true
      → Memᴰ k (dropped buffer)

-- Intact: "an intact archive comes back unchanged, with 0 dropped". The length of the list does not matter.
abbrev pub Intact : Type 0
Intact =
    (buffer output positions : List ℕ) → (verdict buffer).number ≡ 0 → length buffer ≤ length output
    → salvage_of buffer output positions
    ≡ record {
      number = 0;
      count = 0;
      rows = length (rows_in buffer);
      output = buffer ++ drop (length buffer) output;
      positions = positions;
    }

-- Again: salvage of what salvage wrote gives the same bytes, with 0 dropped.
abbrev pub SalvagedAgain : Type 0
SalvagedAgain =
    (buffer output positions output2 positions2 : List ℕ) → (salvage_of buffer output positions).number ≡ 0
    → length buffer ≤ length output2
    → salvage_of (salvaged_front buffer output positions) output2 positions2
    ≡ record {
      number = 0;
      count = 0;
      rows = (salvage_of buffer output positions).rows;
      output = salvaged_front buffer output positions ++ drop (length buffer) output2;
      positions = positions2;
    }

-- Untouched: the output and the list keep their lengths, and nothing after the written part changes. After a refusal
-- nothing at all is changed.
pub record Untouched (buffer output positions : List ℕ) : Type 0 where
  pub output_length : length (salvage_of buffer output positions).output ≡ length output
  pub list_length : length (salvage_of buffer output positions).positions ≡ length positions
  pub output_past : drop (length buffer) (salvage_of buffer output positions).output ≡ drop (length buffer) output
  pub list_past :
      drop (salvage_of buffer output positions).count (salvage_of buffer output positions).positions
      ≡ drop (salvage_of buffer output positions).count positions
  pub refused :
      ((salvage_of buffer output positions).number ≡ 0 → ⊥)
      → ((salvage_of buffer output positions).output ≡ output)
      × ((salvage_of buffer output positions).positions ≡ positions)

-- ---- removal

-- Other rows remain: the other rows in order, in an archive of the same length.
abbrev pub OtherRowsRemain : Type 0
OtherRowsRemain =
    (buffer identities : List ℕ) → (remove_of buffer identities).number ≡ 0
    → ((verdict (remove_of buffer identities).buffer).number ≡ 0)
    × (rows_in (remove_of buffer identities).buffer ≡ others identities (rows_in buffer))
    × (length (remove_of buffer identities).buffer ≡ length buffer)

-- Again: "A second run with the same list changes nothing", and frees nothing.
abbrev pub RemovedAgain : Type 0
RemovedAgain =
    (buffer identities : List ℕ) → (remove_of buffer identities).number ≡ 0
    → remove_of (remove_of buffer identities).buffer identities
    ≡ record { number = 0; position = 0; freed = 0; buffer = (remove_of buffer identities).buffer }

-- Freed: "Blocks no longer needed are zero filled and their number reported": the blocks that are all zero now and were
-- not before.
abbrev pub Freed : Type 0
Freed =
    (buffer identities : List ℕ) → (remove_of buffer identities).number ≡ 0
    → ((remove_of buffer identities).freed + count is_blank (blocks_in buffer)
    ≡ count is_blank (blocks_in (remove_of buffer identities).buffer))
    × ((k : ℕ) → blocks_for (length (others identities (rows_in buffer))) ≤ k → k < length buffer / block_length
    → is_blank (block_at k (remove_of buffer identities).buffer) ≡ true)

-- Then append: "later appends use them once the last block is full", until every block is full.
abbrev pub ThenAppend : Type 0
ThenAppend =
    (buffer identities : List ℕ) (r : Row) → (remove_of buffer identities).number ≡ 0 → is_row r ≡ true
    → length (others identities (rows_in buffer)) < cells_per_block * (length buffer / block_length)
    → append_of (remove_of buffer identities).buffer r
    ≡ record {
      number = 0;
      position = 0;
      buffer = buffer_of (length buffer) (others identities (rows_in buffer) ++ (r ∷ []));
    }

-- Both lists: a removal by one list and then by another leaves the buffer that one removal by both lists leaves.
abbrev pub BothLists : Type 0
BothLists =
    (buffer xs ys : List ℕ) → (verdict buffer).number ≡ 0 → length (xs ++ ys) ≤ max_identities
    → (remove_of (remove_of buffer xs).buffer ys).buffer ≡ (remove_of buffer (xs ++ ys)).buffer

-- ---- the packer

-- after calls, and the call that ends them. The end is answered 0. All blocks written are the archive of the rows that
-- stay, of the pieces that were taken. An archive of 2^32 blocks has room for these rows. The positions are those of
-- the dropped blocks.
pub record PackedWhole (identities : List ℕ) (r : PackRun) (output : List ℕ) : Type 0 where
  pub ended : (finish_run r output).number ≡ 0
  pub blocks :
      r.written ++ take (finish_run r output).length (finish_run r output).output
      ≡ archive_of (others identities (sound_rows r.taken))
  pub few : length (others identities (sound_rows r.taken)) ≤ max_rows
  pub positions : r.dropped ≡ dropped r.taken

-- Pieces are packed: so it is after any calls with pieces, also with refused calls among them.
abbrev pub PiecesPacked : Type 0
PiecesPacked =
    (identities pending output : List ℕ) (calls : List PackCall) → length pending ≡ pending_length
    → block_length ≤ length output → PackedWhole identities (pack_all identities (start_pack_run pending) calls) output

-- Packing held: the buffer that is lent to a packer holds its packing after a piece, and the next piece reads it there.
abbrev pub PackingHeld : Type 0
PackingHeld =
    (count : ℕ) (p : Packing) (output positions : List ℕ) → length p.waiting % cell_length ≡ 0
    → packing (packed_as count p output positions).next (packed_as count p output positions).used
    (packed_as count p output positions).pending
    ≡ p
