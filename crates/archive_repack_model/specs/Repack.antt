-- Salvage (document 02, A9) and the removal of identities (A11).
use Rattle.std.specs.Prelude.{ℕ, ◌-◌, ◌/◌, Bool, cond, not, ◌||◌, ltb, eqb, length, drop}
use mathlib.Core.List.{List, ◌++◌, map, flatten}
use Rattle.base_lists.specs.Lists.{keep, any, up_from}
use Rattle.base_refusal.specs.Number.{number_of}
use Rattle.base_refusal.specs.declared.Refusal.TheVariants.{ShortOutput, Argument, Size}
use Rattle.block_layout.specs.Block.{block_length}
use Rattle.archive_model.specs.Row.{Row, rows_of, is_sound, is_blank}
use Rattle.archive_model.specs.Buffer.{is_whole, blocks_in, blocks_for, rows_in, buffer_of}
use Rattle.archive_model.specs.Append.{verdict, block_at}
use Rattle.archive_model.specs.Identity.{identity_of}

-- ---- salvage

-- the rows of the blocks that are kept: those "whose layout, rows and check are right apart from its number"
unfoldable pub sound_rows : List ℕ → List Row
sound_rows buffer = flatten (map rows_of (keep is_sound (blocks_in buffer)))

-- "An all-zero block is empty and not counted as dropped"
abbrev pub is_dropped : List ℕ → Bool
is_dropped block = not (is_sound block || is_blank block)

-- "in order, the positions of the dropped blocks"
unfoldable pub dropped : List ℕ → List ℕ
dropped buffer = keep (λ k. is_dropped (block_at k buffer)) (up_from 0 (length buffer / block_length))

-- the number, how many blocks were dropped, how many rows remain, and every byte and element of output and list
pub record Salvaged : Type 0 where
  pub number : ℕ
  pub count : ℕ
  pub rows : ℕ
  pub output : List ℕ
  pub positions : List ℕ

-- a list whose front is overwritten with xs
abbrev pub fronted : List ℕ → List ℕ → List ℕ
fronted xs old = xs ++ drop (length xs) old

-- 16; 6 "for output shorter than the room or a list too short for the positions"; else the rows are at the front of the
-- output, with zeros up to the length of the buffer, and the positions are at the front of the list
unfoldable pub salvage_of : List ℕ → List ℕ → List ℕ → Salvaged
salvage_of buffer output positions =
    cond (not (is_whole (length buffer)))
    (record { number = number_of Size; count = 0; rows = 0; output = output; positions = positions })
    (cond (ltb (length output) (length buffer) || ltb (length positions) (length (dropped buffer)))
    (record { number = number_of ShortOutput; count = 0; rows = 0; output = output; positions = positions })
    (record {
      number = 0;
      count = length (dropped buffer);
      rows = length (sound_rows buffer);
      output = fronted (buffer_of (length buffer) (sound_rows buffer)) output;
      positions = fronted (dropped buffer) positions;
    }))

-- ---- removal

-- "up to 32 transmitter identities"
abbrev pub max_identities : ℕ
max_identities = 32

-- the transmitter of a row is in the list
abbrev pub is_listed : List ℕ → Row → Bool
is_listed identities r = any (eqb (identity_of r)) identities

-- "the others in order"
abbrev pub others : List ℕ → List Row → List Row
others identities rows = keep (λ r. not (is_listed identities r)) rows

-- the number, the position that goes with 12, how many blocks were freed, and every byte of the buffer
pub record Removed : Type 0 where
  pub number : ℕ
  pub position : ℕ
  pub freed : ℕ
  pub buffer : List ℕ

-- 16 and 12 as `verdict` says, 10 for more than 32 identities; else the other rows in the same buffer, and the number
-- of blocks that are no longer needed
unfoldable pub remove_of : List ℕ → List ℕ → Removed
remove_of buffer identities =
    cond (not (eqb (verdict buffer).number 0))
    (record { number = (verdict buffer).number; position = (verdict buffer).position; freed = 0; buffer = buffer })
    (cond (ltb max_identities (length identities))
    (record { number = number_of Argument; position = 0; freed = 0; buffer = buffer })
    (record {
      number = 0;
      position = 0;
      freed = blocks_for (length (rows_in buffer)) - blocks_for (length (others identities (rows_in buffer)));
      buffer = buffer_of (length buffer) (others identities (rows_in buffer));
    }))
