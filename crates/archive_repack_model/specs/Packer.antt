-- The packer of salvage and removal (document 02, A9 and A11): rows that stay are packed "so that only the last block
-- is short" and renumbered from 0. It gets the whole archive at once, or in pieces.
use Rattle.std.specs.Prelude.{ℕ, ◌+◌, ◌-◌, ◌*◌, ◌/◌, ◌%◌, Bool, cond, not, ◌&&◌, ◌||◌, ltb, leb, eqb, length, take, drop}
use mathlib.Core.List.{List, [], ◌∷◌, ◌++◌, map, flatten}
use Rattle.base_lists.specs.Lists.{padded, up_from}
use Rattle.base_refusal.specs.Number.{number_of}
use Rattle.base_refusal.specs.declared.Refusal.TheVariants.{ShortOutput, Argument, NotAccepted, Size}
use Rattle.base_buffers.specs.Buffer.{part}
use Rattle.block_layout.specs.Cell.{cell_length}
use Rattle.block_layout.specs.Block.{cells_per_block, body_length, block_length, sealed}
use Rattle.archive_model.specs.Row.{Row, row_cell, rows_header}
use Rattle.archive_model.specs.Buffer.{max_rows}
use Rattle.archive_repack_model.specs.Repack.{sound_rows, dropped, fronted, max_identities, others}

-- how many blocks were packed, and the cells that wait for the next one, as bytes
pub record Packing : Type 0 where
  pub next : ℕ
  pub waiting : List ℕ

-- the packing before the first piece
abbrev pub start_packing : Packing
start_packing = record { next = 0; waiting = [] }

-- the length of 15 cells
abbrev pub full_length : ℕ
full_length = cell_length * cells_per_block

-- block k with these cells
unfoldable pub cells_block : ℕ → List ℕ → List ℕ
cells_block k cells = sealed (padded body_length (rows_header k (length cells / cell_length) ++ cells))

-- the blocks that cells fill; the first of them is block k
unfoldable pub full_blocks : ℕ → List ℕ → List ℕ
full_blocks k cells =
    flatten
    (map (λ j. cells_block (k + j) (part (full_length * j) full_length cells)) (up_from 0 (length cells / full_length)))

-- cells come after those that wait: the blocks that they fill together, and the packing after that
abbrev pub pushed_blocks : Packing → List ℕ → List ℕ
pushed_blocks p cells = full_blocks p.next (p.waiting ++ cells)

unfoldable pub pushed : Packing → List ℕ → Packing
pushed p cells = record {
  next = p.next + length (p.waiting ++ cells) / full_length;
  waiting = drop (full_length * (length (p.waiting ++ cells) / full_length)) (p.waiting ++ cells);
}

-- the last block, if cells wait
unfoldable pub waiting_block : Packing → List ℕ
waiting_block p = cond (eqb (length p.waiting) 0) [] (cells_block p.next p.waiting)

-- the cells of rows, as bytes
abbrev pub cells_of : List Row → List ℕ
cells_of rows = flatten (map row_cell rows)

-- the cells of the rows that stay, of one piece
unfoldable pub kept_cells : List ℕ → List ℕ → List ℕ
kept_cells identities piece = cells_of (others identities (sound_rows piece))

-- ---- the calls in pieces

-- the length of the buffer that is lent to a packer: for the cells that wait, and for the cells of one more block
abbrev pub pending_length : ℕ
pending_length = full_length + full_length

-- the packing in that buffer: the first `used` cells wait
abbrev pub packing : ℕ → ℕ → List ℕ → Packing
packing next used pending = record { next = next; waiting = take (cell_length * used) pending }

-- `full` full blocks and `used` cells have no more rows than an archive of 2^32 blocks
abbrev pub has_blocks : ℕ → ℕ → Bool
has_blocks full used = leb (cells_per_block * full + used) max_rows

-- the buffer has the right length, fewer than 15 cells wait, and there is a block number for them
unfoldable pub is_packing : ℕ → ℕ → List ℕ → Bool
is_packing next used pending =
    eqb (length pending) pending_length && (ltb used cells_per_block && has_blocks next used)

-- the result of a piece: the number, and how many blocks of it were dropped; then how many cells wait, how many blocks
-- were packed, and every byte of the packer's buffer; every byte of the output and every element of the list
pub record Packed : Type 0 where
  pub number : ℕ
  pub count : ℕ
  pub used : ℕ
  pub next : ℕ
  pub pending : List ℕ
  pub output : List ℕ
  pub positions : List ℕ

-- a refusal: everything is unchanged
abbrev pub kept_as : ℕ → ℕ → ℕ → List ℕ → List ℕ → List ℕ → Packed
kept_as number next used pending output positions = record {
  number = number;
  count = 0;
  used = used;
  next = next;
  pending = pending;
  output = output;
  positions = positions;
}

-- a packing in the packer's buffer: the cells that wait, and zeros after them
abbrev pub packed_as : ℕ → Packing → List ℕ → List ℕ → Packed
packed_as count p output positions = record {
  number = 0;
  count = count;
  used = length p.waiting / cell_length;
  next = p.next;
  pending = padded pending_length p.waiting;
  output = output;
  positions = positions;
}

-- a piece: 11 for a packing that no calls give; 16 for a piece that isn't whole blocks, or if its rows, with those
-- before, could need more than 2^32 blocks; 10 for more than 32 identities; 6 for an output shorter than the piece or a
-- list too short. Positions count from the first block of the piece.
unfoldable pub pack_of : ℕ → ℕ → List ℕ → List ℕ → List ℕ → List ℕ → List ℕ → Packed
pack_of next used pending piece identities output positions =
    cond (not (is_packing next used pending))
    (kept_as (number_of NotAccepted) next used pending output positions)
    (cond (not (eqb (length piece % block_length) 0 && has_blocks (next + length piece / block_length) used))
    (kept_as (number_of Size) next used pending output positions)
    (cond (ltb max_identities (length identities))
    (kept_as (number_of Argument) next used pending output positions)
    (cond (ltb (length output) (length piece) || ltb (length positions) (length (dropped piece)))
    (kept_as (number_of ShortOutput) next used pending output positions)
    (packed_as (length (dropped piece)) (pushed (packing next used pending) (kept_cells identities piece))
    (fronted (pushed_blocks (packing next used pending) (kept_cells identities piece)) output)
    (fronted (dropped piece) positions)))))

-- the number, the length of the last block, and every byte of the output after the call
pub record Finished : Type 0 where
  pub number : ℕ
  pub length : ℕ
  pub output : List ℕ

-- the end: 11; 6 for an output too short for the last block; else the length of the last block, 512 or 0
unfoldable pub finish_of : ℕ → ℕ → List ℕ → List ℕ → Finished
finish_of next used pending output =
    cond (not (is_packing next used pending)) (record { number = number_of NotAccepted; length = 0; output = output })
    (cond (ltb (length output) (length (waiting_block (packing next used pending))))
    (record { number = number_of ShortOutput; length = 0; output = output })
    (record {
      number = 0;
      length = length (waiting_block (packing next used pending));
      output = fronted (waiting_block (packing next used pending)) output;
    }))

-- ---- what several calls give together

-- what a call is lent, apart from the packer's buffer
pub record PackCall : Type 0 where
  pub piece : List ℕ
  pub output : List ℕ
  pub positions : List ℕ

-- after some calls: the packer; all blocks that were written; the positions of dropped blocks, counted from the first
-- piece; and all pieces that were taken
pub record PackRun : Type 0 where
  pub next : ℕ
  pub used : ℕ
  pub pending : List ℕ
  pub written : List ℕ
  pub dropped : List ℕ
  pub taken : List ℕ

-- before the first call
abbrev pub start_pack_run : List ℕ → PackRun
start_pack_run pending = record { next = 0; used = 0; pending = pending; written = []; dropped = []; taken = [] }

-- after a call for a piece, with its result a. If the result is 0, the call wrote as many blocks as `next` rose by.
abbrev pub ran : PackRun → List ℕ → Packed → PackRun
ran r piece a = record {
  next = a.next;
  used = a.used;
  pending = a.pending;
  written = r.written ++ cond (eqb a.number 0) (take (block_length * (a.next - r.next)) a.output) [];
  dropped = r.dropped ++ cond (eqb a.number 0)
      (map (λ k. length r.taken / block_length + k) (take a.count a.positions)) [];
  taken = r.taken ++ cond (eqb a.number 0) piece [];
}

-- after all calls
abbrev pub pack_all : List ℕ → PackRun → List PackCall → PackRun
pack_all identities r [] = r
pack_all identities r (c ∷ cs) =
    pack_all identities
    (ran r c.piece
    (pack_of r.next r.used r.pending c.piece identities c.output c.positions)) cs

-- the call that ends the run
abbrev pub finish_run : PackRun → List ℕ → Finished
finish_run r output = finish_of r.next r.used r.pending output
