-- How many blocks read as an archive, counted in pieces: what is known after some of them.
use Rattle.std.specs.Prelude.{ℕ, ◌+◌, ◌*◌, ◌/◌, ◌%◌, Bool, true, false, cond, not, ◌&&◌, List, [], ◌∷◌, leb, ltb, eqb, length, get_or}
use Rattle.base_refusal.specs.Number.{number_of}
use Rattle.base_refusal.specs.declared.Refusal.TheVariants.{NotAccepted, Size}
use Rattle.block_layout.specs.Block.{cells_per_block, block_length}
use Rattle.archive_model.specs.Row.{block_number, row_count, is_sound}
use Rattle.archive_model.specs.Buffer.{max_blocks, blocks_in, is_short}
use Rattle.journal_calls.specs.declared.Run as declared

-- how many blocks a file has; the number that the next block must have; how many blocks were counted, and how many
-- rows; whether the run has ended, so that no further block belongs to it
pub record Run : Type 0 where
  pub limit : ℕ
  pub place : ℕ
  pub blocks : ℕ
  pub rows : ℕ
  pub ended : Bool

abbrev pub run_of : declared.Run → Run
run_of r = record { limit = r.limit; place = r.place; blocks = r.blocks; rows = r.rows; ended = r.ended }

-- the run before block k
abbrev pub start_run : (limit k : ℕ) → Run
start_run limit k = record { limit = limit; place = k % limit; blocks = 0; rows = 0; ended = false }

-- the run has ended
abbrev pub stopped : Run → Run
stopped r = record { limit = r.limit; place = r.place; blocks = r.blocks; rows = r.rows; ended = true }

-- the run after one more block, which is sound and has the right number
abbrev pub passed : Run → List ℕ → Run
passed r b = record {
  limit = r.limit;
  place = (r.place + 1) % r.limit;
  blocks = r.blocks + 1;
  rows = r.rows + row_count b;
  ended = is_short b;
}

-- the run after one more block: it ends if the block does not belong to it
unfoldable pub run_block : Run → List ℕ → Run
run_block r b =
    cond r.ended r (cond (is_sound b && eqb (block_number b) r.place) (passed r b) (stopped r))

-- the run after more blocks
unfoldable pub run_blocks : Run → List (List ℕ) → Run
run_blocks r [] = r
run_blocks r (b ∷ bs) = run_blocks (run_block r b) bs

-- ---- the call, on five numbers

-- the number of rows fits the number of blocks: all are full, or the run has ended and the last may be short
abbrev pub is_dense : (ended : Bool) (blocks rows : ℕ) → Bool
is_dense ended blocks rows =
    leb rows (cells_per_block * blocks)
    && cond ended (ltb (cells_per_block * blocks) (rows + cells_per_block)) (leb (cells_per_block * blocks) rows)

-- numbers that some blocks give: at most 2^32 blocks in a file, the next block's number below that, at most 2^32 blocks
-- counted, and a number of rows that they can have
unfoldable pub is_run : Run → Bool
is_run r =
    leb r.limit max_blocks
    && (ltb r.place r.limit
    && (leb r.blocks max_blocks
    && is_dense r.ended r.blocks r.rows))

-- the run in five numbers
abbrev pub run_at : List ℕ → Run
run_at numbers = record {
  limit = get_or numbers 0 0;
  place = get_or numbers 1 0;
  blocks = get_or numbers 2 0;
  rows = get_or numbers 3 0;
  ended = not (eqb (get_or numbers 4 0) 0);
}

-- the five numbers of a run
abbrev pub run_numbers : Run → List ℕ
run_numbers r = r.limit ∷ r.place ∷ r.blocks ∷ r.rows ∷ cond r.ended 1 0 ∷ []

-- the number, and every lent number after the call
pub record RunCall : Type 0 where
  pub number : ℕ
  pub numbers : List ℕ

-- 11 for numbers that no blocks give; 16 for a piece that isn't whole blocks, or if there are then more than 2^32
-- blocks
unfoldable pub run_call : List ℕ → List ℕ → RunCall
run_call numbers piece =
    let r = run_at numbers in
    cond (not (is_run r)) (record { number = number_of NotAccepted; numbers = numbers })
    (cond (not (eqb (length piece % block_length) 0 && leb (r.blocks + length piece / block_length) max_blocks))
    (record { number = number_of Size; numbers = numbers })
    (record { number = 0; numbers = run_numbers (run_blocks r (blocks_in piece)) }))
