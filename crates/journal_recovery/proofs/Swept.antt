-- The blocks of a run, which stay as they stand.
--     piece-blocks      the blocks of a piece of a file
--     run-bytes         the blocks that a run counts are those of its rows
--     swept             a file whose blocks behind them are cleared
--     scanned           what a scan counts of them
use Prim.Native.Nat.{ℕ, ◌+◌, ◌-◌, ◌*◌, ◌/◌, ◌%◌, ◌≤◌, ◌<◌}
use native.Mathlib.Nat.{zero-add, mod-eq_of_lt}
use native.Mathlib.Omega.{arith}
use mathlib.Core.Path.{◌≡◌, refl, sym, ap, ◌∙◌}
use mathlib.Core.Bool.{true, false}
use mathlib.Core.List.{List, [], ◌∷◌, ◌++◌, map, flatten}
use lib.ListN.{length, take, get_or}
use lib.Seq.{take-add}
use Rattle.base_lists.specs.Lists.{padded, up_from}
use Rattle.base_lists.proofs.UpFrom.{get_d_up_from, map-moved}
use Rattle.base_buffers.specs.Buffer.{part}
use Rattle.base_buffers.proofs.Segments.{part_length, Begun}
use Rattle.block_layout.specs.Block.{block_length}
use Rattle.archive_model.specs.Row.{Row, rows_block}
use Rattle.archive_model.specs.Buffer.{blocks_for, max_blocks, rows_at, blocks_in}
use Rattle.archive_model.specs.Append.{block_at}
use Rattle.archive_model.proofs.Buffers.{pieces}
use Rattle.journal_model.specs.Disk.{whole_blocks, blocks_on, blocks_from}
use Rattle.journal_model.proofs.Files.{part-part}
use Rattle.journal_model.proofs.Reading.{run_few}
use Rattle.journal_model.proofs.Start.{blocks-count}
use Rattle.journal_model.proofs.Untouched.{run-blocks}
use Rattle.journal_calls.specs.Run.{Run, start_run, run_blocks, is_run, run_at, run_numbers, RunCall, run_call}
use Rattle.journal_calls.proofs.Runs.{run_is, feed-done}
use Rattle.journal_calls.proofs.Claims.{run-counts}
use Rattle.journal_recovery.specs.Start.{with_whole}
use Rattle.journal_recovery.specs.Private.{run_rows, swept_at}

module _ (at : ℕ) (file : List ℕ) (inside : at ≤ whole_blocks file) where
  abbrev m : ℕ
  m = whole_blocks file

  abbrev piece : List ℕ
  piece = part (block_length * at) (block_length * m - block_length * at) file

  piece-long : length piece ≡ block_length * (m - at)
  piece-long = part_length (block_length * at) (block_length * m - block_length * at) file (omega arith) ∙ omega arith

  pub piece-blocks : blocks_in piece ≡ blocks_on at file
  unfolding blocks_in blocks_on
  piece-blocks =
      let n : length piece / block_length ≡ m - at = omega (arith, piece-long) in
      ap (λ (k : ℕ). map (λ i. part (block_length * i) block_length piece) (up_from 0 k)) n
      ∙ map-moved (λ i. part (block_length * i) block_length piece) (λ i. block_at i file) 0 at (m - at)
      (λ i h.
      let e : block_length * at + block_length * (0 + i) ≡ block_length * (at + i) = omega arith in
      part-part (block_length * (0 + i)) block_length (block_length * at) (block_length * m - block_length * at) file
      (omega arith)
      ∙ ap (λ (k : ℕ). part k block_length file) e)

  abbrev rows : List Row
  rows = run_rows at file

  abbrev b : ℕ
  b = blocks_for (length rows)

  pub run_inside : at + b ≤ m
  run_inside = omega (arith, run_few max_blocks (blocks_on at file) at, blocks-count at file)

  block_on : (q : ℕ) → q < m - at → get_or (blocks_on at file) q [] ≡ block_at (at + q) file
  unfolding blocks_on
  block_on q h = get_d_up_from (λ j. block_at j file) at (m - at) q [] h

  pub run-bytes : part (block_length * at) (block_length * b) file ≡ blocks_from max_blocks at rows
  unfolding blocks_from
  run-bytes =
      sym (pieces block_length file at b)
      ∙ ap flatten
      (map-moved (λ i. block_at i file) (λ j. rows_block ((at + j) % max_blocks) (rows_at j rows)) at 0 b
      (λ i h.
      let z = zero-add i in
      sym (block_on i (omega (arith, h, run_inside))) ∙ run-blocks max_blocks (blocks_on at file) at i h
      ∙ ap (λ (k : ℕ). rows_block ((at + k) % max_blocks) (rows_at k rows)) (sym z)))

  -- zeros from the end of the run to the last whole block
  pub swept : (end : ℕ) → end ≡ at + b → (after : List ℕ)
      → Begun file (padded (block_length * m) ([] ++ part 0 (block_length * end - 0) file)) (block_length * m) after
      → after ≡ swept_at at file
  unfolding swept_at
  swept end is after begun =
      let e : block_length * end - 0 ≡ block_length * at + block_length * b = omega (arith, is) in
      begun.is
      ∙ ap (λ (n : ℕ). with_whole (padded (block_length * m) (take n file)) file) e
      ∙ ap (λ (l : List ℕ). with_whole (padded (block_length * m) l) file)
      (take-add (block_length * at) (block_length * b) file
      ∙ ap (λ (l : List ℕ). take (block_length * at) file ++ l) run-bytes)

  -- ---- what the scan counts of them

  module _ (low : at < max_blocks) (few : m ≤ max_blocks) where
    abbrev numbers : List ℕ
    numbers = max_blocks ∷ at ∷ 0 ∷ 0 ∷ 0 ∷ []

    is_run_lem : is_run (run_at numbers) ≡ true
    is_run_lem = run_is (run_at numbers)
        (record {
          limited = omega arith;
          placed = low;
          few = omega arith;
          dense = omega arith;
          near = omega arith;
          full = λ z. omega arith;
        })

    abbrev end : Run
    end = run_blocks (run_at numbers) (blocks_in piece)

    end_is : end ≡ run_blocks (start_run max_blocks at) (blocks_on at file)
    end_is =
        ap (λ (k : ℕ). run_blocks (record { limit = max_blocks; place = k; blocks = 0; rows = 0; ended = false })
        (blocks_in piece)) (sym (mod-eq_of_lt low))
        ∙ ap (run_blocks (start_run max_blocks at)) piece-blocks

    scan_is : record { number = 0; numbers = run_numbers end } ≡ run_call numbers piece
    scan_is =
        let whole : length piece % block_length ≡ 0 = omega (arith, piece-long) in
        let most : 0 + length piece / block_length ≤ max_blocks = omega (arith, piece-long) in
        feed-done numbers piece is_run_lem whole most end refl

    pub record Scanned (l : List ℕ) : Type 0 where
      pub blocks : get_or l 2 0 ≡ b
      pub count : get_or l 3 0 ≡ length rows

    pub scanned : (r : RunCall) → r ≡ run_call numbers piece → Scanned r.numbers
    scanned r e =
        let l : r.numbers ≡ run_numbers end = ap (λ (c : RunCall). c.numbers) (e ∙ sym scan_is) in
        let counts = run-counts max_blocks at (blocks_on at file) in
        record {
          blocks = ap (λ (x : List ℕ). get_or x 2 0) l ∙ ap (λ (x : Run). x.blocks) end_is ∙ counts.1;
          count = ap (λ (x : List ℕ). get_or x 3 0) l ∙ ap (λ (x : Run). x.rows) end_is ∙ counts.0;
        }

    -- the scan is not refused, and its run ends within the file
    pub scan_done : (r : RunCall) → r ≡ run_call numbers piece → r.number ≡ 0
    scan_done r e = ap (λ (c : RunCall). c.number) (e ∙ sym scan_is)

    pub scan_end : (r : RunCall) → r ≡ run_call numbers piece → at + get_or r.numbers 2 0 ≤ m
    scan_end r e = omega (arith, (scanned r e).blocks, run_inside)
