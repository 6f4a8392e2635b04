-- Cells: what is read of one that was written, where it fits.
--     cell-length                       a cell has 32 bytes
--     cell-time, cell-used, cell_field, cell-bytes, cell-last     what is read is what was written
--     cell-time-lt                      a time that is read fits 64 bits, whatever was written
--     put-fits, put-long, put_other     a cell put into 32 bytes; refused, as its bytes are too many, or the buffer has another length
use mathlib.Core.Path.{◌≡◌, ap, ap₂, ◌∙◌}
use mathlib.Core.List.{List, [], ◌∷◌, ◌++◌}
use Prim.Native.Nat.{ℕ, ◌^◌, ◌≤◌, ◌<◌}
use native.Mathlib.Omega.{arith}
use borrow.Author.Tests.{le-leb, lt-leb}
use lib.ListN.{length, length-append, get_or-append}
use lib.Seq.{get_or_at}
use Rattle.base_lists.specs.Lists.{padded}
use Rattle.base_buffers.specs.Buffer.{part, resized}
use Rattle.block_layout.specs.BigEndian.{be, unbe}
use Rattle.block_layout.specs.Cell.{cell_length, cell_capacity, cell_of, put_cell, cell_time, cell_used, cell_field, cell_bytes, cell_last}
use Rattle.base_buffers.proofs.Segments.{left, last, whole}
use Rattle.base_buffers.proofs.Buffer.{padded-length, resized-back, overwritten-fits, overwritten-not}
use Rattle.block_layout.proofs.BigEndian.{be-length, unbe-be, unbe-be_lt}

-- ---- putting

module _ (time : ℕ) (bytes : List ℕ) (last : ℕ) (old : List ℕ) where
  pub put-long : cell_capacity < length bytes → put_cell time bytes last old ≡ old
  unfolding put_cell
  put-long h = rw (lt-leb (length bytes) cell_capacity h)

  module _ (fits : length bytes ≤ cell_capacity) where
    pub put_other : (length old ≡ cell_length → ⊥) → put_cell time bytes last old ≡ old
    unfolding put_cell
    put_other h =
        rw (le-leb (length bytes) cell_capacity fits) (overwritten-not cell_length (cell_of time bytes last) old h)

    pub put-fits : length old ≡ cell_length → put_cell time bytes last old ≡ cell_of time bytes last
    unfolding put_cell
    put-fits h =
        rw (le-leb (length bytes) cell_capacity fits) (overwritten-fits cell_length (cell_of time bytes last) old h)

-- ---- reading

module _ (time : ℕ) (bytes : List ℕ) (end : ℕ) (fits : length bytes ≤ cell_capacity) where
  -- what stands before the bytes, and before the last two
  abbrev to_used : List ℕ
  to_used = be 8 time ++ (length bytes ∷ [])

  abbrev to_field : List ℕ
  to_field = to_used ++ padded cell_capacity bytes

  used-length : length to_used ≡ 9
  used-length = simp (length-append, be-length)

  field_length : length to_field ≡ 30
  field_length =
      length-append to_used (padded cell_capacity bytes)
      ∙ omega (arith, used-length, padded-length cell_capacity bytes fits)

  pub cell_length_lem : length (cell_of time bytes end) ≡ cell_length
  unfolding cell_of
  cell_length_lem = length-append to_field (be 2 end) ∙ omega (arith, field_length, be-length 2 end)

  time-bytes : part 0 8 (cell_of time bytes end) ≡ be 8 time
  unfolding cell_of
  time-bytes =
      left to_field (be 2 end) 30 0 8 field_length (omega arith)
      ∙ left to_used (padded cell_capacity bytes) 9 0 8 used-length (omega arith)
      ∙ left (be 8 time) (length bytes ∷ []) 8 0 8 (be-length 8 time) (omega arith)
      ∙ whole (be 8 time) 8 (be-length 8 time)

  pub cell_time_lem : time < 2 ^ 64 → cell_time (cell_of time bytes end) ≡ time
  cell_time_lem h = ap unbe time-bytes ∙ unbe-be 8 time h

  pub cell_time_lt : cell_time (cell_of time bytes end) < 2 ^ 64
  cell_time_lt = rw time-bytes (unbe-be_lt 8 time)

  pub cell_used_lem : cell_used (cell_of time bytes end) ≡ length bytes
  unfolding cell_of
  cell_used_lem =
      get_or-append to_field (be 2 end) 0 8 (omega (arith, field_length))
      ∙ get_or-append to_used (padded cell_capacity bytes) 0 8 (omega (arith, used-length))
      ∙ get_or_at (be 8 time) (length bytes) [] 0 8 (be-length 8 time)

  pub cell_field_lem : cell_field (cell_of time bytes end) ≡ padded cell_capacity bytes
  unfolding cell_of
  cell_field_lem =
      left to_field (be 2 end) 30 9 21 field_length (omega arith)
      ∙ last to_used (padded cell_capacity bytes) 9 21 used-length (padded-length cell_capacity bytes fits)

  pub cell_bytes_lem : cell_bytes (cell_of time bytes end) ≡ bytes
  unfolding cell_bytes
  cell_bytes_lem = ap₂ resized cell_used_lem cell_field_lem ∙ resized-back cell_capacity bytes fits

  pub cell_last_lem : end < 2 ^ 16 → cell_last (cell_of time bytes end) ≡ end
  unfolding cell_of
  cell_last_lem h = ap unbe (last to_field (be 2 end) 30 2 field_length (be-length 2 end)) ∙ unbe-be 2 end h
