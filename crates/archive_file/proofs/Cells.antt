-- A cell, as the code reads it.
--     used-is, bytes-shown, long-row     the bytes that a cell shows; one that says too many holds no row
--     answer_valid                       a check of valid bytes answers `Ok`
--     Left, left_first, left_next, left_none     the cells of a block that are left in a loop; its start, a turn, its end
use Rattle.std.specs.Prelude.{Result, Ok, Err, ⊤}
use Rattle.std.specs.Result.{is_ok}
use borrow.Author.Tests.{eq-eqb}
use Rattle.std.proofs.lemmas.List.{drop-take}
use Rattle.base_refusal.specs.Number.{outcome_number}
use Rattle.base_refusal.specs.declared.Refusal.{Refusal}
use Rattle.radio_erp1.specs.Subtelegram.{check_of, is_valid}
use Prim.Native.Nat.{ℕ, ◌+◌, ◌-◌, ◌*◌, ◌≤◌, ◌<◌}
use native.Mathlib.Omega.{arith}
use mathlib.Core.Path.{◌≡◌, sym, ap, ◌∙◌}
use mathlib.Core.Bool.{false}
use mathlib.Core.List.{List, ◌++◌}
use lib.ListN.{length, take, drop, length-append}
use lib.Seq.{take_at, drop_at, take-take, drop-drop}
use Rattle.radio_erp1.proofs.Checks.{check-long, not_valid}
use Rattle.base_refusal.specs.declared.Refusal.TheVariants.{Length}
use Rattle.base_buffers.specs.Buffer.{part}
use Rattle.block_layout.specs.Block.{header_length, cells_per_block, block_length, block_cell}
use Rattle.block_layout.specs.Cell.{cell_length, cell_capacity, cell_used, cell_field, cell_bytes}
use Rattle.base_buffers.proofs.Segments.{part_length}
use Rattle.base_buffers.proofs.Buffer.{resized-length, resized_cut}
use Rattle.archive_model.specs.Row.{row_in, is_row}

pub used_is : (cell : List ℕ) → length (cell_bytes cell) ≡ cell_used cell
unfolding cell_bytes
used_is cell = resized-length (cell_used cell) (cell_field cell)

pub bytes-shown : (cell : List ℕ) (len : ℕ) → length cell ≡ cell_length
    → len ≡ cell_used cell → len ≤ cell_capacity → part 9 (9 + len - 9) cell ≡ cell_bytes cell
unfolding cell_bytes
bytes-shown cell len l e h =
    let k : 9 + len - 9 ≡ len = omega arith in
    rw (k, ← e)
    (sym (take-take len cell_capacity _ h)
    ∙ sym (resized_cut len (cell_field cell) (omega (arith, part_length 9 cell_capacity cell (omega arith)))))

pub long-row : (cell : List ℕ) → cell_capacity < cell_used cell → false ≡ is_row (row_in cell)
long-row cell h = sym (not_valid (cell_bytes cell) Length (check-long (cell_bytes cell) (omega (arith, used_is cell))))

-- a check that is answered with `Ok` is one of valid bytes
pub answer_valid : (s : List ℕ) (r : Result ⊤ Refusal) → outcome_number r ≡ check_of s → is_ok r ≡ is_valid s
answer_valid s (Ok tt) e = sym (eq-eqb (check_of s) 0 (sym e))
answer_valid s (Err why) e = sym (not_valid s why e)

-- ---- a loop over the first cells of a block

-- what is left from cell i on, of the first `used` cells
pub record Left (block : List ℕ) (used size : ℕ) (left : List ℕ) (i : ℕ) : Type 0 where
  pub sized : size ≡ cell_length
  pub bounded : i ≤ used
  pub few : used ≤ cells_per_block
  pub long : length block ≡ block_length
  pub are : left ≡ part (header_length + cell_length * i) (cell_length * (used - i)) block

pub left_first : (block left : List ℕ) (used size : ℕ) → size ≡ cell_length → used ≤ cells_per_block
    → length block ≡ block_length
    → left ≡ part header_length (header_length + cell_length * used - header_length) block
    → Left block used size left 0
left_first block left used size s f l e = record {
  sized = s;
  bounded = omega arith;
  few = f;
  long = l;
  are =
      let n : header_length + cell_length * used - header_length ≡ cell_length * (used - 0) = omega arith in
      e ∙ ap (λ (w : ℕ). part header_length w block) n;
}

module _ (block all : List ℕ) (used size i : ℕ) (left : Left block used size all i) where
  left_length : length all ≡ cell_length * (used - i)
  left_length =
      ap length left.are
      ∙ part_length (header_length + cell_length * i) (cell_length * (used - i)) block
      (omega (arith, left.bounded, left.few, left.long))

  pub left_none : length all < size → used ≤ i
  left_none h = omega (arith, left_length, left.sized)

  module _ (cell rest : List ℕ) (e : all ≡ cell ++ rest) (c : length cell ≡ size) where
    pub left_some : i < used
    left_some = omega (arith, left_length, ap length e, length-append cell rest, c, left.sized)

    more : cell_length ≤ cell_length * (used - i)
    more = omega (arith, left_some)

    cell_long : length cell ≡ cell_length
    cell_long = c ∙ left.sized

    pub left_cell : cell ≡ block_cell i block
    left_cell =
        sym (take_at cell rest cell_length cell_long)
        ∙ ap (take cell_length) (sym e ∙ left.are)
        ∙ take-take cell_length (cell_length * (used - i)) (drop (header_length + cell_length * i) block) more

    one_more : cell_length * (used - i) ≡ cell_length + cell_length * (used - (i + 1))
    one_more = omega (arith, left_some)

    next : header_length + cell_length * i + cell_length ≡ header_length + cell_length * (i + 1)
    next = omega arith

    pub left_next : (size' : ℕ) → size' ≡ size → Left block used size' rest (i + 1)
    left_next size' s = record {
      sized = s ∙ left.sized;
      bounded = omega (arith, left_some);
      few = left.few;
      long = left.long;
      are =
          sym (drop_at cell rest cell_length cell_long)
          ∙ ap (drop cell_length) (sym e ∙ left.are)
          ∙ ap (λ (n : ℕ). drop cell_length (part (header_length + cell_length * i) n block)) one_more
          ∙ drop-take cell_length (cell_length * (used - (i + 1))) (drop (header_length + cell_length * i) block)
          ∙ ap (take (cell_length * (used - (i + 1))))
          (drop-drop cell_length (header_length + cell_length * i) block
          ∙ ap (λ (a : ℕ). drop a block) next);
    }
