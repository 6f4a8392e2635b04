-- Cells: the transmitter of one, and those that stay of a block.
--     used-bounds, identity-shown           a valid row has 8 to 21 bytes; the four before its STATUS and HASH
--     row_at, kept-first, kept-turn, kept-end     the loop over the cells of a block: a cell's row; its start, a turn, its end
use Rattle.std.specs.Bool.{MatchBool}
use Rattle.std.specs.List.{HoldsAt, AllWithin}
use Prim.Native.Nat.{ℕ, zero, suc, ◌+◌, ◌-◌, ◌≤◌, ◌<◌}
use native.Mathlib.Nat.{zero-add}
use native.Mathlib.Numerals.{add-one}
use native.Mathlib.Omega.{arith}
use mathlib.Core.Path.{◌≡◌, refl, sym, ap, ap₂, ◌∙◌}
use mathlib.Core.Bool.{Bool, true, false, cond, ◌||◌}
use mathlib.Core.List.{List, [], ◌∷◌, ◌++◌, map, flatten}
use lib.ListN.{length, get_or, take, drop, length-map}
use lib.Dec.{eqb}
use lib.Seq.{take_all, drop-drop}
use borrow.Author.Tests.{eqb-true, eq-eqb, ne_eqb}
use Rattle.base_lists.specs.Lists.{any, up_from}
use Rattle.base_lists.proofs.Tests.{all_get_d}
use Rattle.base_lists.proofs.UpFrom.{length-up_from, get_d_up_from}
use Rattle.radio_erp1.specs.Subtelegram.{min_length, check_of}
use Rattle.radio_erp1.proofs.Checks.{check_facts}
use Rattle.base_buffers.specs.Buffer.{part, resized}
use Rattle.block_layout.specs.BigEndian.{unbe}
use Rattle.block_layout.specs.Cell.{cell_length, cell_capacity, cell_used, cell_field, cell_bytes}
use Rattle.block_layout.specs.Block.{block_cell}
use Rattle.base_buffers.proofs.Segments.{part_length, part-take}
use Rattle.base_buffers.proofs.Buffer.{resized-length, resized_cut}
use Rattle.archive_model.specs.Row.{row_in, is_row}
use Rattle.archive_model.specs.Identity.{identity_of}
use Rattle.archive_repack_model.specs.Repack.{is_listed}
use Rattle.archive_file.specs.Private.{cells_from}
use Rattle.archive_repack.specs.Private.{are_rows, kept_cell, kept_from}

-- ---- one cell

used_is : (cell : List ℕ) → length (cell_bytes cell) ≡ cell_used cell
unfolding cell_bytes
used_is cell = resized-length (cell_used cell) (cell_field cell)

pub used_bounds : (cell : List ℕ) → is_row (row_in cell) ≡ true
    → (min_length ≤ cell_used cell) × (cell_used cell ≤ cell_capacity)
used_bounds cell v =
    let f = check_facts (cell_bytes cell) (eqb-true (check_of (cell_bytes cell)) 0 v) in
    (omega (arith, f.low, used_is cell), omega (arith, f.high, used_is cell))

pub identity-shown : (cell : List ℕ) (used : ℕ) → length cell ≡ cell_length
    → is_row (row_in cell) ≡ true → used ≡ cell_used cell
    → unbe (take 8 (part (9 + used - 6) (9 + used - 6 + 4 - (9 + used - 6)) cell)) ≡ identity_of (row_in cell)
unfolding cell_bytes
identity-shown cell used l v e =
    let b = used_bounds cell v in
    let four : 9 + used - 6 + 4 - (9 + used - 6) ≡ 4 = omega arith in
    let at : 9 + used - 6 ≡ 9 + (used - 6) = omega (arith, e, b.0) in
    let short : length (part (9 + used - 6) 4 cell) ≤ 8 =
    omega (arith, part_length (9 + used - 6) 4 cell (omega (arith, e, b.1, b.0))) in
    let field : length (cell_field cell) ≡ cell_capacity = part_length 9 cell_capacity cell (omega arith) in
    let shown : part (used - 6) 4 (resized used (cell_field cell)) ≡ part (9 + used - 6) 4 cell =
    ap (part (used - 6) 4) (resized_cut used (cell_field cell) (omega (arith, field, e, b.1)))
    ∙ part-take (used - 6) 4 used (cell_field cell) (omega (arith, e, b.0))
    ∙ part-take (used - 6) 4 cell_capacity (drop 9 cell) (omega (arith, e, b.0, b.1))
    ∙ ap (take 4) (drop-drop (used - 6) 9 cell)
    ∙ ap (λ (a : ℕ). part a 4 cell) (sym at) in
    let long : length (resized (cell_used cell) (cell_field cell)) ≡ used =
    resized-length (cell_used cell) (cell_field cell) ∙ sym e in
    ap (λ (n : ℕ). unbe (take 8 (part (9 + used - 6) n cell))) four
    ∙ ap unbe (take_all 8 (part (9 + used - 6) 4 cell) short ∙ sym shown)
    ∙ ap₂ (λ (n u : ℕ). unbe (part (n - 6) 4 (resized u (cell_field cell)))) (sym long) e

-- ---- the cells of a block

module _ (identities block : List ℕ) where
  abbrev at : ℕ → List ℕ
  at i = block_cell i block

  pub row_at : (n i : ℕ) → are_rows block n ≡ true → i < n → is_row (row_in (at i)) ≡ true
  unfolding cells_from
  row_at n i ok h =
      let cells = map at (up_from 0 n) in
      let long : length cells ≡ n = length-map (up_from 0 n) at ∙ length-up_from 0 n in
      ap (λ (c : List ℕ). is_row (row_in c)) (sym (get_d_up_from at 0 n i [] h ∙ ap at (zero-add i)))
      ∙ all_get_d (λ c. is_row (row_in c)) cells i [] ok (omega (arith, long))

  pub kept_first : (n : ℕ) → kept_from identities block 0 (n - 0) ≡ kept_from identities block 0 n
  kept_first n =
      let e : n - 0 ≡ n = omega arith in
      rw e

  pub kept-turn : (n i : ℕ) → i < n → kept_from identities block i (n - i) ≡ kept_cell identities (at i)
      ++ kept_from identities block (i + 1) (n - (i + 1))
  unfolding kept_from cells_from up_from flatten
  kept-turn n i h =
      let e : n - i ≡ suc (n - (i + 1)) = omega arith in
      rw (e, add-one)

  pub kept_end : (n i : ℕ) → n ≤ i → kept_from identities block i (n - i) ≡ []
  unfolding kept_from cells_from up_from flatten
  kept_end n i h =
      let e : n - i ≡ 0 = omega arith in
      rw e

-- a cell that stays, and one that does not
pub cell_listed : (identities cell : List ℕ) (b : Bool)
    → is_listed identities (row_in cell) ≡ b → kept_cell identities cell ≡ cond b [] cell
unfolding kept_cell
cell_listed identities cell b e = rw e

-- ---- the search in a list

module _ (x : ℕ) where
  any_at : (l : List ℕ) (k : ℕ) → k < length l → get_or l k 0 ≡ x → any (eqb x) l ≡ true
  any_at [] k h e = absurd (omega arith)
  any_at (y ∷ l) zero h e = rw (eq-eqb x y (sym e))
  any_at (y ∷ l) (suc k) h e = rw (any_at l k (omega arith) e) (go (eqb x y))
    where
      go : (b : Bool) → b || true ≡ true
      go true = refl
      go false = refl

  any_none : (l : List ℕ) → ((k : ℕ) → k < length l → get_or l k 0 ≡ x → ⊥) → any (eqb x) l ≡ false
  any_none [] h = refl
  any_none (y ∷ l) h =
      rw (ne_eqb x y (λ e. h 0 (omega arith) (sym e))) (any_none l (λ k b e. h (suc k) (omega arith) e))

  -- the answer of a search through a list
  pub any_is : (l : List ℕ) (r : Bool)
      → MatchBool r ((k : ℕ) × (k < length l) × HoldsAt (λ y. y ≡ x) l k)
      (AllWithin (λ y. y ≡ x → ⊥) l 0 (length l))
      → r ≡ any (eqb x) l
  any_is l true (k, h, e) = sym (any_at l k h (e 0))
  any_is l false none = sym (any_none l (λ k h. none k 0 (omega arith) h))
