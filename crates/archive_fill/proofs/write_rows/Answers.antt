-- `archive_fill::write_rows` meets its contract: a step for each part that is lent and each byte that is stored, and those between them stay.
use mathlib.Core.Path.{◌≡◌, refl, sym, ◌∙◌}
use mathlib.Core.List.{List, ◌++◌, map, flatten}
use Prim.Native.Nat.{ℕ, ◌+◌, ◌-◌, ◌*◌, ◌/◌, ◌%◌, ◌≤◌, ◌<◌}
use native.Mathlib.Omega.{arith}
use lib.ListN.{length, replicate}
use Rattle.base_buffers.specs.Buffer.{part}
use Rattle.base_buffers.proofs.Segments.{Writing, packed, begin, begun_length, within, lent, store, lend, lend_sized, skip}
use Rattle.block_layout.specs.BigEndian.{be}
use Rattle.block_layout.specs.Cell.{cell_length}
use Rattle.block_layout.specs.Block.{header_length, cells_per_block, body_length, sealed}
use Rattle.block_layout.proofs.Block.{seal_front}
use Rattle.archive_model.specs.Row.{row_cell, rows_header}
use Rattle.archive_fill.specs.Fill.{rows_given, put_rows}
use Rattle.archive_fill.specs.Private.{RowsReady}
use Rattle.archive_fill.proofs.Records.{rows-count}
use Rattle.archive_fill.proofs.Together.{together, put_together}
use Rattle.archive_fill.proofs.write_rows.Lts as lts
use Rattle.archive_fill.proofs.write_rows.Reads as reads
use Rattle.archive_fill.proofs.write_rows.Tie as tie
use Rattle.archive_fill.proofs.write_rows.Goals as goal

-- states on the way
abbrev Start : Type 0
Start = lts.Start tie.the-claims reads.Pre reads.Post

abbrev After-put_number : Type 0
After-put_number = lts.After-put_number tie.the-claims reads.Pre reads.Post

abbrev After-clear : Type 0
After-clear = lts.After-clear tie.the-claims reads.Pre reads.Post

abbrev After-put_cells : Type 0
After-put_cells = lts.After-put_cells tie.the-claims reads.Pre reads.Post

-- where the cells begin, and where they end
abbrev at : Start → ℕ
at s = header_length + cell_length * (s.args.n % cells_per_block)

abbrev end : Start → ℕ
end s = header_length + cell_length * (s.args.n % cells_per_block + length s.args.times.now)

abbrev numbered : After-put_number → Writing 5
numbered c =
    let a = c.args in
    packed
    (store
    (lend_sized (begin a.block.now) _ (λ w. be w (a.n / cells_per_block)) 4
    c.put_number.ensures c.put_number.auto.out
    (omega arith) (omega arith))
    (a.n % cells_per_block + length a.times.now)
    (omega arith))

abbrev headed : (c : After-clear) → (
    let c_back3 = c.before.before.before in
    let c_back6 = c_back3.before.before.before in
    Writing (at c_back6.before.before.before))
headed c =
    let c_back3 = c.before.before.before in
    let c_back6 = c_back3.before.before.before in
    packed
    (skip
    (lend_sized (numbered c_back3.before).begun _
    (λ w. replicate w 0) header_length c.clear.ensures c.clear.auto.out
    (omega arith) (omega arith))
    (at c_back6.before.before.before) (omega arith) (omega (arith, c.requires.few)))

abbrev celled : After-put_cells → Writing body_length
celled c =
    let c_back3 = c.before.before.before in
    let c_back6 = c_back3.before.before.before in
    let c_back9 = c_back6.before.before.before in
    let c_back12 = c_back9.before.before.before in
    packed
    (skip (lend (headed c_back3.before).begun _ _ (end c_back12.before) c.put_cells.ensures
    c.put_cells.auto.out (omega arith) (omega (arith, c.requires.few)))
    body_length (omega (arith, c.requires.few)) (omega arith))

pub put_cells-requires : goal.put_cells-requires
put_cells-requires c =
    let c_back3 = c.before.before.before in
    let c_back6 = c_back3.before.before.before in
    let c_back9 = c_back6.before.before.before in
    let c_back12 = c_back9.before.before.before in (
      lent (headed c_back3.before).begun _ (end c_back12.before) (omega arith)
          (omega (arith, c.requires.few)),
      c.requires.sized,
      c.requires.valid,
    )

put_is : (block : List ℕ) (n : ℕ) (times rows : List ℕ) → RowsReady block n times rows
    → (at end : ℕ) → at ≡ header_length + cell_length * (n % cells_per_block)
    → end ≡ header_length + cell_length * (n % cells_per_block + length times)
    → sealed
    (rows_header (n / cells_per_block) (n % cells_per_block + length times)
    ++ part header_length (at - header_length) block
    ++ flatten (map row_cell (rows_given times rows)) ++ part end (body_length - end) block)
    ≡ put_rows n (rows_given times rows) block
unfolding together
put_is block n times rows ready at end a e =
    let count = rows-count times rows in
    let w : at - header_length ≡ cell_length * (n % cells_per_block) = omega arith in
    let some : 0 < length (rows_given times rows) = omega (arith, count, ready.some) in
    let few : n % cells_per_block + length (rows_given times rows)
    ≤ cells_per_block = omega (arith, count, ready.few) in
    sym (put_together n (rows_given times rows) block ready.long some few ready.valid ∙ (rw (count, w, e)))

pub returns : goal.returns
returns c =
    let c_back3 = c.before.before.before in
    let c_back6 = c_back3.before.before.before in
    let c_back9 = c_back6.before.before.before in
    let c_back12 = c_back9.before.before.before in
    let c_back15 = c_back12.before.before.before in
    let c_back18 = c_back15.before.before.before in
    let a = c.args in
    c.seal.ensures ∙ seal_front _ (celled c_back6.before).begun c.requires.long
    ∙ put_is a.block.now a.n a.times.now a.rows.now c.requires (at c_back18.before.before)
    (end c_back18.before.before) refl refl

pub slice_bounds-clear-end : goal.slice_bounds-clear-end
slice_bounds-clear-end c = within (numbered c.before.before.before).begun header_length (omega arith)

pub slice_bounds-put_cells-end : goal.slice_bounds-put_cells-end
slice_bounds-put_cells-end c = within (headed c.before.before.before).begun _
    (omega (arith, c.requires.few))

pub shape_of-block : goal.shape_of-block
shape_of-block c =
    let c_back3 = c.before.before.before in
    let c_back6 = c_back3.before.before.before in
    c.seal.auto.block ∙ begun_length (celled c_back6.before).begun
