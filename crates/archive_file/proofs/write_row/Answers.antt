-- `archive_file::write_row` meets its contract: a step for each part that is lent, and those between them stay.
use mathlib.Core.Path.{◌≡◌, refl, ◌∙◌}
use mathlib.Core.Bool.{Bool}
use mathlib.Core.List.{List, ◌++◌}
use Prim.Native.Nat.{ℕ, ◌+◌, ◌-◌, ◌*◌, ◌/◌, ◌%◌}
use native.Mathlib.Omega.{arith}
use Rattle.block_layout.specs.Cell.{cell_length, cell_of}
use Rattle.block_layout.specs.Block.{header_length, cells_per_block, body_length, sealed}
use Rattle.base_buffers.specs.Buffer.{part}
use Rattle.base_buffers.proofs.Segments.{Writing, packed, begin, lend, lent, skip}
use Rattle.block_layout.proofs.Cell.{put-fits}
use Rattle.block_layout.proofs.Block.{seal_front}
use Rattle.archive_model.specs.Row.{row_last, rows_header}
use Rattle.archive_model.specs.Append.{put_row}
use Rattle.archive_file.specs.Archive.{row_of}
use Rattle.archive_file.proofs.write_row.Lts as lts
use Rattle.archive_file.proofs.write_row.Reads as reads
use Rattle.archive_file.proofs.write_row.Tie as tie
use Rattle.archive_file.proofs.write_row.Goals as goal

-- states on the way
abbrev After-put_head : Type 0
After-put_head = lts.After-put_head tie.the-claims reads.Pre reads.Post

abbrev After-put_cell : Type 0
After-put_cell = lts.After-put_cell tie.the-claims reads.Pre reads.Post

-- where the row's cell stands
abbrev at : ℕ → ℕ
at n = header_length + cell_length * (n % cells_per_block)

abbrev headed : (c : After-put_head) → Writing (at c.args.n)
headed c =
    let a = c.args in
    packed
    (skip (lend (begin a.block.now) _ _ header_length c.put_head.ensures
    c.put_head.auto.out (omega arith) (omega arith))
    (at a.n) (omega arith) (omega arith))

abbrev celled : After-put_cell → Writing body_length
celled c =
    let c_back3 = c.before.before.before in
    let a = c.args in
    let b = (headed c_back3.before.before).begun in
    packed
    (skip
    (lend b _ (cell_of a.time a.bytes.now c.last_of.result) (at a.n + cell_length)
    (c.put_cell.ensures
    ∙ put-fits a.time a.bytes.now c.last_of.result _
    c.requires.1 (lent b cell_length (at a.n + cell_length) refl (omega arith)))
    c.put_cell.auto.out (omega arith) (omega arith))
    body_length (omega arith) (omega arith))

put_is : (block : List ℕ) (n : ℕ) (bytes : List ℕ) (time : ℕ) (loose : Bool) (last : ℕ) → last ≡ row_last loose
    → sealed
    (rows_header (n / cells_per_block) (n % cells_per_block + 1)
    ++ part header_length (at n - header_length) block ++ cell_of time bytes last
    ++ part (at n + cell_length) (body_length - (at n + cell_length)) block)
    ≡ put_row n (row_of bytes time loose) block
unfolding put_row
put_is block n bytes time loose last e =
    let d : at n - header_length ≡ cell_length * (n % cells_per_block) = omega arith in
    let f : at n + cell_length ≡ header_length + cell_length * (n % cells_per_block + 1) = omega arith in
    rw (d, f, e)

pub returns : goal.returns
returns c =
    let c_back3 = c.before.before.before in
    let c_back6 = c_back3.before.before.before in
    let a = c.args in
    c.seal.ensures ∙ seal_front _ (celled c_back6.before).begun c.requires.0
    ∙ put_is a.block.now a.n a.bytes.now a.time a.loose
    c.last_of.result c.last_of.ensures
