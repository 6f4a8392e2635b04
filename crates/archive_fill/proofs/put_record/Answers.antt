-- `archive_fill::put_record` meets its contract: the cell of the bytes that the record shows.
use mathlib.Core.Path.{ap, ap₂, ◌∙◌}
use mathlib.Core.Bool.{not}
use mathlib.Core.List.{List}
use Prim.Native.Nat.{ℕ, ◌+◌, ◌-◌, ◌≤◌}
use native.Mathlib.Omega.{arith}
use lib.Dec.{eqb}
use lib.ListN.{length, get_or, drop}
use Rattle.radio_erp1.specs.Subtelegram.{max_length}
use Rattle.base_buffers.specs.Buffer.{part}
use Rattle.base_buffers.proofs.Buffer.{resized-length}
use Rattle.block_layout.specs.Cell.{cell_of}
use Rattle.block_layout.proofs.Cell.{put-fits}
use Rattle.archive_model.specs.Row.{row_last}
use Rattle.archive_fill.proofs.Records.{short-given, bytes-shown}
use Rattle.archive_fill.proofs.put_record.Lts as lts
use Rattle.archive_fill.proofs.put_record.Reads as reads
use Rattle.archive_fill.proofs.put_record.Tie as tie
use Rattle.archive_fill.proofs.put_record.Goals as goal

-- states on the way
abbrev After-byte_at-len : Type 0
After-byte_at-len = lts.After-byte_at tie.the-claims reads.Pre reads.Post

short : (c : After-byte_at-len) → c.byte_at-len.result ≤ max_length
short c =
    omega (arith, c.byte_at-len.ensures, short-given c.args.time c.args.given.now c.requires.2)

pub returns : goal.returns
returns c =
    let c_back3 = c.before.before.before in
    let c_back6 = c_back3.before.before.before in
    let a = c.args in
    let is = bytes-shown a.time a.given.now c.byte_at-len.result c.requires.1 c.byte_at-len.ensures
    (short c_back6.before.before) in
    let few : length (part 2 (2 + c.byte_at-len.result - 2) a.given.now) ≤ max_length =
    rw is
    (omega (
      arith,
      short c_back6.before.before,
      c.byte_at-len.ensures,
      resized-length (get_or a.given.now 1 0) (drop 2 a.given.now),
    )) in
    c.put_cell.ensures ∙ put-fits a.time _ c.last_of-last.result _ few c.requires.0
    ∙ ap₂ (λ (bytes : List ℕ) (last : ℕ). cell_of a.time bytes last) is
    (c.last_of-last.ensures ∙ ap (λ (flag : ℕ). row_last (not (eqb flag 0))) c.byte_at.ensures)

pub slice_bounds-put_cell-end : goal.slice_bounds-put_cell-end
slice_bounds-put_cell-end c =
    let c_back3 = c.before.before.before in
    omega (arith, short c_back3.before)
