-- `archive_repack::identity_of` meets its contract.
use native.Mathlib.Omega.{arith}
use mathlib.Core.Path.{◌∙◌}
use Prim.Native.Nat.{◌≤◌}
use Rattle.radio_erp1.specs.Subtelegram.{min_length}
use Rattle.block_layout.specs.Cell.{cell_capacity}
use Rattle.archive_repack.proofs.Cells.{used_bounds, identity-shown}
use Rattle.archive_repack.proofs.identity_of.Lts as lts
use Rattle.archive_repack.proofs.identity_of.Reads as reads
use Rattle.archive_repack.proofs.identity_of.Tie as tie
use Rattle.archive_repack.proofs.identity_of.Goals as goal

-- states on the way
abbrev After-cell_used : Type 0
After-cell_used = lts.After-cell_used tie.the-claims reads.Pre reads.Post

bounds : (c : After-cell_used) → (min_length ≤ c.cell_used.result) × (c.cell_used.result ≤ cell_capacity)
bounds c =
    let b = used_bounds c.args.cell.now c.requires.1 in
    (omega (arith, b.0, c.cell_used.ensures), omega (arith, b.1, c.cell_used.ensures))

pub returns : goal.returns
returns c =
    c.read_number.ensures
    ∙ identity-shown c.args.cell.now c.cell_used.result c.requires.0 c.requires.1 c.cell_used.ensures

pub slice_bounds-read_number-end : goal.slice_bounds-read_number-end
slice_bounds-read_number-end c = omega (arith, bounds c.before)
