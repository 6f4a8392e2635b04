-- `archive_report::tally::identity_of` meets its contract.
use native.Mathlib.Omega.{arith}
use mathlib.Core.Path.{ap, ◌∙◌}
use mathlib.Core.List.{List}
use Prim.Native.Nat.{ℕ, ◌+◌, ◌-◌}
use lib.ListN.{length-take, drop}
use lib.Seq.{take_all}
use Rattle.base_buffers.specs.Buffer.{part}
use Rattle.block_layout.specs.BigEndian.{unbe}
use Rattle.archive_report.proofs.Blocks.{used_high, shown-identity}
use Rattle.archive_report.proofs.tally.identity_of.Goals as goal

pub slice_bounds-read_number-end : goal.slice_bounds-read_number-end
slice_bounds-read_number-end c =
    omega (arith, c.cell_used-len.ensures, used_high c.args.cell.now c.requires.1, c.requires.0)

pub returns : goal.returns
returns c =
    let cell = c.args.cell.now in
    let four : List ℕ =
    part (c.cell_used-len.result + 3) (c.cell_used-len.result + 3 + 4 - (c.cell_used-len.result + 3)) cell in
    c.read_number.ensures
    ∙ ap unbe
    (take_all 8 four
    (omega (
      arith,
      length-take (c.cell_used-len.result + 3 + 4 - (c.cell_used-len.result + 3))
          (drop (c.cell_used-len.result + 3) cell),
    )))
    ∙ ap (λ (n : ℕ). unbe (part (n + 3) (n + 3 + 4 - (n + 3)) cell)) c.cell_used-len.ensures
    ∙ shown-identity cell c.requires.0 c.requires.1
