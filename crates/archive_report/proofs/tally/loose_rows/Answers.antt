-- The goals that a search does not find.
use native.Mathlib.Omega.{arith}
use mathlib.Core.Path.{◌≡◌, refl, ap, ◌∙◌}
use mathlib.Core.Bool.{Bool, true, false, cond}
use mathlib.Core.List.{List}
use Prim.Native.Nat.{ℕ, ◌+◌, ◌*◌, ◌≤◌}
use Rattle.std.specs.Int.{from_bool}
use Rattle.block_layout.specs.Block.{header_length, block_cell}
use Rattle.block_layout.specs.Cell.{cell_length}
use Rattle.base_buffers.proofs.Segments.{part-ends}
use Rattle.archive_model.specs.Row.{row_in}
use Rattle.archive_report.proofs.Blocks.{loose_first, loose_next, loose_end, loose_few}
use Rattle.archive_report.proofs.tally.loose_rows.Lts as lts
use Rattle.archive_report.proofs.tally.loose_rows.Reads as reads
use Rattle.archive_report.proofs.tally.loose_rows.Tie as tie
use Rattle.archive_report.proofs.tally.loose_rows.Goals as goal

-- states on the way
abbrev After-from-n : Type 0
After-from-n = lts.After-from tie.the-claims reads.Pre reads.Post goal.the-invariant-loop-i
    goal.the-decreases-loop-i

-- a bool as a number
as_cond : (b : Bool) → from_bool b ≡ cond b 1 0
as_cond true = refl
as_cond false = refl

counted : (c : After-from-n)
    → (
    c.from-n.result ≡ cond (row_in (block_cell c.loop-i.i c.args.block.now)).loose 1 0)
counted c =
    c.from-n.ensures ∙ as_cond c.is_loose.result
    ∙ ap (λ (b : Bool). cond b 1 0)
    (c.is_loose.ensures
    ∙ ap (λ (l : List ℕ). (row_in l).loose)
    (part-ends (header_length + cell_length * c.loop-i.i) cell_length c.args.block.now))

one_le : (b : Bool) → cond b 1 0 ≤ 1
one_le true = omega arith
one_le false = omega arith

pub overflow_add-n : goal.overflow_add-n
overflow_add-n c =
    omega (
      arith,
      c.loop-i.invariant.rest,
      loose_few c.args.block.now 0 c.args.used,
      c.requires.1,
      c.from-n.ensures,
      as_cond c.is_loose.result,
      one_le c.is_loose.result,
    )

pub loop-i-preserved : goal.loop-i-preserved
loop-i-preserved c =
    record {
      bounded = omega (arith, c.loop-i-test.true);
      rest = omega (
        arith,
        c.loop-i.invariant.rest,
        loose_next c.args.block.now c.args.used c.loop-i.i c.loop-i-test.true,
        counted c.before,
      );
    }

pub returns : goal.returns
returns c =
    omega (
      arith,
      c.loop-i.invariant.rest,
      loose_end c.args.block.now c.args.used c.loop-i.i c.loop-i-test.false,
    )

pub loop-i-init : goal.loop-i-init
loop-i-init c = record { bounded = omega arith; rest = loose_first c.args.block.now c.args.used }
