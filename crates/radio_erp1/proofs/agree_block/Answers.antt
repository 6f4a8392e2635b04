-- The goals that a search does not find.
use Rattle.std.proofs.Common.{◌≡◌, arith}
use Rattle.radio_erp1.proofs.Blocks.{agrees_none, agrees_next}
use Rattle.radio_erp1.proofs.agree_block.Goals as goal

pub loop-k-init : goal.loop-k-init
loop-k-init g c = record { few = omega arith; passed = agrees_none _ _ _ }

pub loop-k-preserved : goal.loop-k-preserved
loop-k-preserved g c = record { few = omega arith; passed = agrees_next c.loop-k.invariant.passed }

pub returns : goal.returns
returns g c =
    let e : c.loop-k.k ≡ g.row.W = omega arith in
    rw e at c.loop-k.invariant.passed
