-- The goals that a search does not find.
use mathlib.Core.Path.{refl}
use native.Mathlib.Omega.{arith}
use lib.ListN.{length-set}
use Rattle.base_buffers.proofs.Moves.{moved_none, moved_next, moved_all}
use Rattle.text_program.proofs.shift.Goals as goal

pub loop-i-init : goal.loop-i-init
loop-i-init c =
    record {
      bounded = omega arith;
      long = refl;
      moved = moved_none c.args.buffer.now c.args.from c.args.n;
    }

pub loop-i-preserved : goal.loop-i-preserved
loop-i-preserved c =
    let inv = c.loop-i.invariant in
    record {
      bounded = omega arith;
      long = simp length-set inv.long;
      moved = moved_next inv.moved (omega arith) (omega arith);
    }

pub returns : goal.returns
returns c = (moved_all c.loop-i.invariant.moved (omega arith), refl)
