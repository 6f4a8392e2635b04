-- `history_replay::calls::burst_in` meets its contract: by what `burst` ensures.
use native.Mathlib.Omega.{arith}
use Rattle.history_replay.proofs.Lent.{made}
use Rattle.history_replay.proofs.calls.burst_in.Goals as goal

pub returns-clause-made : goal.returns-clause-made
returns-clause-made c =
    made c.args.records.now c.min-n.result c.min-n.ensures _ _
    c.moments_in-moments.ensures c.frames_in-frames.ensures c.burst.ensures.bursts

pub moments_in-moments-requires : goal.moments_in-moments-requires
moments_in-moments-requires c = (omega (arith, c.min-n.ensures), omega (arith, c.min-n.ensures))

pub frames_in-frames-requires : goal.frames_in-frames-requires
frames_in-frames-requires c = (omega (arith, c.min-n.ensures), omega (arith, c.min-n.ensures))
