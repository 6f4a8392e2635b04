-- `collector_burst::deliver` meets its contract: `Turn.antt` has each turn's step.
use Rattle.collector_state.proofs.Loans.{same_loans, both_loans}
use Rattle.collector_burst.proofs.Turn as turn
use Rattle.collector_burst.proofs.deliver.Goals as goal

pub loop-i-init : goal.loop-i-init
loop-i-init c = (turn.starts _ _ _ _ _ _, same_loans c.args.state.now)

pub loop-i-preserved : goal.loop-i-preserved
loop-i-preserved c =
    let g = c.loop-i.invariant in (
      turn.turns _ _ _ _ _ _ c.requires g.0 c.loop-i-test.true _ _ c.take_record.ensures.steps,
      both_loans g.1 c.take_record.ensures.same_loans,
    )

pub returns : goal.returns
returns c =
    let g = c.loop-i.invariant in
    record { delivers = turn.ends _ _ _ _ _ _ c.requires g.0 c.loop-i-test.false; same_loans = g.1 }
