-- `take_bench::admitted_all` meets its contract: the same arrays stay lent.
use Rattle.collector_state.proofs.Loans.{same_loans, both_loans}
use Rattle.take_bench.proofs.admitted_all.Goals as goal

pub loop-i-init : goal.loop-i-init
loop-i-init c = same_loans c.args.state.now

pub loop-i-preserved : goal.loop-i-preserved
loop-i-preserved c = both_loans c.loop-i.invariant c.admit-answer.ensures.same_loans
