-- `c_report::settle_report` meets its contract: a report is stored, and beside a refusal nothing is.
use Rattle.c_report.proofs.Calls.{settled_done, settled_not}
use Rattle.c_report.proofs.settle_report.Goals as goal

pub returns-in-Ok : goal.returns-in-Ok
returns-in-Ok c =
    let a = c.args in
    settled_done a.numbers.now a.lines.now a.position.now a.answer _ _ _ c.in-Ok.is c.store.ensures

pub returns-in-Err : goal.returns-in-Err
returns-in-Err c =
    let a = c.args in
    settled_not a.numbers.now a.lines.now a.position.now a.answer _ _ c.in-Err.e c.in-Err.is c.settle.ensures
