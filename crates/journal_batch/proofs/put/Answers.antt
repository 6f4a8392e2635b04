-- `journal_batch::put` meets its contract: the refusal, and the block that the call leaves.
use Rattle.base_refusal.specs.Number.{number_of}
use Rattle.journal_batch.proofs.Cases.{put_as}
use Rattle.journal_batch.proofs.put.Goals as goal

pub returns-in-Ok : goal.returns-in-Ok
returns-in-Ok c =
    let a = c.args in
    put_as a.count a.times.now a.records.now a.block.now
    (record { number = 0; position = 0; buffer = c.put_rows.new.block }) c.in-Ok.ensures

pub returns-in-Err : goal.returns-in-Err
returns-in-Err c =
    let a = c.args in
    let e = c.in-Err.e in
    put_as a.count a.times.now a.records.now a.block.now
    (record { number = number_of e.why; position = e.position; buffer = c.put_rows.new.block }) c.in-Err.ensures
