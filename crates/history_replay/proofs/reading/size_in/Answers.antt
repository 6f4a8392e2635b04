-- `history_replay::reading::size_in` meets its contract: a case for each call.
use mathlib.Core.List.{[]}
use native.Mathlib.Omega.{arith}
use lib.ListN.{length-replicate}
use Rattle.history_replay.proofs.Records.{call_receive, call_checkpoint, call_cut, call_restore, call_burst, call_ask, call_look}
use Rattle.history_replay.proofs.reading.size_in.Goals as goal

pub returns-then-operation-eq-RECEIVING : goal.returns-then-operation-eq-RECEIVING
returns-then-operation-eq-RECEIVING c = rw (call_receive [] c.args.r.now c.if-operation-eq-RECEIVING.true)

pub returns-then-operation-eq-SAVING : goal.returns-then-operation-eq-SAVING
returns-then-operation-eq-SAVING c =
    rw (call_checkpoint [] c.args.r.now c.if-operation-eq-SAVING.true, length-replicate)
    (omega arith)

pub returns-then-operation-eq-CUTTING : goal.returns-then-operation-eq-CUTTING
returns-then-operation-eq-CUTTING c =
    rw (call_cut [] c.args.r.now c.if-operation-eq-CUTTING.true, length-replicate)
    (omega arith)

pub returns-then-operation-eq-RESTORING : goal.returns-then-operation-eq-RESTORING
returns-then-operation-eq-RESTORING c = rw (call_restore [] c.args.r.now c.if-operation-eq-RESTORING.true)

pub returns-then-operation-eq-DELIVERING : goal.returns-then-operation-eq-DELIVERING
returns-then-operation-eq-DELIVERING c =
    rw (
      call_burst [] c.args.r.now c.if-operation-eq-DELIVERING.true,
      length-replicate,
    )
    (omega arith)

pub returns-then-operation-eq-ASKING : goal.returns-then-operation-eq-ASKING
returns-then-operation-eq-ASKING c = rw (call_ask [] c.args.r.now c.if-operation-eq-ASKING.true)

pub returns : goal.returns
returns c =
    rw (call_look [] c.args.r.now
    (record {
      receive = c.if-operation-eq-RECEIVING.false;
      checkpoint = c.if-operation-eq-SAVING.false;
      cut = c.if-operation-eq-CUTTING.false;
      restore = c.if-operation-eq-RESTORING.false;
      burst = c.if-operation-eq-DELIVERING.false;
      ask = c.if-operation-eq-ASKING.false;
    }))
