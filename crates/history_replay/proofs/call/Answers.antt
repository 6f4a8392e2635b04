-- `history_replay::call` meets its contract: a case for each call.
use Prim.Native.Nat.{ℕ}
use mathlib.Core.List.{List, []}
use lib.ListN.{length-replicate}
use Rattle.c_collector.proofs.State.{same_loans}
use Rattle.history_replay.proofs.Records.{call_receive, call_checkpoint, call_cut, call_restore, call_burst, call_ask, Other, call_look}
use Rattle.history_replay.proofs.call.Lts as lts
use Rattle.history_replay.proofs.call.Reads as reads
use Rattle.history_replay.proofs.call.Tie as tie
use Rattle.history_replay.proofs.call.Goals as goal

-- states on the way
abbrev Else-operation-eq-ASKING : Type 0
Else-operation-eq-ASKING = lts.Else6 tie.the-claims reads.Pre reads.Post tie.handed_clauses

-- the output is as long as what is written of the call
pub received-requires : goal.received-requires
received-requires c =
    (c.requires.0, rw (call_receive [] c.args.r.now c.if-operation-eq-RECEIVING.true) at c.requires.1)

pub saved-requires : goal.saved-requires
saved-requires c =
    (c.requires.0, rw (call_checkpoint [] c.args.r.now c.if-operation-eq-SAVING.true) at c.requires.1)

pub cut-requires : goal.cut-requires
cut-requires c =
    (c.requires.0, rw (call_cut [] c.args.r.now c.if-operation-eq-CUTTING.true) at c.requires.1)

pub restored-requires : goal.restored-requires
restored-requires c =
    (c.requires.0, rw (call_restore [] c.args.r.now c.if-operation-eq-RESTORING.true) at c.requires.1)

pub delivered-requires : goal.delivered-requires
delivered-requires c =
    (c.requires.0, rw (call_burst [] c.args.r.now c.if-operation-eq-DELIVERING.true, length-replicate) at c.requires.1)

pub asked-requires : goal.asked-requires
asked-requires c =
    (c.requires.0, rw (call_ask [] c.args.r.now c.if-operation-eq-ASKING.true) at c.requires.1)

-- byte 0 is none of the operations
other : (c : Else-operation-eq-ASKING) → (lent : List ℕ) → Other lent c.args.r.now
other c lent =
    record {
      receive = c.if-operation-eq-RECEIVING.false;
      checkpoint = c.if-operation-eq-SAVING.false;
      cut = c.if-operation-eq-CUTTING.false;
      restore = c.if-operation-eq-RESTORING.false;
      burst = c.if-operation-eq-DELIVERING.false;
      ask = c.if-operation-eq-ASKING.false;
    }

pub looked-requires : goal.looked-requires
looked-requires c =
    rw (call_look [] c.args.r.now (other c.before.before [])) at c.requires.1

pub returns-then-operation-eq-RECEIVING-clause-called : goal.returns-then-operation-eq-RECEIVING-clause-called
returns-then-operation-eq-RECEIVING-clause-called c =
    let a = c.args in
    rw (call_receive a.lent.now a.r.now c.if-operation-eq-RECEIVING.true) c.received.ensures.called

pub returns-then-operation-eq-SAVING : goal.returns-then-operation-eq-SAVING
returns-then-operation-eq-SAVING c =
    let a = c.args in
    record {
      called = rw (call_checkpoint a.lent.now a.r.now c.if-operation-eq-SAVING.true) c.saved.ensures;
      same_loans = same_loans _;
    }

pub returns-then-operation-eq-CUTTING-clause-called : goal.returns-then-operation-eq-CUTTING-clause-called
returns-then-operation-eq-CUTTING-clause-called c =
    let a = c.args in
    rw (call_cut a.lent.now a.r.now c.if-operation-eq-CUTTING.true) c.cut.ensures.called

pub returns-then-operation-eq-RESTORING-clause-called : goal.returns-then-operation-eq-RESTORING-clause-called
returns-then-operation-eq-RESTORING-clause-called c =
    let a = c.args in
    rw (call_restore a.lent.now a.r.now c.if-operation-eq-RESTORING.true) c.restored.ensures.called

pub returns-then-operation-eq-DELIVERING-clause-called : goal.returns-then-operation-eq-DELIVERING-clause-called
returns-then-operation-eq-DELIVERING-clause-called c =
    let a = c.args in
    rw (call_burst a.lent.now a.r.now c.if-operation-eq-DELIVERING.true) c.delivered.ensures.called

pub returns-then-operation-eq-ASKING : goal.returns-then-operation-eq-ASKING
returns-then-operation-eq-ASKING c =
    let a = c.args in
    record {
      called = rw (call_ask a.lent.now a.r.now c.if-operation-eq-ASKING.true) c.asked.ensures;
      same_loans = same_loans _;
    }

pub returns : goal.returns
returns c =
    let c_back3 = c.before.before.before in
    let a = c.args in
    record {
      called = rw (call_look a.lent.now a.r.now (other c_back3.before.before a.lent.now)) c.looked.ensures;
      same_loans = same_loans _;
    }
