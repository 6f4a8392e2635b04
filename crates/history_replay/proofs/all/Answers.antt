-- The goals that a search does not find.
use mathlib.Core.Path.{refl, ◌∙◌}
use Prim.Native.Nat.{◌+◌, ◌*◌, ◌≤◌}
use native.Mathlib.Omega.{arith}
use lib.ListN.{length}
use Rattle.base_buffers.proofs.Segments.{begun_length, within, lent}
use Rattle.history_replay.specs.Calls.{call_length}
use Rattle.history_replay.proofs.Records.{record_length, calls_all}
use Rattle.c_collector.proofs.State.{same_loans}
use Rattle.history_replay.proofs.Running.{both_loans, none_made, turn, enough, ran}
use Rattle.history_replay.proofs.all.Lts as lts
use Rattle.history_replay.proofs.all.Reads as reads
use Rattle.history_replay.proofs.all.Tie as tie
use Rattle.history_replay.proofs.all.Goals as goal

-- states on the way
abbrev In-loop-i : Type 0
In-loop-i = lts.In-loop tie.the-claims reads.Pre reads.Post goal.the-invariant-loop-i goal.the-decreases-loop-i
    tie.handed_clauses

abbrev After-size_in-size : Type 0
After-size_in-size = lts.After-size_in tie.the-claims reads.Pre reads.Post goal.the-invariant-loop-i
    goal.the-decreases-loop-i tie.handed_clauses

-- in a turn there is a whole record
record_in : (c : In-loop-i)
    → call_length * c.loop-i.i + call_length ≤ length c.args.calls.now
record_in c = omega arith

-- and room for what is written of it
room : (c : After-size_in-size)
    → c.loop-i.at + c.size_in-size.result ≤ length c.args.out.now
room c =
    enough c.args.lent.now c.args.calls.now c.loop-i.i
    c.size_in-size.result (omega arith) c.loop-i.invariant.0.made
    c.size_in-size.ensures c.requires

room_now : (c : After-size_in-size)
    → c.loop-i.at + c.size_in-size.result ≤ length c.loop-i.out
room_now c = within c.loop-i.invariant.0.made.begun _ (room c)

pub call-requires : goal.call-requires
call-requires c =
    let c_back3 = c.before.before.before in
    let c_back6 = c_back3.before.before.before in (
      record_length _ _ (record_in c_back6),
      lent c.loop-i.invariant.0.made.begun c.size_in-size.result _ refl
          (room c_back3.before) ∙ c.size_in-size.ensures,
    )

pub loop-i-preserved : goal.loop-i-preserved
loop-i-preserved c =
    let c_back3 = c.before.before.before in
    let c_back6 = c_back3.before.before.before in
    let a = c.args in
    let next =
    turn a.lent.now a.calls.now c.loop-i.i (omega arith)
    c.loop-i.invariant.0.made _ _ c.call.ensures.called
    c.size_in-size.result c.call.auto.out
    (room c_back6.before)
    in (
      record { bounded = omega arith; end = omega arith; made = next },
      both_loans c.loop-i.invariant.1 c.call.ensures.same_loans,
    )

pub returns : goal.returns
returns c =
    let a = c.args in
    record {
      resumes = ran (rw (calls_all a.lent.now a.calls.now c.loop-i.i (omega arith)) at c.loop-i.invariant.0.made);
      same_loans = c.loop-i.invariant.1;
    }

pub loop-i-init : goal.loop-i-init
loop-i-init c =
    (record { bounded = omega arith; end = omega arith; made = none_made _ _ }, same_loans c.args.state.now)

pub overflow_mul-i : goal.overflow_mul-i
overflow_mul-i c = omega (arith, record_in c.before)

pub overflow_mul-i-in-loop-i : goal.overflow_mul-i-in-loop-i
overflow_mul-i-in-loop-i c = omega (arith, record_in c.before)

pub overflow_add-i : goal.overflow_add-i
overflow_add-i c = omega (arith, record_in c.before)

pub slice_bounds-size_in-count : goal.slice_bounds-size_in-count
slice_bounds-size_in-count c = omega (arith, record_in c.before)

pub slice_bounds-size_in-start : goal.slice_bounds-size_in-start
slice_bounds-size_in-start c = omega (arith, record_in c.before)

pub slice_bounds-size_in-end : goal.slice_bounds-size_in-end
slice_bounds-size_in-end c = omega (arith, record_in c.before)

pub size_in-size-requires : goal.size_in-size-requires
size_in-size-requires c = record_length _ _ (record_in c.before.before)

pub overflow_mul-i-in-loop-i-2 : goal.overflow_mul-i-in-loop-i-2
overflow_mul-i-in-loop-i-2 c =
    let c_back3 = c.before.before.before in
    omega (arith, record_in c_back3.before)

pub overflow_mul-i-in-loop-i-3 : goal.overflow_mul-i-in-loop-i-3
overflow_mul-i-in-loop-i-3 c =
    let c_back3 = c.before.before.before in
    omega (arith, record_in c_back3.before)

pub overflow_add-i-in-loop-i : goal.overflow_add-i-in-loop-i
overflow_add-i-in-loop-i c =
    let c_back3 = c.before.before.before in
    omega (arith, record_in c_back3.before)

pub slice_bounds-call-count : goal.slice_bounds-call-count
slice_bounds-call-count c =
    let c_back3 = c.before.before.before in
    omega (arith, record_in c_back3.before)

pub slice_bounds-call-start : goal.slice_bounds-call-start
slice_bounds-call-start c =
    let c_back3 = c.before.before.before in
    omega (arith, record_in c_back3.before)

pub slice_bounds-call-end : goal.slice_bounds-call-end
slice_bounds-call-end c =
    let c_back3 = c.before.before.before in
    omega (arith, record_in c_back3.before)

pub overflow_add-at : goal.overflow_add-at
overflow_add-at c =
    omega (
      arith,
      room c.before.before.before,
      room_now
          c.before.before.before,
    )

pub slice_bounds-call-count-in-loop-i : goal.slice_bounds-call-count-in-loop-i
slice_bounds-call-count-in-loop-i c =
    omega (
      arith,
      room c.before.before.before,
      room_now c.before.before.before,
    )

pub slice_bounds-call-start-in-loop-i : goal.slice_bounds-call-start-in-loop-i
slice_bounds-call-start-in-loop-i c =
    omega (
      arith,
      room c.before.before.before,
      room_now c.before.before.before,
    )

pub slice_bounds-call-end-in-loop-i : goal.slice_bounds-call-end-in-loop-i
slice_bounds-call-end-in-loop-i c =
    room_now c.before.before.before

pub overflow_add-at-in-loop-i : goal.overflow_add-at-in-loop-i
overflow_add-at-in-loop-i c =
    let c_back3 = c.before.before.before in
    let c_back6 = c_back3.before.before.before in
    omega (
      arith,
      room
          c_back6.before,
    )

pub overflow_step-i : goal.overflow_step-i
overflow_step-i c = omega arith

pub loop-i-smaller : goal.loop-i-smaller
loop-i-smaller c = omega arith

pub shape_of-out : goal.shape_of-out
shape_of-out c = begun_length c.loop-i.invariant.0.made.begun
