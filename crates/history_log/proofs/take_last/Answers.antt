-- `history_log::take_last` meets its contract: nothing is left, or one more line.
use mathlib.Core.Path.{◌≡◌}
use Prim.Native.Nat.{◌-◌, ◌^◌, ◌<◌}
use native.Mathlib.Omega.{arith}
use lib.ListN.{length, drop_of_length-le}
use borrow.Author.Rules.{rules}
use Rattle.c_collector.specs.State.{arrays_in}
use Rattle.history_log.proofs.Turning.{begins, closes, closes-state, last_went}
use Rattle.history_log.proofs.take_last.Lts as lts
use Rattle.history_log.proofs.take_last.Reads as reads
use Rattle.history_log.proofs.take_last.Tie as tie
use Rattle.history_log.proofs.take_last.Goals as goal

-- states on the way
abbrev Start : Type 0
Start = lts.Start tie.the-claims reads.Pre reads.Post

pub returns-then-line-eq0 : goal.returns-then-line-eq0
returns-then-line-eq0 c =
    let a = c.args in
    let lent = arrays_in a.state.now in
    let none = drop_of_length-le a.line.now {i = 0} (omega (arith, c.if-line-eq0.true)) in
    record {
      passed = closes (begins c.requires.0) none;
      left = λ _. closes-state a.setting lent (begins c.requires.0) none;
      accepted = λ _. c.requires.0.callable.accepted;
    }

small : (s : Start) → length s.args.archive.now < 2 ^ 64
small s = search rules

heard-small : (s : Start) → length s.args.heard.now < 2 ^ 64
heard-small s = search rules

pub slice_bounds-take_some-end : goal.slice_bounds-take_some-end
slice_bounds-take_some-end c =
    omega (arith, c.end_line-end.ensures.0, c.end_line-end.auto.whole)

pub overflow_add-result : goal.overflow_add-result
overflow_add-result c =
    let c_back3 = c.before.before.before in
    let c_back6 = c_back3.before.before.before in
    let c_back9 = c_back6.before.before.before in
    let c_back12 = c_back9.before.before.before in
    let c_back15 = c_back12.before.before.before in
    let c_back18 = c_back15.before.before.before in
    omega (arith, c.take_some-t.ensures.few, c.requires.0.callable.room.rows, small c_back18)

pub overflow_add-result-2 : goal.overflow_add-result-2
overflow_add-result-2 c =
    let c_back3 = c.before.before.before in
    let c_back6 = c_back3.before.before.before in
    let c_back9 = c_back6.before.before.before in
    let c_back12 = c_back9.before.before.before in
    let c_back15 = c_back12.before.before.before in
    let c_back18 = c_back15.before.before.before in
    omega (arith, c.take_some-t.ensures.brief, c.requires.0.callable.room.closings, heard-small c_back18.before)

pub returns : goal.returns
returns c =
    let z : c.end_line-end.result - 0 ≡ c.end_line-end.result = omega arith in
    last_went c.requires.0 c.requires.1 (omega (arith, c.if-line-eq0.false)) c.take_some-t.result
    (rw (z, c.end_line-end.ensures.1) at c.take_some-t.ensures)
    c.take_some-t.auto.archive c.take_some-t.auto.heard
