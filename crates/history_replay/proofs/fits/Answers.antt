-- The goals that a search does not find.
use mathlib.Core.Path.{◌≡◌, sym}
use mathlib.Core.List.{[]}
use Prim.Native.Nat.{◌+◌, ◌*◌, ◌≤◌}
use native.Mathlib.Omega.{arith}
use lib.ListN.{length, take}
use borrow.Author.Tests.{le-leb, lt-leb}
use Rattle.history_replay_model.specs.Replay.{size_of_all}
use Rattle.history_replay_model.proofs.Sizes.{size-part}
use Rattle.history_replay.specs.Calls.{call_length, calls_in}
use Rattle.history_replay.proofs.Records.{sizes_more, calls_all, record_length}
use Rattle.history_replay.proofs.fits.Lts as lts
use Rattle.history_replay.proofs.fits.Reads as reads
use Rattle.history_replay.proofs.fits.Tie as tie
use Rattle.history_replay.proofs.fits.Goals as goal

-- states on the way
abbrev In-loop-i : Type 0
In-loop-i = lts.In-loop tie.the-claims reads.Pre reads.Post goal.the-invariant-loop-i goal.the-decreases-loop-i

abbrev After-size_in-size : Type 0
After-size_in-size = lts.After-size_in tie.the-claims reads.Pre reads.Post goal.the-invariant-loop-i
    goal.the-decreases-loop-i

-- in a turn there is a whole record
record_in : (c : In-loop-i)
    → call_length * c.loop-i.i + call_length ≤ length c.args.calls.now
record_in c = omega arith

-- how long the record of one call more is
more : (c : After-size_in-size)
    → size_of_all (take (c.loop-i.i + 1)
    (calls_in [] c.args.calls.now))
    ≡ size_of_all (take c.loop-i.i
    (calls_in [] c.args.calls.now))
    + c.size_in-size.result
more c =
    sizes_more c.args.calls.now c.loop-i.i
    c.size_in-size.result (omega arith) c.size_in-size.ensures

pub returns-then-left-size : goal.returns-then-left-size
returns-then-left-size c =
    let h = calls_in [] c.args.calls.now in
    sym (lt-leb (size_of_all h) _
    (omega (arith, c.loop-i.invariant.whole, c.if-left-size.true, more c.before.before, size-part (c.loop-i.i + 1) h)))

pub loop-i-preserved : goal.loop-i-preserved
loop-i-preserved c =
    record {
      bounded = omega arith;
      end = omega arith;
      whole = omega (arith, c.loop-i.invariant.whole, c.if-left-size.false, more c.before.before);
    }

pub returns : goal.returns
returns c =
    let calls = c.args.calls.now in
    sym (le-leb (size_of_all (calls_in [] calls)) _ (rw (← calls_all [] calls c.loop-i.i (omega arith)) (omega
    (arith, c.loop-i.invariant.whole))))

pub loop-i-init : goal.loop-i-init
loop-i-init c = record { bounded = omega arith; end = omega arith; whole = omega arith }

pub overflow_mul-i : goal.overflow_mul-i
overflow_mul-i c = omega (arith, record_in c.before)

pub overflow_mul-i-in-loop-i : goal.overflow_mul-i-in-loop-i
overflow_mul-i-in-loop-i c = omega (arith, record_in c.before)

pub overflow_add-i : goal.overflow_add-i
overflow_add-i c = omega (arith, record_in c.before)

pub slice_bounds-size_in-count : goal.slice_bounds-size_in-count
slice_bounds-size_in-count c = omega (arith, record_in c.before)

pub slice_bounds-size_in-start : goal.slice_bounds-size_in-start
slice_bounds-size_in-start c = omega (arith, record_in c.before)

pub slice_bounds-size_in-end : goal.slice_bounds-size_in-end
slice_bounds-size_in-end c = omega (arith, record_in c.before)

pub size_in-size-requires : goal.size_in-size-requires
size_in-size-requires c = record_length _ _ (record_in c.before.before)

pub overflow_step-i : goal.overflow_step-i
overflow_step-i c = omega arith

pub loop-i-smaller : goal.loop-i-smaller
loop-i-smaller c = omega arith
