-- The goals that a search does not find.
use mathlib.Core.Path.{◌≡◌, refl, ◌∙◌}
use mathlib.Core.Bool.{false≢true}
use mathlib.Core.List.{List}
use Prim.Native.Nat.{ℕ, ◌+◌, ◌^◌, ◌≤◌, ◌<◌}
use native.Mathlib.Omega.{arith}
use lib.ListN.{length, drop}
use borrow.Author.Rules.{rules}
use borrow.Author.Tests.{not-true, not-false}
use Rattle.base_buffers.proofs.Stores.{take_rest}
use Rattle.collector_model.proofs.Invariant.{Good, good_of, good_acceptable}
use Rattle.c_collector.specs.State.{Arrays, arrays_in, state_at}
use Rattle.history_log.specs.Private.{Outputs, outputs, phase_at, Turned}
use Rattle.history_log.proofs.Turning.{Going, begins, ends, too_full, goes_on, stays_good, ready}
use Rattle.history_log.proofs.take_lines.Lts as lts
use Rattle.history_log.proofs.take_lines.Reads as reads
use Rattle.history_log.proofs.take_lines.Tie as tie
use Rattle.history_log.proofs.take_lines.Goals as goal

-- states on the way
abbrev After-take_some-t : Type 0
After-take_some-t = lts.After-take_some tie.the-claims reads.Pre reads.Post goal.the-invariant-loop-t
    goal.the-decreases-loop-t

abbrev Else-not-t : Type 0
Else-not-t = lts.Else1 tie.the-claims reads.Pre reads.Post goal.the-invariant-loop-t goal.the-decreases-loop-t

abbrev Start : Type 0
Start = lts.Start tie.the-claims reads.Pre reads.Post goal.the-invariant-loop-t goal.the-decreases-loop-t

abbrev Then-t-eq0 : Type 0
Then-t-eq0 = lts.Then2 tie.the-claims reads.Pre reads.Post goal.the-invariant-loop-t goal.the-decreases-loop-t

pub loop-t-init : goal.loop-t-init
loop-t-init c =
    record { going = begins c.requires; good = good_of _ c.requires.callable.accepted c.requires.fits }

abbrev after : After-take_some-t → Arrays
after c =
    let v = c.take_some-t.new in
    arrays_in v.state

abbrev archive : After-take_some-t → List ℕ
archive c = c.take_some-t.new.archive

abbrev heard : After-take_some-t → List ℕ
heard c = c.take_some-t.new.heard

-- the outputs after a turn
abbrev then : After-take_some-t → Outputs
then c =
    let v = c.loop-t in
    let r = c.take_some-t.result in
    outputs (archive c) (v.rows + r.rows) (heard c) (v.closings + r.closings)

-- ---- a turn

took : (c : After-take_some-t) → (
    let a = c.args in
    let v = c.loop-t in
    Turned a.write (arrays_in v.state) a.setting (drop v.at a.input.now) (outputs v.archive v.rows v.heard v.closings)
    (after c) (archive c) (heard c) c.take_some-t.result)
took c = rw (take_rest c.args.input.now (length c.args.input.now) c.loop-t.at refl) at c.take_some-t.ensures

same : (c : After-take_some-t) → length (archive c) ≡ length c.loop-t.archive
same c = c.take_some-t.auto.archive

same_heard : (c : After-take_some-t) → length (heard c) ≡ length c.loop-t.heard
same_heard c = c.take_some-t.auto.heard

goes : (c : Else-not-t) → (
    let c_back3 = c.before.before.before in
    let a = c.args in
    Going a.write (phase_at a.setting (arrays_in a.state.now)) a.input.now (outputs a.archive.now a.n a.heard.now a.m)
    (phase_at a.setting (after c_back3.before.before.before)) (c.loop-t.at + c.take_some-t.result.used)
    (then c_back3.before.before.before))
goes c =
    let c_back3 = c.before.before.before in
    let p = c.requires in
    goes_on c.loop-t.invariant.going c.take_some-t.result (took c_back3.before.before.before) p.holds p.fit
    (same c_back3.before.before.before) (same_heard c_back3.before.before.before)
    (not-false c.take_some-t.result.fits c.if-not-t.false)

good : (c : After-take_some-t) → Good (state_at (after c))
good c = stays_good c.loop-t.invariant.going c.take_some-t.result (took c) c.loop-t.invariant.good

input-small : (s : Start) → length s.args.input.now < 2 ^ 64
input-small s = search rules

archive-small : (s : Start) → length s.args.archive.now < 2 ^ 64
archive-small s = search rules

heard-small : (s : Start) → length s.args.heard.now < 2 ^ 64
heard-small s = search rules

within : (c : Then-t-eq0) → c.loop-t.at + c.take_some-t.result.used ≤ length c.args.input.now
within c =
    let c_back3 = c.before.before.before in
    (goes c_back3.before.before).inside

-- ---- the needs
pub take_some-t-requires : goal.take_some-t-requires
take_some-t-requires c =
    let i = c.loop-t.invariant in
    record { accepted = good_acceptable i.good; level = c.requires.callable.level; room = i.going.room }

pub returns-then-not-t : goal.returns-then-not-t
returns-then-not-t c =
    let c_back3 = c.before.before.before in
    let c_back6 = c_back3.before.before.before in
    record {
      passed = too_full c.loop-t.invariant.going c.take_some-t.result (took c_back6.before) 0 0
          (not-true c.take_some-t.result.fits c.if-not-t.true);
      left = λ f. absurd (false≢true f);
      accepted = λ f. absurd (false≢true f);
    }

pub loop-t-smaller : goal.loop-t-smaller
loop-t-smaller c =
    let c_back3 = c.before.before.before in
    omega (arith, (goes c_back3.before.before.before).inside, c.if-t-eq0.false)

pub loop-t-preserved : goal.loop-t-preserved
loop-t-preserved c =
    let c_back3 = c.before.before.before in
    let c_back6 = c_back3.before.before.before in
    let c_back9 = c_back6.before.before.before in
    record { going = goes c_back3.before.before.before; good = good c_back9.before.before.before }

pub take_last-requires : goal.take_last-requires
take_last-requires c =
    let c_back3 = c.before.before.before in
    let c_back6 = c_back3.before.before.before in
    let c_back9 = c_back6.before.before.before in
    let c_back12 = c_back9.before.before.before in
    let c_back15 = c_back12.before.before.before in
    let p = c.requires in
    let none : c.loop-t.at + c.take_some-t.result.used ≡ c.loop-t.at = omega (arith, c.if-t-eq0.true) in
    rw (take_rest c.args.input.now (length c.args.input.now)
    (c.loop-t.at + c.take_some-t.result.used) refl) (
      ready (goes c_back9.before) p.holds p.fit (good c_back15.before) p.callable.level,
      rw none
          ((took c_back15.before).rest c.if-t-eq0.true),
    )

pub returns : goal.returns
returns c =
    let c_back3 = c.before.before.before in
    let c_back6 = c_back3.before.before.before in
    let c_back9 = c_back6.before.before.before in
    let c_back12 = c_back9.before.before.before in
    let c_back15 = c_back12.before.before.before in
    let rest = take_rest c.args.input.now (length c.args.input.now)
    (c.loop-t.at + c.take_some-t.result.used) refl in
    let w = rw rest at c.take_last.ensures in
    record {
      passed = ends (goes c_back15) c.take_last.result w.passed;
      left = λ f. (goes c_back15).left ∙ w.left f;
      accepted = w.accepted;
    }

pub slice_bounds-take_some-count : goal.slice_bounds-take_some-count
slice_bounds-take_some-count c = omega (arith, c.loop-t.invariant.going.inside)

pub slice_bounds-take_some-start : goal.slice_bounds-take_some-start
slice_bounds-take_some-start c = omega (arith, c.loop-t.invariant.going.inside)

pub slice_bounds-take_some-end : goal.slice_bounds-take_some-end
slice_bounds-take_some-end c = omega (arith, c.loop-t.invariant.going.inside)

pub shape_of-archive-then-not-t : goal.shape_of-archive-then-not-t
shape_of-archive-then-not-t c =
    let c_back3 = c.before.before.before in
    let c_back6 = c_back3.before.before.before in
    same c_back6.before ∙ c.loop-t.invariant.going.long

pub shape_of-heard-then-not-t : goal.shape_of-heard-then-not-t
shape_of-heard-then-not-t c =
    let c_back3 = c.before.before.before in
    let c_back6 = c_back3.before.before.before in
    same_heard c_back6.before ∙ c.loop-t.invariant.going.same

pub overflow_add-at : goal.overflow_add-at
overflow_add-at c =
    let c_back3 = c.before.before.before in
    let c_back6 = c_back3.before.before.before in
    let c_back9 = c_back6.before.before.before in
    let c_back12 = c_back9.before.before.before in
    let c_back15 = c_back12.before.before.before in
    omega (arith, (goes c.before.before).inside, input-small c_back15.before.before)

pub overflow_add-rows : goal.overflow_add-rows
overflow_add-rows c =
    let c_back3 = c.before.before.before in
    let c_back6 = c_back3.before.before.before in
    let c_back9 = c_back6.before.before.before in
    let c_back12 = c_back9.before.before.before in
    let c_back15 = c_back12.before.before.before in
    let c_back18 = c_back15.before.before.before in
    omega (
      arith,
      (goes c.before.before.before).room.rows,
      (goes c.before.before.before).long,
      archive-small c_back18,
    )

pub overflow_add-closings : goal.overflow_add-closings
overflow_add-closings c =
    let c_back3 = c.before.before.before in
    let c_back6 = c_back3.before.before.before in
    let c_back9 = c_back6.before.before.before in
    let c_back12 = c_back9.before.before.before in
    let c_back15 = c_back12.before.before.before in
    let c_back18 = c_back15.before.before.before in
    omega (arith, (goes c_back3.before).room.closings, (goes c_back3.before).same, heard-small c_back18.before)

pub slice_bounds-take_last-count : goal.slice_bounds-take_last-count
slice_bounds-take_last-count c = omega (arith, within c.before.before)

pub slice_bounds-take_last-start : goal.slice_bounds-take_last-start
slice_bounds-take_last-start c = omega (arith, within c.before.before)

pub slice_bounds-take_last-end : goal.slice_bounds-take_last-end
slice_bounds-take_last-end c = omega (arith, within c.before.before)

pub shape_of-archive : goal.shape_of-archive
shape_of-archive c =
    let c_back3 = c.before.before.before in
    let c_back6 = c_back3.before.before.before in
    let c_back9 = c_back6.before.before.before in
    let c_back12 = c_back9.before.before.before in
    let c_back15 = c_back12.before.before.before in
    c.take_last.auto.archive ∙ (goes c_back15).long

pub shape_of-heard : goal.shape_of-heard
shape_of-heard c =
    let c_back3 = c.before.before.before in
    let c_back6 = c_back3.before.before.before in
    let c_back9 = c_back6.before.before.before in
    let c_back12 = c_back9.before.before.before in
    let c_back15 = c_back12.before.before.before in
    c.take_last.auto.heard ∙ (goes c_back15).same
