-- The goals that a search does not find.
use mathlib.Core.Path.{◌≡◌, refl, ◌∙◌}
use Prim.Native.Nat.{◌+◌, ◌-◌, ◌≤◌}
use native.Mathlib.Omega.{arith}
use lib.ListN.{length, take, drop, length-take, length-drop}
use lib.Seq.{length-take-le}
use borrow.Rule.Slice.PartMut.{put_mid, same_len_mid}
use Rattle.base_buffers.proofs.Stores.{take_rest}
use Rattle.text_program.specs.Collect.{collect}
use Rattle.text_program.specs.Buffer.{Fed}
use Rattle.text_program.proofs.Limit.{bounded}
use Rattle.text_program.proofs.Takes.{fed_none}
use Rattle.text_collect.specs.Session.{model_collector, phase_of, Ran}
use Rattle.text_collect.proofs.Taking.{none_written}
use Rattle.text_print.proofs.Parts.{more-fed}
use Rattle.text_print.proofs.Bound.{printed-bound}
use Rattle.text_print.proofs.Draining.{none_left}
use Rattle.text_print.proofs.take_lines.Lts as lts
use Rattle.text_print.proofs.take_lines.Reads as reads
use Rattle.text_print.proofs.take_lines.Tie as tie
use Rattle.text_print.proofs.take_lines.Goals as goal

-- states on the way
abbrev At-loop-at : Type 0
At-loop-at = lts.At-loop tie.the-claims reads.Pre reads.Post goal.the-invariant-loop-at goal.the-decreases-loop-at

abbrev After-lines-p : Type 0
After-lines-p = lts.After-lines tie.the-claims reads.Pre reads.Post goal.the-invariant-loop-at
    goal.the-decreases-loop-at

pub loop-at-init : goal.loop-at-init
loop-at-init c =
    record { inside = omega arith; long = refl; fed = fed_none (collect model_collector) (bounded model_collector) _ _ }

-- there is room for a further line, and for an end
room : (l : At-loop-at) → l.loop-at.to + 512 ≤ length l.loop-at.out
room l =
    let input = l.args.input.now in
    let i = l.loop-at.invariant in
    let b = printed-bound (phase_of l.args.s) (take l.loop-at.at input) in
    let h = l.requires in
    omega (
      arith,
      b,
      i.fed.output.next,
      i.long,
      h.0,
      h.1,
      length-take-le l.loop-at.at input i.inside,
      i.inside,
    )

pub slice_bounds-lines-count-in-loop-at : goal.slice_bounds-lines-count-in-loop-at
slice_bounds-lines-count-in-loop-at c = omega (arith, room c.before.before.before)

pub slice_bounds-lines-start-in-loop-at : goal.slice_bounds-lines-start-in-loop-at
slice_bounds-lines-start-in-loop-at c = omega (arith, room c.before.before.before)

ran : (c : After-lines-p) → (let l = c.loop-at in let input = c.args.input.now in
    Ran (phase_of l.s) (drop l.at input) (take (length l.out - l.to) (drop l.to l.out))
    c.lines-p.new.out c.lines-p.result)
ran c =
    let input = c.args.input.now in
    rw (take_rest input (length input) c.loop-at.at refl) at c.lines-p.ensures

more : (c : After-lines-p) → (let l = c.loop-at in let a = c.args in
    Fed (collect model_collector) (phase_of a.s) (take (l.at + c.lines-p.result.used) a.input.now)
    a.out.now (phase_of c.lines-p.result.session)
    (put_mid l.to (length l.out - l.to) l.out c.lines-p.new.out) (l.to + c.lines-p.result.written))
more c =
    let c_back3 = c.before.before.before in
    let l = c.loop-at in
    more-fed (collect model_collector) c.args.input.now l.at
    c.lines-p.result.used l.invariant.fed l.invariant.long (omega (arith, room c_back3.before)) (ran c).fed

used-fits : (c : After-lines-p)
    → c.loop-at.at + c.lines-p.result.used ≤ length c.args.input.now
used-fits c =
    let l = c.loop-at in
    omega (arith, (ran c).within, length-drop l.at c.args.input.now, l.invariant.inside)

written-fits : (c : After-lines-p)
    → c.loop-at.to + c.lines-p.result.written ≤ length c.loop-at.out
written-fits c = let l = c.loop-at in omega (arith, (more c).output.short, l.invariant.long)

same : (c : After-lines-p) → (let l = c.loop-at in
    length (put_mid l.to (length l.out - l.to) l.out c.lines-p.new.out)
    ≡ length c.args.out.now)
same c =
    let l = c.loop-at in
    same_len_mid l.to (length l.out - l.to) l.out c.lines-p.new.out c.lines-p.auto.out
    ∙ l.invariant.long

pub overflow_add-at : goal.overflow_add-at
overflow_add-at c =
    let c_back3 = c.before.before.before in
    let c_back6 = c_back3.before.before.before in
    omega (arith, used-fits c_back6.before)

pub overflow_add-to : goal.overflow_add-to
overflow_add-to c =
    let c_back3 = c.before.before.before in
    let c_back6 = c_back3.before.before.before in
    omega (arith, written-fits c_back6.before.before, c.loop-at.invariant.long, c.requires.1)

pub loop-at-smaller : goal.loop-at-smaller
loop-at-smaller c =
    let c_back3 = c.before.before.before in
    let c_back6 = c_back3.before.before.before in
    omega (arith, used-fits c_back6.before.before)

pub loop-at-preserved : goal.loop-at-preserved
loop-at-preserved c =
    let c_back3 = c.before.before.before in
    let c_back6 = c_back3.before.before.before in
    record {
      inside = used-fits c_back6.before.before;
      long = same c_back6.before.before;
      fed =
          more c_back6.before.before;
    }

pub returns-after-loop-at : goal.returns-after-loop-at
returns-after-loop-at c =
    let i = c.loop-at.invariant in
    record { within = i.inside; fed = i.fed; rest = none_left _ _ c.loop-at-test.false }

pub returns-then-p-eq0 : goal.returns-then-p-eq0
returns-then-p-eq0 c =
    let c_back3 = c.before.before.before in
    let c_back6 = c_back3.before.before.before in
    let c_back9 = c_back6.before.before.before in
    let l = c.loop-at in
    let input = c.args.input.now in
    let none = none_written (drop l.at input) (ran c_back3.before.before.before).fed c.if-p-eq0.true in
    let here : l.at + c.lines-p.result.used ≡ l.at = omega (arith, c.if-p-eq0.true) in
    let there : l.to + c.lines-p.result.written ≡ l.to = omega arith in
    record {
      within = l.invariant.inside;
      fed = rw (here, there) at (more c_back3.before.before.before);
      rest =
          (ran c_back3.before.before.before).rest c.if-p-eq0.true
          (omega (
            arith,
            room c_back9.before,
            length-take (length l.out - l.to) (drop l.to l.out),
            length-drop l.to l.out,
          ));
    }
