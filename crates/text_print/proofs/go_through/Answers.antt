-- The goals that a search does not find.
use mathlib.Core.Path.{◌≡◌, refl, sym, ap, ◌∙◌}
use mathlib.Core.List.{List, ◌++◌}
use Prim.Native.Nat.{ℕ, ◌+◌, ◌-◌, ◌^◌, ◌≤◌, ◌<◌, min}
use native.Mathlib.Omega.{arith}
use lib.Dec.{eqb}
use lib.ListN.{length, take, drop}
use lib.Seq.{length-take-le, length-sets}
use borrow.Author.Rules.{rules}
use Rattle.text_collect.specs.Session.{phase_of}
use Rattle.text_print.specs.Step.{chunk, output_capacity, position_after, printed_from, SteppedOver}
use Rattle.text_print.proofs.Turning.{begins, chunk_there, front_there, text-fits, too_short, done, goes_on, more_read}
use Rattle.text_print.proofs.go_through.Lts as lts
use Rattle.text_print.proofs.go_through.Reads as reads
use Rattle.text_print.proofs.go_through.Tie as tie
use Rattle.text_print.proofs.go_through.Goals as goal

-- states on the way
abbrev After-step-t : Type 0
After-step-t = lts.After-step tie.the-claims reads.Pre reads.Post goal.the-invariant-loop-out
    goal.the-decreases-loop-out

abbrev Else-out-to : Type 0
Else-out-to = lts.Else1 tie.the-claims reads.Pre reads.Post goal.the-invariant-loop-out goal.the-decreases-loop-out

abbrev After-slice_known-in-loop-out-1 : Type 0
After-slice_known-in-loop-out-1 = lts.After-slice_known2 tie.the-claims reads.Pre reads.Post
    goal.the-invariant-loop-out goal.the-decreases-loop-out

abbrev Start : Type 0
Start = lts.Start tie.the-claims reads.Pre reads.Post goal.the-invariant-loop-out goal.the-decreases-loop-out

pub loop-out-init : goal.loop-out-init
loop-out-init c =
    let a = c.args in
    record {
      passing = begins a.write a.input.now a.out.now c.start-s.ensures;
      few = omega arith;
      buffer_long = sym c.chunk_buffer-buffer.ensures;
      text_long = sym c.text_buffer-text.ensures;
      out_long = refl;
    }

abbrev input : After-step-t → List ℕ
input c = c.args.input.now

-- what is kept of a line, and how much was read behind it
abbrev kept : After-step-t → List ℕ
kept c = take c.loop-out.kept c.loop-out.buffer

abbrev read : After-step-t → ℕ
read c = c.read_some-n.result

kept-long : (c : After-step-t) → length (kept c) ≡ c.loop-out.kept
kept-long c = let i = c.loop-out.invariant in
    length-take-le c.loop-out.kept c.loop-out.buffer (omega (arith, i.few, i.buffer_long))

size : (c : After-step-t)
    → read c ≡ min (length (input c) - c.loop-out.at) (chunk - length (kept c))
size c = rw (kept-long c) c.read_some-n.ensures.0

within : (c : After-step-t) → c.loop-out.at + read c ≤ length (input c)
within c = omega (arith, size c, c.loop-out.invariant.passing.inside)

stepped : (c : After-step-t)
    → SteppedOver (phase_of c.loop-out.s) (kept c ++ take (read c) (drop c.loop-out.at (input c)))
    c.read_some-n.new.buffer (eqb (read c) 0) c.loop-out.text
    c.step-t.new.buffer c.step-t.new.out c.step-t.result
stepped c =
    let l = c.loop-out in
    let fits : l.kept + read c ≤ chunk = omega (arith, size c, kept-long c, l.invariant.few) in
    rw (chunk_there l.buffer (input c) l.kept l.at (read c) fits
    l.invariant.buffer_long (within c) c.read_some-n.ensures.1)
    at
    c.step-t.ensures

text-long : (c : After-step-t) → length c.step-t.new.out ≡ output_capacity
text-long c =
    let l = c.loop-out in
    let given = printed_from (phase_of l.s) (kept c ++ take (read c) (drop l.at (input c))) (eqb (read c) 0) in
    ap length (stepped c).output.bytes ∙ length-sets l.text 0 given ∙ l.invariant.text_long

room : (e : Else-out-to)
    → e.loop-out.to + e.step-t.result.written
    ≤ length e.args.out.now
room e = let i = e.loop-out.invariant in omega (arith, e.if-out-to.false, i.passing.room, i.out_long)

out-long : (c : After-slice_known-in-loop-out-1)
    → length c.write_some.new.out ≡ length c.args.out.now
out-long c = omega (arith, c.write_some.auto.out, c.loop-out.invariant.out_long)

-- ---- the needs

input-small : (s : Start) → length s.args.input.now < 2 ^ 64
input-small s = search rules

out-small : (s : Start) → length s.args.out.now < 2 ^ 64
out-small s = search rules

pub overflow_add-kept : goal.overflow_add-kept
overflow_add-kept c =
    let l = c.loop-out in
    omega (arith, c.read_some-n.ensures.0, l.invariant.few)

pub returns-then-out-to : goal.returns-then-out-to
returns-then-out-to c =
    let l = c.loop-out in
    let a = c.args in
    too_short a.write a.input.now a.out.now l.invariant.passing (read c.before.before) (size c.before.before)
    c.step-t.result (stepped c.before.before) l.invariant.text_long
    (omega (arith, c.if-out-to.true, l.invariant.out_long))

pub write_some-requires : goal.write_some-requires
write_some-requires c =
    let c_back3 = c.before.before.before in
    let l = c.loop-out in
    let a = c.args in (
      text-fits a.write a.input.now a.out.now l.invariant.passing
          (read c_back3.before) (size c_back3.before) c.step-t.result (stepped c_back3.before) l.invariant.text_long,
      omega (arith, room c.before.before.before, l.invariant.out_long),
    )

pub overflow_add-at : goal.overflow_add-at
overflow_add-at c =
    let c_back3 = c.before.before.before in
    let c_back6 = c_back3.before.before.before in
    let c_back9 = c_back6.before.before.before in
    let c_back12 = c_back9.before.before.before in
    let c_back15 = c_back12.before.before.before in
    let c_back18 = c_back15.before.before.before in
    omega (arith, within c_back6.before, input-small c_back18.before)

pub overflow_add-to : goal.overflow_add-to
overflow_add-to c =
    let c_back3 = c.before.before.before in
    let c_back6 = c_back3.before.before.before in
    let c_back9 = c_back6.before.before.before in
    let c_back12 = c_back9.before.before.before in
    let c_back15 = c_back12.before.before.before in
    let c_back18 = c_back15.before.before.before in
    omega (arith, room c_back3.before.before.before, out-small c_back18.before)

pub returns-then-t : goal.returns-then-t
returns-then-t c =
    let c_back3 = c.before.before.before in
    let c_back6 = c_back3.before.before.before in
    let l = c.loop-out in
    let a = c.args in
    done a.write a.input.now a.out.now l.invariant.passing (read c_back6.before.before)
    (size c_back6.before.before) c.step-t.result
    (stepped c_back6.before.before) l.invariant.text_long (room c_back6.before) c.write_some.ensures c.if-t.true

pub loop-out-smaller : goal.loop-out-smaller
loop-out-smaller c =
    let c_back3 = c.before.before.before in
    let c_back6 = c_back3.before.before.before in
    let l = c.loop-out in
    let a = c.args in
    let n =
    more_read a.write a.input.now a.out.now l.invariant.passing (read c_back6.before.before.before)
    (size c_back6.before.before.before) c.step-t.result
    (stepped c_back6.before.before.before) l.invariant.text_long
    (room c_back6.before.before) c.write_some.ensures c.if-t.false in
    omega (arith, n, within c_back6.before.before.before)

pub loop-out-preserved : goal.loop-out-preserved
loop-out-preserved c =
    let c_back3 = c.before.before.before in
    let c_back6 = c_back3.before.before.before in
    let l = c.loop-out in
    let a = c.args in
    let b = c.read_some-n in
    let t = stepped c_back6.before.before.before in
    let line = (position_after (phase_of l.s) (kept c_back6.before.before.before
    ++ take (read c_back6.before.before.before) (drop l.at (input c_back6.before.before.before)))).line in
    let size_of : length b.new.buffer ≡ chunk = omega (arith, b.auto.buffer, l.invariant.buffer_long) in
    record {
      passing =
          rw (front_there b.new.buffer line t.kept (omega (arith, t.few, size_of)) t.line)
          (goes_on a.write a.input.now a.out.now l.invariant.passing (read c_back6.before.before.before)
          (size c_back6.before.before.before) c.step-t.result t
          l.invariant.text_long (room c_back6.before.before) c.write_some.ensures c.if-t.false);
      few = t.few;
      buffer_long = ap length t.line ∙ length-sets b.new.buffer 0 line ∙ size_of;
      text_long = text-long c_back6.before.before.before;
      out_long = out-long c.before.before.before;
    }

pub slice_bounds-read_some-end : goal.slice_bounds-read_some-end
slice_bounds-read_some-end c = sym c.loop-out.invariant.buffer_long

pub read_some-n-requires : goal.read_some-n-requires
read_some-n-requires c = let i = c.loop-out.invariant in (i.passing.inside, omega (arith, i.few), i.buffer_long)

pub overflow_sub-out : goal.overflow_sub-out
overflow_sub-out c = let i = c.loop-out.invariant in omega (arith, i.passing.room, i.out_long)

pub shape_of-out-then-out-to : goal.shape_of-out-then-out-to
shape_of-out-then-out-to c = c.loop-out.invariant.out_long

pub slice_bounds-write_some-end : goal.slice_bounds-write_some-end
slice_bounds-write_some-end c = sym (text-long c.before.before.before)

pub shape_of-out-then-t : goal.shape_of-out-then-t
shape_of-out-then-t c = out-long c.before.before
