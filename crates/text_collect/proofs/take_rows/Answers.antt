-- `text_collect::take_rows` meets its contract: each line is taken by what `parse` says of it.
use mathlib.Core.Path.{◌≡◌, refl, ap, ◌∙◌}
use mathlib.Core.Bool.{false}
use mathlib.Core.List.{[]}
use Prim.Native.Nat.{◌+◌, ◌-◌, ◌*◌, ◌^◌, ◌<◌}
use native.Mathlib.Omega.{arith}
use native.Mathlib.Nat.{zero-add}
use borrow.Author.Rules.{rules}
use lib.ListN.{take, drop}
use Rattle.collector_model.specs.View.{Reception}
use Rattle.collector_model.specs.Step.{StepOutcome}
use Rattle.collector_state.specs.Collector.{columns_lent}
use Rattle.collector_state.specs.Admission.{admitted_of}
use Rattle.collector_state.proofs.Loans.{same_loans, both_loans}
use Rattle.collector_state.proofs.Stepping.{admission-fit, columns-fit, tested_next}
use Rattle.text_rows.specs.Text.{decimal_text}
use Rattle.base_buffers.proofs.Stores.{if_fits}
use Rattle.text_program.specs.Collect.{collect}
use Rattle.text_program.proofs.Limit.{bounded}
use Rattle.text_collect.specs.Session.{model_collector}
use Rattle.text_collect.proofs.Taking.{relayed_bytes}
use Rattle.text_collect.proofs.Storing.{printed_none, bad-text, said-text}
use Rattle.text_collect.proofs.Turns.{none_taken, bad-taken, said-taken}
use Rattle.text_collect.proofs.Parsing.{parsed, none_ended, few, len-within, padded-bytes, ended, within, says-bad, says, spare, time, short}
use Rattle.text_collect.proofs.take_rows.Goals as goal
use Rattle.text_collect.proofs.take_rows.Goals.{else-loop-out-test, then-loop-out-test+then-left-eq0, then-loop-out-test+else-left-eq0+then-moments-n, then-loop-out-test+else-left-eq0+else-moments-n+in_default}

pub loop-out-init : goal.loop-out-init
loop-out-init c =
    let a = c.args in (
      none_taken (collect model_collector) (bounded model_collector) false
          a.input.now a.most a.out.now c.requires.0 c.requires.1,
      same_loans a.state.now,
    )

pub overflow_add-at : goal.overflow_add-at
overflow_add-at c =
    let p = parsed c.args.input.now c.loop-out.at c.parse.ensures in
    let h = within p c.in-Some.is c.loop-out.invariant.0.inside in
    omega arith

-- ---- a BAD one
pub loop-out-smaller-in_default-heard : goal.loop-out-smaller-in_default-heard
loop-out-smaller-in_default-heard c =
    let p = parsed c.args.input.now c.loop-out.at c.parse.ensures in
    omega (arith, within p c.in-Some.is c.loop-out.invariant.0.inside, (ended p c.in-Some.is).1)

pub loop-out-preserved-in_default-heard : goal.loop-out-preserved-in_default-heard
loop-out-preserved-in_default-heard c =
    let p = parsed c.args.input.now c.loop-out.at c.parse.ensures in
    let u = c.in-Some.is in
    let i = c.loop-out.invariant.0 in
    let b = says-bad p u c.in_default-heard.is in
    let test = c.loop-out-test.true in
    let w = if_fits (omega arith) c.put_bad-behind.ensures in (
      bad-taken (collect model_collector) (bounded model_collector) false (λ s x. refl) c.args.input.now i
          c.in-Some.line.used (ended p u) c.if-left-eq0.false
          (record {
            rows = omega (arith, i.times.output.next, i.same_moments, c.if-moments-n.false);
            chars = omega (arith, i.fed.output.next, i.long, i.room, test);
          })
          b (bad-text _ _ b) w
          (omega (arith, w.short, test)),
      c.loop-out.invariant.1,
    )

-- ---- a reception
pub overflow_mul-end : goal.overflow_mul-end
overflow_mul-end c =
    let h = few (parsed c.args.input.now c.loop-out.at c.parse.ensures) c.in-Some.is c.in-Some-heard.is in
    omega arith

pub overflow_add-end : goal.overflow_add-end
overflow_add-end c =
    let h = few (parsed c.args.input.now c.loop-out.at c.parse.ensures) c.in-Some.is c.in-Some-heard.is in
    omega arith

pub overflow_sub-end : goal.overflow_sub-end
overflow_sub-end c =
    omega (arith, spare (parsed c.args.input.now c.loop-out.at c.parse.ensures) c.in-Some.is c.in-Some-heard.is)

pub slice_bounds-admit-end : goal.slice_bounds-admit-end
slice_bounds-admit-end c =
    omega (arith, len-within (parsed c.args.input.now c.loop-out.at c.parse.ensures) c.in-Some.is c.in-Some-heard.is)

pub store_row-n-requires : goal.store_row-n-requires
store_row-n-requires c =
    let p = parsed c.args.input.now c.loop-out.at c.parse.ensures in
    let i = c.loop-out.invariant.0 in
    let place = c.if-moments-n.false in (
      omega (arith, place),
      omega (arith, place, i.same_moments, i.same_rows, i.sized),
      padded-bytes p c.in-Some.is c.in-Some-heard.is,
      few p c.in-Some.is c.in-Some-heard.is,
    )

pub slice_bounds-put_answer-count : goal.slice_bounds-put_answer-count
slice_bounds-put_answer-count c =
    omega (arith, spare (parsed c.args.input.now c.loop-out.at c.parse.ensures) c.in-Some.is c.in-Some-heard.is)

pub slice_bounds-put_answer-start : goal.slice_bounds-put_answer-start
slice_bounds-put_answer-start c =
    omega (arith, spare (parsed c.args.input.now c.loop-out.at c.parse.ensures) c.in-Some.is c.in-Some-heard.is)

pub slice_bounds-put_answer-end : goal.slice_bounds-put_answer-end
slice_bounds-put_answer-end c =
    let p = parsed c.args.input.now c.loop-out.at c.parse.ensures in
    omega (arith, within p c.in-Some.is c.loop-out.invariant.0.inside)

pub slice_bounds-put_answer-end-in-loop-out : goal.slice_bounds-put_answer-end-in-loop-out
slice_bounds-put_answer-end-in-loop-out c =
    omega (arith, len-within (parsed c.args.input.now c.loop-out.at c.parse.ensures) c.in-Some.is c.in-Some-heard.is)

pub put_answer-to-requires : goal.put_answer-to-requires
put_answer-to-requires c = (
  short (parsed c.args.input.now c.loop-out.at c.parse.ensures) c.in-Some.is c.in-Some-heard.is (omega arith),
  omega arith,
)

pub loop-out-smaller : goal.loop-out-smaller
loop-out-smaller c =
    let p = parsed c.args.input.now c.loop-out.at c.parse.ensures in
    omega (arith, within p c.in-Some.is c.loop-out.invariant.0.inside, (ended p c.in-Some.is).1)

pub loop-out-preserved : goal.loop-out-preserved
loop-out-preserved c =
    let l = c.in-Some.line in
    let h = c.in-Some-heard.said in
    let at = c.loop-out.at in
    let i = c.loop-out.invariant.0 in
    let u = c.in-Some.is in
    let f = c.in-Some-heard.is in
    let p = parsed c.args.input.now at c.parse.ensures in
    let r : Reception = record { bytes = take h.len c.parse.new.bytes; time = h.time } in
    let small : h.time < 2 ^ 64 = search rules in
    let moment : take (at + l.used - (2 + 2 * h.len) - at) (drop at c.args.input.now) ≡ decimal_text h.time =
    time p u f (omega arith) in
    let z : h.len - 0 ≡ h.len = omega arith in
    let o = rw z at (c.admit-answer.ensures.admits.outcome ∙ admission-fit _ _ _ i.tested.said) in
    let stepped = rw z at c.admit-answer.ensures.admits.outcome in
    let w = rw z at c.put_answer-to.ensures in
    let spare-out = c.loop-out-test.true in
    let place = c.if-moments-n.false in
    let d = c.store_row-n.ensures in
    let last = c.admit-answer.new.self in
    let x =
    admitted_of (columns_lent last) (record { summary = last.summary; answer = c.admit-answer.result }) in (
      said-taken (collect model_collector) (bounded model_collector) false (λ s y. refl) c.args.input.now i
          l.used (ended p u) c.if-left-eq0.false
          (record {
            rows = omega (arith, i.times.output.next, i.same_moments, place);
            chars = omega (arith, i.fed.output.next, i.long, i.room, spare-out);
          })
          x (says p u f) o
          (rw z at c.admit-answer.ensures.admits.elements ∙ columns-fit _ r _ _ i.tested.said)
          (rw (← o) at (tested_next _ r i.tested small))
          (said-text _ _ x (says p u f) o moment
          (relayed_bytes _ _ _ r _ (ap (λ (y : StepOutcome). y.answer) stepped)))
          w
          (omega (arith, w.short, spare-out)) place d.0 d.1 (printed_none [] 0 2048) (omega arith),
      both_loans c.loop-out.invariant.1 c.admit-answer.ensures.same_loans,
    )

-- ---- the end
pub returns : goal.returns
returns c =
    let l = c.loop-out.invariant.0 in
    record {
      stored = record {
        within = l.inside;
        elements = l.elements;
        text = l.fed;
        times = l.times;
        records = l.records;
        ticks = l.ticks.output.next ∙ zero-add _;
        few = omega arith;
        due = l.due;
        rest = λ x y z.
            elim c.loop-out-test.branch [
              | else-loop-out-test w ↦ absurd (omega (arith, w.loop-out-test.false, l.long))
              | then-loop-out-test+then-left-eq0 w ↦ absurd (omega (arith, w.if-left-eq0.true))
              | then-loop-out-test+else-left-eq0+then-moments-n w ↦
                  absurd (omega (arith, w.if-moments-n.true, l.same_moments))
              | then-loop-out-test+else-left-eq0+else-moments-n+in_default w ↦
                  none_ended (parsed c.args.input.now c.loop-out.at w.parse.ensures) w.in_default.is
            ];
      };
      same_loans = c.loop-out.invariant.1;
    }
