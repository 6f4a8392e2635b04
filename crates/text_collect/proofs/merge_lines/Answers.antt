-- `text_collect::merge_lines` meets its contract: each line is taken by what `parse` says of it.
use mathlib.Core.Path.{◌≡◌, refl, ap, ◌∙◌}
use Prim.Native.Nat.{◌+◌, ◌-◌, ◌*◌, ◌^◌, ◌<◌}
use native.Mathlib.Omega.{arith}
use borrow.Author.Rules.{rules}
use lib.ListN.{take, drop}
use Rattle.collector_model.specs.View.{Reception}
use Rattle.collector_model.specs.Step.{StepOutcome}
use Rattle.collector_state.specs.Collector.{columns_lent}
use Rattle.collector_state.specs.Admission.{admitted_of}
use Rattle.collector_state.proofs.Loans.{same_loans, both_loans}
use Rattle.collector_state.proofs.Stepping.{admission-fit, tested_next}
use Rattle.text_rows.specs.Text.{decimal_text}
use Rattle.base_buffers.proofs.Stores.{if_fits}
use Rattle.text_program.specs.Collect.{collect}
use Rattle.text_program.proofs.Limit.{bounded}
use Rattle.text_program.proofs.Takes.{fed_none}
use Rattle.text_collect.specs.Session.{model_collector}
use Rattle.text_collect.proofs.Taking.{none_written, open_from_start, same_length, relayed_bytes}
use Rattle.text_collect.proofs.Storing.{rows-line, bad_next, bad-text, said_next, said-text}
use Rattle.text_collect.proofs.Parsing.{parsed, none_ended, few, len-within, ended, within, says-bad, says, spare, time, short}
use Rattle.text_collect.proofs.merge_lines.Goals as goal

pub loop-out-init : goal.loop-out-init
loop-out-init c = (
  record {
    inside = omega arith;
    room = omega arith;
    long = refl;
    tested = c.requires;
    fed = fed_none (collect model_collector) (bounded model_collector) _ _;
  },
  same_loans c.args.state.now,
)

pub overflow_add-at : goal.overflow_add-at
overflow_add-at c =
    let p = parsed c.args.input.now c.loop-out.at c.parse.ensures in
    let h = within p c.in-Some.is c.loop-out.invariant.0.inside in
    omega arith

-- ---- a BAD one
pub loop-out-smaller-in_default-heard : goal.loop-out-smaller-in_default-heard
loop-out-smaller-in_default-heard c =
    let p = parsed c.args.input.now c.loop-out.at c.parse.ensures in
    omega (arith, within p c.in-Some.is c.loop-out.invariant.0.inside, (ended p c.in-Some.is).1)

pub loop-out-preserved-in_default-heard : goal.loop-out-preserved-in_default-heard
loop-out-preserved-in_default-heard c =
    let p = parsed c.args.input.now c.loop-out.at c.parse.ensures in
    let u = c.in-Some.is in
    let i = c.loop-out.invariant.0 in
    let b = says-bad p u c.in_default-heard.is in
    let w = if_fits (omega arith) c.put_bad-to.ensures in (
      record {
        inside = within p u i.inside;
        room = omega arith;
        long = omega arith;
        tested = i.tested;
        fed =
            rows-line (collect model_collector) (bounded model_collector) c.args.input.now c.loop-out.at
            c.in-Some.line.used i.fed (ended p u) i.inside
            (omega arith) (bad-text _ _ b) (bad_next _ _ b) w;
      },
      c.loop-out.invariant.1,
    )

-- ---- a reception
pub overflow_mul-end : goal.overflow_mul-end
overflow_mul-end c =
    let h = few (parsed c.args.input.now c.loop-out.at c.parse.ensures) c.in-Some.is c.in-Some-heard.is in
    omega arith

pub overflow_add-end : goal.overflow_add-end
overflow_add-end c =
    let h = few (parsed c.args.input.now c.loop-out.at c.parse.ensures) c.in-Some.is c.in-Some-heard.is in
    omega arith

pub overflow_sub-end : goal.overflow_sub-end
overflow_sub-end c =
    omega (arith, spare (parsed c.args.input.now c.loop-out.at c.parse.ensures) c.in-Some.is c.in-Some-heard.is)

pub slice_bounds-admit-end : goal.slice_bounds-admit-end
slice_bounds-admit-end c =
    omega (arith, len-within (parsed c.args.input.now c.loop-out.at c.parse.ensures) c.in-Some.is c.in-Some-heard.is)

pub slice_bounds-put_answer-count : goal.slice_bounds-put_answer-count
slice_bounds-put_answer-count c =
    omega (arith, spare (parsed c.args.input.now c.loop-out.at c.parse.ensures) c.in-Some.is c.in-Some-heard.is)

pub slice_bounds-put_answer-start : goal.slice_bounds-put_answer-start
slice_bounds-put_answer-start c =
    omega (arith, spare (parsed c.args.input.now c.loop-out.at c.parse.ensures) c.in-Some.is c.in-Some-heard.is)

pub slice_bounds-put_answer-end : goal.slice_bounds-put_answer-end
slice_bounds-put_answer-end c =
    let p = parsed c.args.input.now c.loop-out.at c.parse.ensures in
    omega (arith, within p c.in-Some.is c.loop-out.invariant.0.inside)

pub slice_bounds-put_answer-end-in-loop-out : goal.slice_bounds-put_answer-end-in-loop-out
slice_bounds-put_answer-end-in-loop-out c =
    omega (arith, len-within (parsed c.args.input.now c.loop-out.at c.parse.ensures) c.in-Some.is c.in-Some-heard.is)

pub put_answer-to-requires : goal.put_answer-to-requires
put_answer-to-requires c = (
  short (parsed c.args.input.now c.loop-out.at c.parse.ensures) c.in-Some.is c.in-Some-heard.is (omega arith),
  omega arith,
)

pub loop-out-smaller : goal.loop-out-smaller
loop-out-smaller c =
    let p = parsed c.args.input.now c.loop-out.at c.parse.ensures in
    omega (arith, within p c.in-Some.is c.loop-out.invariant.0.inside, (ended p c.in-Some.is).1)

pub loop-out-preserved : goal.loop-out-preserved
loop-out-preserved c =
    let l = c.in-Some.line in
    let h = c.in-Some-heard.heard in
    let at = c.loop-out.at in
    let i = c.loop-out.invariant.0 in
    let u = c.in-Some.is in
    let f = c.in-Some-heard.is in
    let p = parsed c.args.input.now at c.parse.ensures in
    let r : Reception = record { bytes = take h.len c.parse.new.bytes; time = h.time } in
    let small : h.time < 2 ^ 64 = search rules in
    let moment : take (at + l.used - (2 * h.len + 2) - at) (drop at c.args.input.now) ≡ decimal_text h.time =
    time p u f (omega arith) in
    let z : h.len - 0 ≡ h.len = omega arith in
    let o = rw z at (c.admit-answer.ensures.admits.outcome ∙ admission-fit _ _ _ i.tested.said) in
    let stepped = rw z at c.admit-answer.ensures.admits.outcome in
    let w = rw z at c.put_answer-to.ensures in
    let same = same_length w in
    let spare-out = c.loop-out-test.true in
    let last = c.admit-answer.new.self in
    let x =
    admitted_of (columns_lent last) (record { summary = last.summary; answer = c.admit-answer.result }) in (
      record {
        inside = within p u i.inside;
        room = omega (arith, w.short, same, spare-out);
        long = omega (arith, same, i.long);
        tested = rw (← o) at (tested_next _ r i.tested small);
        fed =
            rows-line (collect model_collector) (bounded model_collector) c.args.input.now at
            l.used i.fed (ended p u) i.inside
            (omega (arith, w.short, same, spare-out, i.long))
            (said-text _ _ x (says p u f) o moment
            (relayed_bytes _ _ _ r _ (ap (λ (y : StepOutcome). y.answer) stepped)))
            (said_next _ _ x (says p u f) o) w;
      },
      both_loans c.loop-out.invariant.1 c.admit-answer.ensures.same_loans,
    )

-- ---- the end
pub returns-after-loop-out : goal.returns-after-loop-out
returns-after-loop-out c =
    record {
      ran = record {
        within = omega arith;
        fed = c.loop-out.invariant.0.fed;
        rest = λ e h. absurd (let z = none_written c.args.input.now c.loop-out.invariant.0.fed e in omega arith);
      };
      same_loans = c.loop-out.invariant.1;
    }

pub returns-in_default : goal.returns-in_default
returns-in_default c =
    record {
      ran = record {
        within = c.loop-out.invariant.0.inside;
        fed = c.loop-out.invariant.0.fed;
        rest =
            λ e h. open_from_start c.args.input.now c.loop-out.at e
            (none_ended (parsed c.args.input.now c.loop-out.at c.parse.ensures) c.in_default.is);
      };
      same_loans = c.loop-out.invariant.1;
    }
