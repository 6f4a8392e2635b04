-- `text_collect::formats::take_rows_as` meets its contract: each line is taken by what `parse` says of it.
use mathlib.Core.Path.{◌≡◌, refl, sym, ap, ap₂, subst, ◌∙◌}
use mathlib.Core.Bool.{cond, false≢true}
use mathlib.Core.List.{List, []}
use Prim.Native.Nat.{ℕ, ◌+◌, ◌-◌, ◌*◌, ◌^◌, ◌<◌}
use native.Mathlib.Omega.{arith}
use native.Mathlib.Nat.{zero-add}
use borrow.Author.Rules.{rules}
use lib.ListN.{length, take, drop, length-take}
use Rattle.collector_model.specs.View.{View}
use Rattle.collector_model.specs.Step.{StepOutcome}
use Rattle.collector_state.specs.Collector.{Columns, columns_lent, view_in}
use Rattle.collector_state.specs.Admission.{Tested, relayed_for, admission, admitted_of, columns_admitted}
use Rattle.collector_state.proofs.Loans.{same_loans, both_loans}
use Rattle.collector_state.proofs.Stepping.{admission-fit, columns-fit, tested_next}
use Rattle.collector_closings.specs.Cells.{closed_cells}
use Rattle.text_rows.specs.Text.{decimal_text}
use Rattle.text_rows.specs.Formats.{row_text_in}
use Rattle.base_buffers.specs.Printed.{Printed}
use Rattle.base_buffers.proofs.Stores.{if_fits}
use Rattle.text_collect.specs.Printed.{printed_row, reception_at}
use Rattle.text_collect.specs.Formats.{source_of, collect_in}
use Rattle.text_collect.specs.Heard.{is_asked}
use Rattle.text_collect.proofs.Taking.{relayed_bytes}
use Rattle.text_collect.proofs.Formatting.{format_bounded, bad-text, said-text}
use Rattle.text_collect.proofs.Turns.{none_taken, bad-taken, said-taken, room-left, room_there, asked_same}
use Rattle.text_collect.proofs.Parsing.{parsed, none_ended, few, len-within, padded-bytes, ended, within, says-bad, says, spare, time, short}
use Rattle.text_collect.proofs.formats.take_rows_as.Goals as goal
use Rattle.text_collect.proofs.formats.take_rows_as.Goals.{else-loop-out-test, then-loop-out-test+then-left-eq0, then-loop-out-test+else-left-eq0+then-moments-n, then-loop-out-test+else-left-eq0+else-moments-n+then-not-has_room, then-loop-out-test+else-left-eq0+else-moments-n+else-not-has_room+in_default}

pub loop-out-init : goal.loop-out-init
loop-out-init c =
    let a = c.args in (
      none_taken (collect_in a.format) (format_bounded a.format)
          (is_asked a.closed.now) a.input.now a.most
          a.out.now c.requires.0 c.requires.1,
      same_loans a.state.now,
    )

pub overflow_add-at : goal.overflow_add-at
overflow_add-at c =
    let p = parsed c.args.input.now c.loop-out.at c.parse.ensures in
    let h = within p c.in-Some.is c.loop-out.invariant.0.inside in
    let k : length c.args.input.now < 2 ^ 64 = search rules in
    omega arith

-- ---- a BAD one
pub loop-out-smaller-in_default-heard : goal.loop-out-smaller-in_default-heard
loop-out-smaller-in_default-heard c =
    let p = parsed c.args.input.now c.loop-out.at c.parse.ensures in
    omega (arith, within p c.in-Some.is c.loop-out.invariant.0.inside, (ended p c.in-Some.is).1)

pub loop-out-preserved-in_default-heard : goal.loop-out-preserved-in_default-heard
loop-out-preserved-in_default-heard c =
    let s = c.args in
    let p = parsed s.input.now c.loop-out.at c.parse.ensures in
    let u = c.in-Some.is in
    let i = c.loop-out.invariant.0 in
    let b = says-bad p u c.in_default-heard.is in
    let test = c.loop-out-test.true in
    let w = if_fits (omega arith) c.put_bad-to.ensures in
    let fitting = sym c.has_room.ensures ∙ c.if-not-has_room.false in (
      bad-taken (collect_in s.format) (format_bounded s.format) (is_asked s.closed.now) (λ s x. refl) s.input.now i
          c.in-Some.line.used (ended p u) c.if-left-eq0.false
          (record {
            rows = omega (arith, i.times.output.next, i.same_moments, c.if-moments-n.false);
            chars = omega (arith, i.fed.output.next, i.long, i.room, test);
            closings = room_there c.loop-out.k i.closes i.same_closed fitting;
          })
          b (bad-text s.format _ _ b) w (omega (arith, w.short, test)),
      c.loop-out.invariant.1,
    )

-- ---- a reception
pub overflow_mul-end : goal.overflow_mul-end
overflow_mul-end c =
    let h = few (parsed c.args.input.now c.loop-out.at c.parse.ensures) c.in-Some.is c.in-Some-heard.is in
    omega arith

pub overflow_add-end : goal.overflow_add-end
overflow_add-end c =
    let h = few (parsed c.args.input.now c.loop-out.at c.parse.ensures) c.in-Some.is c.in-Some-heard.is in
    omega arith

pub overflow_sub-end : goal.overflow_sub-end
overflow_sub-end c =
    omega (arith, spare (parsed c.args.input.now c.loop-out.at c.parse.ensures) c.in-Some.is c.in-Some-heard.is)

pub slice_bounds-put_closed-end : goal.slice_bounds-put_closed-end
slice_bounds-put_closed-end c =
    omega (arith, len-within (parsed c.args.input.now c.loop-out.at c.parse.ensures) c.in-Some.is c.in-Some-heard.is)

pub put_closed-k-requires : goal.put_closed-k-requires
put_closed-k-requires c = (
  subst (λ (v : View). Tested c.args.fit v) (sym (ap₂ view_in c.held.ensures.0 c.held.ensures.1))
      c.loop-out.invariant.0.tested,
  sym c.has_room.ensures ∙ c.if-not-has_room.false,
)

pub slice_bounds-admit-end : goal.slice_bounds-admit-end
slice_bounds-admit-end c =
    omega (arith, len-within (parsed c.args.input.now c.loop-out.at c.parse.ensures) c.in-Some.is c.in-Some-heard.is)

pub store_row-n-requires : goal.store_row-n-requires
store_row-n-requires c =
    let p = parsed c.args.input.now c.loop-out.at c.parse.ensures in
    let i = c.loop-out.invariant.0 in
    let place = c.if-moments-n.false in (
      omega (arith, place),
      omega (arith, place, i.same_moments, i.same_rows, i.sized),
      padded-bytes p c.in-Some.is c.in-Some-heard.is,
      few p c.in-Some.is c.in-Some-heard.is,
    )

pub slice_bounds-put_answer-count : goal.slice_bounds-put_answer-count
slice_bounds-put_answer-count c =
    omega (arith, spare (parsed c.args.input.now c.loop-out.at c.parse.ensures) c.in-Some.is c.in-Some-heard.is)

pub slice_bounds-put_answer-start : goal.slice_bounds-put_answer-start
slice_bounds-put_answer-start c =
    omega (arith, spare (parsed c.args.input.now c.loop-out.at c.parse.ensures) c.in-Some.is c.in-Some-heard.is)

pub slice_bounds-put_answer-end : goal.slice_bounds-put_answer-end
slice_bounds-put_answer-end c =
    let p = parsed c.args.input.now c.loop-out.at c.parse.ensures in
    omega (arith, within p c.in-Some.is c.loop-out.invariant.0.inside)

pub slice_bounds-put_answer-end-in-loop-out : goal.slice_bounds-put_answer-end-in-loop-out
slice_bounds-put_answer-end-in-loop-out c =
    omega (arith, len-within (parsed c.args.input.now c.loop-out.at c.parse.ensures) c.in-Some.is c.in-Some-heard.is)

pub put_answer-to-requires : goal.put_answer-to-requires
put_answer-to-requires c =
    let p = parsed c.args.input.now c.loop-out.at c.parse.ensures in (
      short p c.in-Some.is c.in-Some-heard.is (omega arith),
      omega (
        arith,
        few p c.in-Some.is c.in-Some-heard.is,
        length-take (c.in-Some-heard.heard.len - 0) c.parse.new.bytes,
      ),
      omega arith,
    )

pub loop-out-smaller : goal.loop-out-smaller
loop-out-smaller c =
    let p = parsed c.args.input.now c.loop-out.at c.parse.ensures in
    omega (arith, within p c.in-Some.is c.loop-out.invariant.0.inside, (ended p c.in-Some.is).1)

pub loop-out-preserved : goal.loop-out-preserved
loop-out-preserved c =
    let l = c.in-Some.line in
    let h = c.in-Some-heard.heard in
    let s = c.args in
    let at = c.loop-out.at in
    let inv = c.loop-out.invariant.0 in
    let u = c.in-Some.is in
    let f = c.in-Some-heard.is in
    let p = parsed s.input.now at c.parse.ensures in
    let heard = c.parse.new.bytes in
    let entries = columns_lent c.loop-out.state in
    let v = view_in entries c.loop-out.state.summary in
    let x = reception_at h.time (take h.len heard) in
    let small : h.time < 2 ^ 64 = search rules in
    let line : take (at + l.used - (2 * h.len + 2) - at) (drop at s.input.now) ≡ decimal_text h.time =
    time p u f (omega arith) in
    -- what is lent ends at its length less 0
    let z : h.len - 0 ≡ h.len = omega arith in
    let outcomes : ℕ → StepOutcome = λ m. admission s.fit v (reception_at h.time (take m heard)) in
    let outcome = c.admit-answer.ensures.admits.outcome ∙ ap outcomes z in
    let o = outcome ∙ admission-fit _ _ _ inv.tested.said in
    let laid : ℕ → Columns = λ m. columns_admitted s.fit v (reception_at h.time (take m heard)) entries in
    let elements = c.admit-answer.ensures.admits.elements ∙ ap laid z ∙ columns-fit _ x _ _ inv.tested.said in
    let last = c.admit-answer.new.self in
    let next = admitted_of (columns_lent last) (record { summary = last.summary; answer = c.admit-answer.result }) in
    let sent = relayed_bytes s.setting s.fit v x next.answer (ap (λ (y : StepOutcome). y.answer) outcome) in
    let moment = take (at + l.used - (2 * h.len + 2) - at) (drop at s.input.now) in
    let texts : ℕ → List ℕ = λ m.
    row_text_in s.format moment (printed_row next.answer) (take m heard)
    (relayed_for s.setting next.answer (take m heard))
    (source_of (take m heard)) in
    let text = said-text s.format _ _ next (says p u f) o line sent ∙ sym (ap texts z) in
    let w = c.put_answer-to.ensures in
    let test = c.loop-out-test.true in
    let cells : ℕ → List ℕ = λ m. closed_cells v (reception_at h.time (take m heard)) in
    let closing : List ℕ → Type 0 = λ text.
    Printed c.loop-out.closed (32 * c.loop-out.k) (cond (is_asked c.loop-out.closed) text []) 2048
    c.put_closed-k.new.closed (32 * c.put_closed-k.result) in
    let closes =
    subst (λ (u : View). closing (closed_cells u (reception_at h.time (take (h.len - 0) heard))))
    (ap₂ view_in c.held.ensures.0 c.held.ensures.1) c.put_closed-k.ensures in
    let fitting = sym c.has_room.ensures ∙ c.if-not-has_room.false in
    let left =
    room-left c.loop-out.k c.put_closed-k.result (cells (h.len - 0)) fitting inv.spare closes in (
      said-taken (collect_in s.format) (format_bounded s.format) (is_asked s.closed.now) (λ s y. refl) s.input.now inv
          l.used (ended p u) c.if-left-eq0.false
          (record {
            rows = omega (arith, inv.times.output.next, inv.same_moments, c.if-moments-n.false);
            chars = omega (arith, inv.fed.output.next, inv.long, inv.room, test);
            closings = room_there c.loop-out.k inv.closes inv.same_closed fitting;
          })
          next (says p u f) o elements
          (rw (← o) at (tested_next _ x inv.tested small))
          text w (omega (arith, w.short, test))
          (omega (arith, c.if-moments-n.false)) c.store_row-n.ensures.0 c.store_row-n.ensures.1
          (asked_same (cells (h.len - 0)) (cells h.len) s.closed.now (ap cells z) inv.same_closed closes) left,
      both_loans c.loop-out.invariant.1 c.admit-answer.ensures.same_loans,
    )

-- ---- the end
pub returns : goal.returns
returns c =
    let l = c.loop-out.invariant.0 in
    record {
      heard = record {
        within = l.inside;
        elements = l.elements;
        text = l.fed;
        times = l.times;
        records = l.records;
        closes = l.closes;
        ticks = l.ticks.output.next ∙ zero-add _;
        few = omega arith;
        due = l.due;
        rest = λ x y z r.
            elim c.loop-out-test.branch [
              | else-loop-out-test w ↦ absurd (omega (arith, w.loop-out-test.false, l.long))
              | then-loop-out-test+then-left-eq0 w ↦ absurd (omega (arith, w.if-left-eq0.true))
              | then-loop-out-test+else-left-eq0+then-moments-n w ↦
                  absurd (omega (arith, w.if-moments-n.true, l.same_moments))
              | then-loop-out-test+else-left-eq0+else-moments-n+then-not-has_room w ↦
                  absurd (false≢true (sym w.if-not-has_room.true ∙ w.has_room.ensures ∙ rw l.same_closed r))
              | then-loop-out-test+else-left-eq0+else-moments-n+else-not-has_room+in_default w ↦
                  none_ended (parsed c.args.input.now c.loop-out.at w.parse.ensures) w.in_default.is
            ];
      };
      same_loans = c.loop-out.invariant.1;
    }
