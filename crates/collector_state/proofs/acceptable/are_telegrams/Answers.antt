-- `collector_state::acceptable::are_telegrams` meets its contract.
use Rattle.std.proofs.Common.{◌≡◌, ◌<◌, ℕ, true, false, get_or, sym, ap, ◌∙◌}
use native.Mathlib.Omega.{arith}
use Rattle.radio_erp1.specs.Subtelegram.{is_valid}
use Rattle.collector_state.specs.Collector.{columns}
use Rattle.collector_state.specs.Private.{marks, mark_of, shown_at}
use Rattle.collector_state.proofs.Accepting.{telegrams_none, telegrams-more, telegrams-not, new-not-valid, new-repeated, new_both}
use Rattle.collector_state.proofs.Marks.{marked_none, marked_more, mark-low, mark_valid, unmarked, valid-len, is_known, not_known, new-mark}
use Rattle.collector_state.proofs.acceptable.are_telegrams.Goals as goal
use Rattle.collector_state.proofs.acceptable.are_telegrams.Goals.{In-Some}

-- a mark is that of a valid telegram
marked : (c : In-Some) → let s = shown_at c.args.lens.now c.args.bytes.now c.loop-i.i in
    (is_valid s ≡ true) × (c.in-Some.mark ≡ mark_of s)
marked c = mark_valid _ (sym c.in-Some.is ∙ c.mark_at.ensures)

low : (c : In-Some) → c.in-Some.mark < marks
low c = rw (marked c).1 (mark-low _)

pub returns-in_default : goal.returns-in_default
returns-in_default c copies =
    let i = c.loop-i.i in
    sym (telegrams-not (columns c.args.times.now c.args.lens.now c.args.bytes.now copies) i c.args.count (omega arith)
    (new-not-valid (columns c.args.times.now c.args.lens.now c.args.bytes.now copies) i
    (unmarked _ (sym c.in_default.is ∙ c.mark_at.ensures))))

pub is_repeated-requires : goal.is_repeated-requires
is_repeated-requires c =
    let m = marked (goal.at.is_repeated-requires c).In-Some in
    let len = valid-len c.args.lens.now c.args.bytes.now c.loop-i.i m.0 in
    (omega arith, len.0, len.1)

pub returns-then-is_repeated : goal.returns-then-is_repeated
returns-then-is_repeated c copies =
    let i = c.loop-i.i in
    sym (telegrams-not (columns c.args.times.now c.args.lens.now c.args.bytes.now copies) i c.args.count (omega arith)
    (new-repeated (columns c.args.times.now c.args.lens.now c.args.bytes.now copies) i
    (is_known (c.is_repeated.ensures copies) c.if-is_repeated.true)))

pub loop-i-preserved : goal.loop-i-preserved
loop-i-preserved c =
    let i = c.loop-i.i in
    let m = marked (goal.at.loop-i-preserved c).In-Some in
    record {
      bounded = omega arith;
      passed = λ copies. telegrams-more (columns c.args.times.now c.args.lens.now c.args.bytes.now copies) i
          (c.loop-i.invariant.passed copies)
          (new_both (columns c.args.times.now c.args.lens.now c.args.bytes.now copies) i m.0
          (not_known (c.is_repeated.ensures copies) c.if-is_repeated.false
          (λ z. new-mark (columns c.args.times.now c.args.lens.now c.args.bytes.now copies) i c.loop-i.seen
          c.loop-i.invariant.marked m.0
          (ap (λ (n : ℕ). get_or c.loop-i.seen n false) (sym m.1) ∙ z))));
      marked =
          marked_more c.args.lens.now c.args.bytes.now i c.loop-i.seen c.loop-i.invariant.marked _ m.1
          (low (goal.at.loop-i-preserved c).In-Some);
    }

pub bounds-seen-mark : goal.bounds-seen-mark
bounds-seen-mark c =
    let long = c.loop-i.invariant.marked.long in
    omega (arith, low (goal.at.bounds-seen-mark c).In-Some)

pub returns : goal.returns
returns c copies =
    let e : c.loop-i.i ≡ c.args.count = omega arith in
    sym (rw e at (c.loop-i.invariant.passed copies))

pub loop-i-init : goal.loop-i-init
loop-i-init c =
    record {
      bounded = omega arith;
      passed = λ copies. telegrams_none _;
      marked = marked_none _ _ _ c.no_marks-seen.ensures;
    }

pub bounds-seen-mark-in-loop-i : goal.bounds-seen-mark-in-loop-i
bounds-seen-mark-in-loop-i c = low (goal.at.bounds-seen-mark-in-loop-i c).In-Some
