-- `text_lines::parse` meets its contract: the time and the bytes are read by their own rules, and what has no newline behind them is no
-- reception.
use Rattle.std.specs.Prelude.{Some}
use mathlib.Core.Path.{◌≡◌, sym, ◌∙◌}
use Prim.Native.Nat.{◌<◌}
use borrow.Author.Rules.{rules}
use lib.ListN.{length}
use Rattle.text_lines.specs.Decimal.{timed_of}
use Rattle.text_lines.proofs.Starts.{answer-bad}
use Rattle.text_lines.proofs.Parts.{no_time, time-within, read_within, no_end, no_newline, answer}
use Rattle.text_lines.proofs.parse.Goals.{In-Some, After-decode-len}
use Rattle.text_lines.proofs.parse.Goals as goal

-- a time was read
timed : (c : In-Some) → timed_of c.args.text.now ≡ Some (c.in-Some.time, c.in-Some.digits)
timed c = sym c.parse_time.ensures ∙ c.in-Some.is

few : (c : In-Some) → c.in-Some.digits < length c.args.text.now
few c = time-within c.args.text.now (timed c)

pub overflow_add-from : goal.overflow_add-from
overflow_add-from c = let h = few (goal.at.overflow_add-from c).In-Some in search rules

pub slice_bounds-decode-count : goal.slice_bounds-decode-count
slice_bounds-decode-count c = let h = few (goal.at.slice_bounds-decode-count c).In-Some in search rules

pub slice_bounds-decode-start : goal.slice_bounds-decode-start
slice_bounds-decode-start c = let h = few (goal.at.slice_bounds-decode-start c).In-Some in search rules

pub overflow_mul-at : goal.overflow_mul-at
overflow_mul-at c =
    let h = read_within c.args.text.now (timed (goal.at.overflow_mul-at c).In-Some) c.decode-len.ensures in
    search rules

pub overflow_add-at : goal.overflow_add-at
overflow_add-at c =
    let h = read_within c.args.text.now (timed (goal.at.overflow_add-at c).In-Some) c.decode-len.ensures in
    search rules

pub returns-in_default : goal.returns-in_default
returns-in_default c = answer-bad (no_time _ (sym c.in_default.is ∙ c.parse_time.ensures)) c.bad_line.ensures

pub returns-then-end-at : goal.returns-then-end-at
returns-then-end-at c =
    let t = timed (goal.at.returns-then-end-at c).In-Some in
    answer-bad (no_end c.args.text.now t c.decode-len.ensures c.if-end-at.true) c.bad_line-then-end-at.ensures

pub returns-then-text-at-ne10 : goal.returns-then-text-at-ne10
returns-then-text-at-ne10 c =
    let t = timed (goal.at.returns-then-text-at-ne10 c).In-Some in
    answer-bad (no_newline c.args.text.now t c.decode-len.ensures c.if-text-at-ne10.true)
    c.bad_line-then-text-at-ne10.ensures

pub returns : goal.returns
returns c =
    let t = timed (goal.at.returns c).In-Some in
    answer c.args.text.now t c.decode-len.ensures c.if-end-at.false c.if-text-at-ne10.false
