-- `text_lines::number` meets its contract: the digits one after the other.
use mathlib.Core.Path.{sym, ◌∙◌}
use borrow.Author.Tests.{eqb-true, eqb-false}
use Rattle.text_lines.proofs.Times.{no_digits, zero_first, begun_none, begun_next, wrong_digit, all_read}
use Rattle.text_lines.proofs.number.Goals as goal

pub returns-then-is_empty : goal.returns-then-is_empty
returns-then-is_empty c =
    no_digits c.args.digits.now (eqb-true _ 0 (sym c.is_empty.ensures ∙ c.if-is_empty.true))

pub returns-then-digits : goal.returns-then-digits
returns-then-digits c = zero_first c.args.digits.now c.if-digits.true

pub loop-c-init : goal.loop-c-init
loop-c-init c =
    begun_none c.args.digits.now (eqb-false _ 0 (sym c.is_empty.ensures ∙ c.if-is_empty.false)) c.if-digits.false

pub returns-in_err-n : goal.returns-in_err-n
returns-in_err-n c =
    c.from_residual.ensures
    ∙ wrong_digit c.loop-c.invariant c.loop-c-test.true (sym c.in_err-n.ensures)

pub loop-c-preserved : goal.loop-c-preserved
loop-c-preserved c = begun_next c.loop-c.invariant c.loop-c-test.true (sym c.in_ok-n.ensures)

pub returns : goal.returns
returns c = all_read c.loop-c.invariant c.loop-c-test.false
