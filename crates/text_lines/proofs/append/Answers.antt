-- `text_lines::append` meets its contract: a checked product and a checked sum.
use mathlib.Core.Path.{sym, ◌∙◌}
use native.Mathlib.Omega.{arith}
use Rattle.text_lines.proofs.Digits.{no-digit, too_large, added}
use Rattle.text_lines.proofs.append.Goals as goal

pub returns-then-not-is_digit : goal.returns-then-not-is_digit
returns-then-not-is_digit c = no-digit _ _ (sym c.is_digit.ensures ∙ c.if-not-is_digit.true)

pub returns-in_err-checked_mul : goal.returns-in_err-checked_mul
returns-in_err-checked_mul c =
    c.from_residual.ensures ∙ too_large c.args.n c.args.c (let h = c.in_err-checked_mul.ensures in omega arith)

pub returns : goal.returns
returns c =
    let digit = sym c.is_digit.ensures ∙ c.if-not-is_digit.false in
    added c.args.n c.args.c c.checked_add.result digit c.in_ok-checked_mul.ensures.1 c.from.ensures
    c.checked_add.ensures
