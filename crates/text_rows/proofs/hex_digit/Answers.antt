-- `text_rows::hex_digit` meets its contract: its test is that of `hex_digit_of`.
use native.Mathlib.Omega.{arith}
use borrow.Author.Tests.{lt-ltb, le-ltb}
use Rattle.text_rows.specs.Text.{hex_digit_of}
use Rattle.text_rows.proofs.hex_digit.Goals as goal

pub returns-then-d-lt10 : goal.returns-then-d-lt10
unfolding hex_digit_of
returns-then-d-lt10 c = rw (lt-ltb c.args.d 10 c.if-d-lt10.true)

pub returns-else-d-lt10 : goal.returns-else-d-lt10
unfolding hex_digit_of
returns-else-d-lt10 c = rw (le-ltb c.args.d 10 c.if-d-lt10.false) (omega arith)
