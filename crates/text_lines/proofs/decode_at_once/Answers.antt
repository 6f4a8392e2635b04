-- `text_lines::decode_at_once` meets its contract: two blocks, or three, are all pairs.
use mathlib.Core.Bool.{false≢true}
use native.Mathlib.Omega.{arith}
use Rattle.text_lines.proofs.Blocks.{decoded_two, decoded_three}
use borrow.Author.Rules.{rules}
use Rattle.text_lines.proofs.decode_at_once.Goals as goal

pub overflow_sub-n : goal.overflow_sub-n
overflow_sub-n c = search rules

pub put_two-requires : goal.put_two-requires
put_two-requires c = search rules

pub returns-then-n-le16 : goal.returns-then-n-le16
returns-then-n-le16 c = λ e.
    decoded_two c.requires.0 c.requires.1 (omega arith) c.put_two.ensures e

pub put_two-requires-2 : goal.put_two-requires-2
put_two-requires-2 c = search rules

pub returns-then-not-put_two : goal.returns-then-not-put_two
returns-then-not-put_two c = λ e. absurd (false≢true e)

pub overflow_sub-n-2 : goal.overflow_sub-n-2
overflow_sub-n-2 c = search rules

pub put_two-requires-3 : goal.put_two-requires-3
put_two-requires-3 c = search rules

pub returns : goal.returns
returns c = λ e.
    decoded_three c.requires.0 c.requires.1 (omega arith) c.put_two-2.ensures
    c.if-not-put_two.false c.put_two-3.ensures e
