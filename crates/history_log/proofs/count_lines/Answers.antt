-- `history_log::count_lines` meets its contract: the lines that end, and one more where something is left.
use Prim.Native.Nat.{◌^◌, ◌<◌}
use native.Mathlib.Omega.{arith}
use lib.ListN.{length}
use borrow.Author.Rules.{rules}
use Rattle.history_log.proofs.Noting.{lines_under, more-lines, all_lines}
use Rattle.history_log.proofs.count_lines.Lts as lts
use Rattle.history_log.proofs.count_lines.Reads as reads
use Rattle.history_log.proofs.count_lines.Tie as tie
use Rattle.history_log.proofs.count_lines.Goals as goal

-- states on the way
abbrev Start : Type 0
Start = lts.Start tie.the-claims reads.Pre reads.Post

small : (s : Start) → length s.args.text.now < 2 ^ 64
small s = search rules

pub overflow_add-result : goal.overflow_add-result
overflow_add-result c =
    let c_back3 = c.before.before.before in
    let k = c.skip_lines.ensures.skipped in
    omega (arith, lines_under c.args.text.now k, c.if-used-text.true, small c_back3.before.before)

pub returns-then-used-text : goal.returns-then-used-text
returns-then-used-text c =
    more-lines c.args.text.now c.skip_lines.ensures.skipped c.if-used-text.true

pub returns : goal.returns
returns c =
    all_lines c.args.text.now c.skip_lines.ensures.skipped (omega (arith, c.if-used-text.false))
