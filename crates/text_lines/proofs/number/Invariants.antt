-- `text_lines::number` meets its contract. The invariant: going on from n with the digits that are left gives the number of all.
use Rattle.text_lines.proofs.Times.{Begun}
use Rattle.text_lines.proofs.number.Given as goal

abbrev pub invariant-loop-c : goal.invariant-loop-c
invariant-loop-c l = Begun l.digits l.n l.c-index
