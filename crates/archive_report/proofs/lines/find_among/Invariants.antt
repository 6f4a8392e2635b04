-- `archive_report::lines::find_among` meets its contract. The invariant: lines before `low` are below the identity, lines
-- from `low + size` on are not; the order of the lines settles all on one side of the last line of a half. The measure
-- is `size`.
use Rattle.archive_report.proofs.Places.{Bracket}
use Rattle.archive_report.proofs.lines.find_among.Given as goal

abbrev pub invariant-loop-size : goal.invariant-loop-size
invariant-loop-size l = Bracket l.lines l.count l.identity l.low l.size

abbrev pub decreases-loop-size : goal.decreases-loop-size
decreases-loop-size l = l.size
