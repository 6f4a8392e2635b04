-- `plan_site::first_overlap` meets its contract. The invariant is `Paired`.
use mathlib.Core.List.{map}
use Rattle.plan_site.specs.Bytes.{assignment_of}
use Rattle.plan_site.proofs.Pairs.{Paired}
use Rattle.plan_site.proofs.first_overlap.Given as goal

abbrev pub invariant-loop-i : goal.invariant-loop-i
invariant-loop-i l = Paired (map assignment_of l.fn.repeaters) l.i
