-- The goals that a search does not find.
use native.Mathlib.Omega.{arith}
use Rattle.text_lines.proofs.count_pairs.Goals as goal

pub returns-then-s-n-eq10 : goal.returns-then-s-n-eq10
returns-then-s-n-eq10 c =
    record { least = omega arith; most = omega arith; long = omega arith; ends = c.if-s-n-eq10.true }
