-- `archive_report::tally::is_loose` meets its contract.
use mathlib.Core.Path.{ap}
use Prim.Native.Nat.{ℕ}
use lib.Dec.{eqb}
use Rattle.archive_report.proofs.tally.is_loose.Goals as goal

pub returns : goal.returns
returns c = ap (λ (n : ℕ). eqb n 256) c.cell_last.ensures
