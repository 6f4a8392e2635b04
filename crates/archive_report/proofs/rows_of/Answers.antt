-- `archive_report::rows_of` meets its contract.
use Prim.Native.Nat.{ℕ, ◌+◌}
use mathlib.Core.Path.{sym, ap}
use mathlib.Core.Bool.{Bool, cond}
use Rattle.archive_report.proofs.rows_of.Goals as goal

pub returns : goal.returns
returns c = let a = c.args in sym (ap (λ (t : Bool). cond {A = ℕ} t 0 (a.before + a.rows)) c.if-over.false)
