-- `journal_calls::rows::agree` meets its contract. The invariant: the rows passed agree, and what is left decides; the
-- measure: the rows left.
use mathlib.Core.Path.{◌≡◌}
use mathlib.Core.List.{List}
use Prim.Native.Nat.{ℕ, ◌+◌, ◌-◌, ◌≤◌, min}
use lib.ListN.{length, drop}
use Rattle.archive_model.specs.Row.{Row}
use Rattle.archive_fill.specs.Fill.{rows_given}
use Rattle.journal_model.specs.Disk.{agreeing}
use Rattle.journal_calls.proofs.rows.agree.Given as goal

pub record Agreeing (new left : List Row) (most i : ℕ) : Type 0 where
  pub bounded : i ≤ most
  pub least : most ≡ min (length new) (length left)
  pub rest : i + agreeing (drop i new) (drop i left) ≡ agreeing new left

abbrev pub invariant-loop-i : goal.invariant-loop-i
invariant-loop-i l = Agreeing (rows_given l.times l.rows) (rows_given l.moments l.left) l.most l.i

abbrev pub decreases-loop-i : goal.decreases-loop-i
decreases-loop-i l = l.most - l.i
