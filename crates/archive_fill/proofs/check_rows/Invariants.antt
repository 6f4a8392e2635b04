-- `archive_fill::check_rows` meets its contract. The invariant: what is left decides the whole.
use mathlib.Core.Path.{◌≡◌}
use mathlib.Core.List.{List}
use Prim.Native.Nat.{ℕ, ◌*◌, ◌≤◌}
use lib.ListN.{length, drop}
use Rattle.archive_fill.specs.Fill.{row_length, rows_given, check_rows}
use Rattle.archive_fill.proofs.check_rows.Given as goal

pub record Checking (times rows : List ℕ) (size i : ℕ) (left : List ℕ) : Type 0 where
  pub sized : size ≡ row_length
  pub bounded : i ≤ length times
  pub are : left ≡ drop (row_length * i) rows
  pub rest : check_rows i (drop i (rows_given times rows)) ≡ check_rows 0 (rows_given times rows)

abbrev pub invariant-loop-i : goal.invariant-loop-i
invariant-loop-i l = Checking l.times l.rows l.i-iterator.iter.size l.i-iterator.count l.i-iterator.iter.rest.now
