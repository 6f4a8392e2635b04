-- `take_bench::taken_all` is safe and ends. The loop's invariant: i cells are at most those there are; the measure is what is left of them.
use Rattle.std.proofs.Common.{◌≡◌, ℕ, ◌-◌, ◌/◌, ◌≤◌, List, length}
use Rattle.take_bench.proofs.taken_all.Given as goal

pub record Taking (cells : List ℕ) (i-end i : ℕ) : Type 0 where
  pub bounded : i ≤ length cells / 32
  pub all : i-end ≡ length cells / 32

abbrev pub invariant-loop-i : goal.invariant-loop-i
invariant-loop-i l = Taking l.cells l.i-end l.i

abbrev pub decreases-loop-i : goal.decreases-loop-i
decreases-loop-i l = length l.cells / 32 - l.i
