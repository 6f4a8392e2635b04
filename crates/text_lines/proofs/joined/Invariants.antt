-- `text_lines::joined` meets its contract. The invariant: each place passed has the byte of its pair.
use mathlib.Core.Path.{◌≡◌}
use mathlib.Core.List.{List}
use Prim.Native.Nat.{ℕ, ◌+◌, ◌-◌, ◌*◌, ◌%◌, ◌<◌, ◌≤◌}
use lib.ListN.{length, get_or}
use Rattle.text_lines.proofs.joined.Given as goal

pub record Filling (v b : List ℕ) (k : ℕ) : Type 0 where
  pub few : k ≤ 16
  pub long : length b ≡ 16
  pub values : (j : ℕ) → j < k → get_or b j 0 ≡ get_or v (2 * j) 0 % 16 * 16 + get_or v (2 * j + 1) 0 % 16

abbrev pub invariant-loop-k : goal.invariant-loop-k
invariant-loop-k l = Filling l.v l.b l.k

abbrev pub decreases-loop-k : goal.decreases-loop-k
decreases-loop-k l = 16 - l.k
