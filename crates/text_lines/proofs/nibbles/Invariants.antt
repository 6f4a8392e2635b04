-- `text_lines::nibbles` meets its contract. The invariant: each place passed has the value of its character.
use mathlib.Core.Path.{◌≡◌}
use mathlib.Core.List.{List}
use Prim.Native.Nat.{ℕ, ◌-◌, ◌<◌, ◌≤◌}
use lib.ListN.{length, get_or}
use Rattle.text_lines.specs.Hex.{nibble_of}
use Rattle.text_lines.proofs.nibbles.Given as goal

pub record Filling (c v : List ℕ) (k : ℕ) : Type 0 where
  pub few : k ≤ 32
  pub long : length v ≡ 32
  pub values : (j : ℕ) → j < k → get_or v j 0 ≡ nibble_of (get_or c j 0)

abbrev pub invariant-loop-k : goal.invariant-loop-k
invariant-loop-k l = Filling l.c l.v l.k

abbrev pub decreases-loop-k : goal.decreases-loop-k
decreases-loop-k l = 32 - l.k
