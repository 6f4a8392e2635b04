-- `text_lines::thirteen` meets its contract. The invariant: n is what the digits passed say, and less than their power of ten.
use mathlib.Core.Path.{◌≡◌}
use mathlib.Core.List.{List}
use Prim.Native.Nat.{ℕ, ◌-◌, ◌^◌, ◌<◌, ◌≤◌}
use lib.ListN.{take}
use Rattle.text_lines.specs.Decimal.{decimal_of}
use Rattle.text_lines.proofs.thirteen.Given as goal

pub record Passed (text : List ℕ) (n k : ℕ) : Type 0 where
  pub few : k ≤ 13
  pub below : n < 10 ^ k
  pub value : n ≡ decimal_of (take k text)

abbrev pub invariant-loop-k : goal.invariant-loop-k
invariant-loop-k l = Passed l.text l.n l.k

abbrev pub decreases-loop-k : goal.decreases-loop-k
decreases-loop-k l = 13 - l.k
