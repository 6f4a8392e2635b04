-- `text_lines::are_nibbles` meets its contract. The invariant: where all passed so far, each is below 16.
use mathlib.Core.Path.{◌≡◌}
use mathlib.Core.Bool.{true}
use Prim.Native.Nat.{ℕ, ◌<◌}
use lib.ListN.{get_or}
use Rattle.text_lines.proofs.are_nibbles.Given as goal

abbrev pub invariant-loop-x : goal.invariant-loop-x
invariant-loop-x l = l.all ≡ true → (j : ℕ) → j < l.x-index → get_or l.fn.v j 0 < 16
