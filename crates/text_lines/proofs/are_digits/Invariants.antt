-- `text_lines::are_digits` meets its contract. The invariant: where all passed so far, each is a digit.
use mathlib.Core.Path.{◌≡◌}
use mathlib.Core.Bool.{true}
use Prim.Native.Nat.{ℕ, ◌<◌}
use lib.ListN.{get_or}
use Rattle.text_lines.specs.Decimal.{is_digit}
use Rattle.text_lines.proofs.are_digits.Given as goal

abbrev pub invariant-loop-c : goal.invariant-loop-c
invariant-loop-c l = l.all ≡ true → (j : ℕ) → j < l.c-index → is_digit (get_or l.s j 0) ≡ true
