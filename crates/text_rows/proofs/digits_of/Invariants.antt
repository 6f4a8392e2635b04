-- `text_rows::digits_of` meets its contract. The invariant: the digits of each byte passed are in their places.
use mathlib.Core.Path.{◌≡◌}
use mathlib.Core.List.{List}
use Prim.Native.Nat.{ℕ, ◌+◌, ◌-◌, ◌*◌, ◌/◌, ◌%◌, ◌≤◌, ◌<◌}
use lib.ListN.{length, get_or}
use Rattle.text_rows.specs.Text.{hex_digit_of}
use Rattle.text_rows.proofs.digits_of.Given as goal

pub record Filling (s : List ℕ) (from : ℕ) (d : List ℕ) (k : ℕ) : Type 0 where
  pub few : k ≤ 8
  pub long : length d ≡ 16
  pub high : (j : ℕ) → j < k → get_or d (2 * j) 0 ≡ hex_digit_of (get_or s (from + j) 0 / 16)
  pub low : (j : ℕ) → j < k → get_or d (2 * j + 1) 0 ≡ hex_digit_of (get_or s (from + j) 0 % 16)

abbrev pub invariant-loop-k : goal.invariant-loop-k
invariant-loop-k l = Filling l.s l.from l.d l.k

abbrev pub decreases-loop-k : goal.decreases-loop-k
decreases-loop-k l = 8 - l.k
