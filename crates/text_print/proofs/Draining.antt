-- All lines were taken.
use mathlib.Core.Path.{◌≡◌}
use mathlib.Core.Bool.{true}
use mathlib.Core.List.{List}
use Prim.Native.Nat.{ℕ, ◌≤◌}
use lib.ListN.{length, drop, drop_of_length-le}
use Rattle.text_program.specs.Buffer.{is_unended}

pub none_left : (input : List ℕ) (at : ℕ) → length input ≤ at → is_unended (drop at input) ≡ true
unfolding is_unended
none_left input at h = rw (drop_of_length-le input {i = at} h)
