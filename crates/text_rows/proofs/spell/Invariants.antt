-- `text_rows::spell` meets its contract. The loop's invariant: the digits of the rest, in front of those stored, are all of them.
-- The measure is the rest.
use mathlib.Core.Path.{◌≡◌}
use mathlib.Core.List.{List, ◌++◌}
use Prim.Native.Nat.{ℕ, ◌^◌, ◌<◌, ◌≤◌}
use lib.ListN.{length, drop}
use Rattle.text_rows.specs.Text.{digits_of, decimal_text}
use Rattle.text_rows.proofs.spell.Given as goal

pub record Spelling (n : ℕ) (digits : List ℕ) (i rest : ℕ) : Type 0 where
  pub some : 0 < i
  pub bounded : i ≤ 20
  pub long : length digits ≡ 20
  pub small : rest < 10 ^ i
  pub whole : decimal_text n ≡ digits_of i rest ++ drop i digits

abbrev pub invariant-loop-rest : goal.invariant-loop-rest
invariant-loop-rest l = Spelling l.n l.digits l.i l.rest

abbrev pub decreases-loop-rest : goal.decreases-loop-rest
decreases-loop-rest l = l.rest
