-- `text_rows::write_pairs` meets its contract. The loop's invariant: the stores that are left, after those made, are all of them.
use mathlib.Core.Path.{◌≡◌}
use mathlib.Core.List.{List}
use Prim.Native.Nat.{ℕ, ◌+◌, ◌*◌}
use lib.ListN.{length, drop}
use lib.Seq.{sets}
use Rattle.text_rows.specs.Text.{hex_text}
use Rattle.text_rows.proofs.write_pairs.Given as goal

pub record Writing (s : List ℕ) (at i to : ℕ) (old new : List ℕ) : Type 0 where
  pub place : to ≡ at + 2 * i
  pub long : length new ≡ length old
  pub stores : sets new to (hex_text (drop i s)) ≡ sets old at (hex_text s)

abbrev pub invariant-loop-b : goal.invariant-loop-b
invariant-loop-b l = Writing l.s l.at l.b-index l.to l.initial.out l.out
