-- `text_lines::decode_pairs` meets its contract. The invariant: the count and the stores of the pairs that are left are those of all.
use mathlib.Core.Path.{◌≡◌}
use mathlib.Core.List.{List}
use Prim.Native.Nat.{ℕ, min, ◌/◌}
use lib.ListN.{length}
use Rattle.text_lines.proofs.Pairs.{Left}
use Rattle.text_lines.proofs.decode_pairs.Given as goal

pub record Decoding (s : List ℕ) (limit i : ℕ) (bytes : List ℕ) : Type 0 where
  pub pairs : limit ≡ min (length s / 2) 64
  pub long : length bytes ≡ 64
  pub rest : Left s i bytes

abbrev pub invariant-loop-i : goal.invariant-loop-i
invariant-loop-i l = Decoding l.s l.limit l.i l.bytes
