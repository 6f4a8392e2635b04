-- `text_lines::copy_part` meets its contract. The invariant: what is copied so far is in its place, and all else is as it was.
use mathlib.Core.Path.{◌≡◌}
use mathlib.Core.List.{List}
use Prim.Native.Nat.{ℕ, ◌+◌, ◌-◌, ◌<◌, ◌≤◌}
use lib.ListN.{length, get_or}
use Rattle.text_lines.proofs.copy_part.Given as goal

pub record Copying (src : List ℕ) (from n : ℕ) (old : List ℕ) (to k : ℕ) (new : List ℕ) : Type 0 where
  pub few : k ≤ n
  pub long : length new ≡ length old
  pub inside : (j : ℕ) → j < k → get_or new (to + j) 0 ≡ get_or src (from + j) 0
  pub outside : (j : ℕ) → (to ≤ j → j < to + n → ⊥) → get_or new j 0 ≡ get_or old j 0

abbrev pub invariant-loop-k : goal.invariant-loop-k
invariant-loop-k l = Copying l.src l.from l.n l.initial.dst l.to l.k l.dst

abbrev pub decreases-loop-k : goal.decreases-loop-k
decreases-loop-k l = l.n - l.k
