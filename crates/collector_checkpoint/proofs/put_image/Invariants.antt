-- `collector_checkpoint::put_image` meets its contract. The invariant: the first k blocks are written, and the rest is as it was; the measure: the
-- blocks left.
use mathlib.Core.List.{List, [], ◌∷◌, flatten}
use Prim.Native.Nat.{ℕ, ◌-◌, ◌*◌, ◌≤◌}
use lib.ListN.{get_or, take}
use Rattle.block_layout.specs.Block.{block_length}
use Rattle.base_buffers.proofs.Segments.{Begun}
use Rattle.collector_model.specs.View.{Entry}
use Rattle.collector_state.specs.Collector.{columns_held, entries_at}
use Rattle.collector_checkpoint.specs.Private.{block_with}
use Rattle.collector_checkpoint.proofs.put_image.Given as goal

-- the blocks, each by its two numbers
unfoldable pub blocks : List (ℕ × ℕ) → List Entry → List (List ℕ)
blocks numbers l =
    numbered 0 ∷ numbered 1 ∷ numbered 2 ∷ numbered 3 ∷ numbered 4 ∷ []
  where
    numbered : ℕ → List ℕ
    numbered k = let n = get_or numbers k (0, 0) in block_with k n.0 n.1 l

pub record Putting (out₀ : List ℕ) (numbers : List (ℕ × ℕ)) (l : List Entry) (out : List ℕ) (k : ℕ) : Type 0 where
  pub bounded : k ≤ 5
  pub begun : Begun out₀ (flatten (take k (blocks numbers l))) (block_length * k) out

abbrev pub invariant-loop-k : goal.invariant-loop-k
invariant-loop-k l =
    Putting l.initial.out l.numbers
    (entries_at (columns_held l.state) l.state.summary.count) l.out l.k

abbrev pub decreases-loop-k : goal.decreases-loop-k
decreases-loop-k l = 5 - l.k
