-- The goals that a search does not find.
use mathlib.Core.Path.{◌≡◌, refl, ◌∙◌}
use mathlib.Core.List.{List, [], ◌++◌, flatten}
use Prim.Native.Nat.{ℕ, zero, suc, ◌+◌, ◌-◌, ◌*◌, ◌≤◌, ◌<◌}
use native.Mathlib.Omega.{arith}
use lib.ListN.{length, get_or, take, drop}
use Rattle.base_buffers.specs.Buffer.{part}
use Rattle.block_layout.specs.Block.{block_length}
use Rattle.base_buffers.proofs.Segments.{Begun, begin, begun_length, within, lent, turn, turned}
use Rattle.collector_model.specs.View.{Entry}
use Rattle.collector_model.specs.Image.{image_block, image_with}
use Rattle.collector_checkpoint.specs.Private.{block_with}
use Rattle.collector_checkpoint.proofs.put_image.Invariants.{blocks}
use Rattle.collector_checkpoint.proofs.put_image.Goals as goal

block_of : (numbers : List (ℕ × ℕ)) (l : List Entry) (k : ℕ) → k < 5
    → block_with k (get_or numbers k (0, 0)).0 (get_or numbers k (0, 0)).1 l ≡ get_or (blocks numbers l) k []
unfolding blocks
block_of numbers l zero h = refl
block_of numbers l (suc zero) h = refl
block_of numbers l (suc (suc zero)) h = refl
block_of numbers l (suc (suc (suc zero))) h = refl
block_of numbers l (suc (suc (suc (suc zero)))) h = refl
block_of numbers l (suc (suc (suc (suc (suc k))))) h = absurd (omega arith)

-- a turn: p is what the block writer ensures, and q what it keeps
one_more : (numbers : List (ℕ × ℕ)) (l : List Entry) {orig xs : List ℕ} (k : ℕ) (ys : List ℕ)
    → Begun orig (flatten (take k (blocks numbers l))) (block_length * k) xs
    → k < 5 → ys ≡ block_with k (get_or numbers k (0, 0)).0 (get_or numbers k (0, 0)).1 l
    → length ys ≡ length (part (block_length * k) (block_length * k + block_length - block_length * k) xs)
    → block_length * 5 ≤ length orig
    → Begun orig (flatten (take (k + 1) (blocks numbers l))) (block_length * (k + 1))
    (take (block_length * k) xs
    ++ (ys ++ drop (block_length * k + block_length - block_length * k) (drop (block_length * k) xs)))
unfolding blocks
one_more numbers l k ys b h p q room =
    turn _ _ block_length k _ ys b h (p ∙ block_of numbers l k h) q (omega arith)

pub loop-k-init : goal.loop-k-init
unfolding flatten
loop-k-init c = record { bounded = omega arith; begun = begin _ }

pub put_block-requires : goal.put_block-requires
put_block-requires c =
    (lent c.loop-k.invariant.begun block_length _ refl (omega arith), omega arith, c.requires.1)

pub loop-k-preserved : goal.loop-k-preserved
loop-k-preserved c =
    record {
      bounded = omega arith;
      begun =
          one_more _ _ c.loop-k.k _ c.loop-k.invariant.begun (omega arith)
          c.put_block.ensures c.put_block.auto.out (omega arith);
    }

pub returns : goal.returns
unfolding image_with blocks image_block
returns c = (turned _ _ block_length 5 _ _ c.loop-k.invariant.begun (omega arith) refl).is

pub slice_bounds-put_block-end : goal.slice_bounds-put_block-end
slice_bounds-put_block-end c = within c.loop-k.invariant.begun _ (omega arith)

pub shape_of-out : goal.shape_of-out
shape_of-out c = begun_length c.loop-k.invariant.begun
