-- `archive_repack::dropped_in` meets its contract. The invariant: those so far and those of the blocks that are left are all.
use mathlib.Core.Path.{◌≡◌}
use mathlib.Core.List.{List}
use Prim.Native.Nat.{ℕ, ◌+◌}
use lib.ListN.{length}
use Rattle.block_layout.specs.Block.{block_length}
use Rattle.archive_repack_model.specs.Repack.{dropped}
use Rattle.archive_repack.proofs.Walks.{dropped_of}
use Rattle.archive_repack.proofs.dropped_in.Given as goal

pub record Counting (buffer : List ℕ) (size : ℕ) (left : List ℕ) (gone : ℕ) : Type 0 where
  pub sized : size ≡ block_length
  pub rest : gone + dropped_of left ≡ length (dropped buffer)

abbrev pub invariant-loop-block : goal.invariant-loop-block
invariant-loop-block l = Counting l.buffer l.block-iterator.size l.block-iterator.rest.now l.gone
