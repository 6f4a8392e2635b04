-- `archive_repack::pack_blocks` meets its contract. The invariant: `Walking` and `Listing`, what is left brings both to the whole.
use mathlib.Core.List.{List}
use Prim.Native.Nat.{ℕ, ◌/◌}
use lib.ListN.{length}
use Rattle.block_layout.specs.Block.{block_length}
use Rattle.archive_repack_model.specs.Packer.{Packing, packing}
use Rattle.archive_repack.proofs.Walks.{LeftBlocks, Walking, Listing}
use Rattle.archive_repack.proofs.pack_blocks.Given as goal

pub record Packed (p : Packing) (identities piece out₀ positions₀ : List ℕ)
    (used size : ℕ) (left pending out positions : List ℕ)
    (waits put gone k : ℕ) : Type 0 where
  pub at : LeftBlocks piece size left k
  pub walking : Walking p identities piece out₀ used (length piece / block_length) k put waits pending out
  pub listing : Listing piece positions₀ (length piece / block_length) k gone positions

abbrev pub invariant-loop-k : goal.invariant-loop-k
invariant-loop-k l =
    Packed (packing l.next l.used l.initial.pending) l.identities l.piece l.initial.out
    l.initial.positions l.used l.k-iterator.iter.size l.k-iterator.iter.rest.now
    l.pending l.out l.positions l.waits l.put l.gone l.k-iterator.count
