-- `archive_repack::pack_within` meets its contract. The invariant: `Walking` over the blocks in use, whose output is the archive's own buffer; the measure:
-- the blocks left.
use mathlib.Core.List.{List}
use Prim.Native.Nat.{ℕ, ◌-◌, ◌*◌, ◌≤◌}
use lib.ListN.{take}
use Rattle.block_layout.specs.Block.{block_length}
use Rattle.archive_repack_model.specs.Packer.{start_packing}
use Rattle.archive_repack.proofs.Walks.{Walking}
use Rattle.archive_repack.proofs.pack_within.Given as goal

pub record Packed (buffer₀ : List ℕ) (blocks : ℕ) (identities buffer pending : List ℕ) (waits put k : ℕ) : Type 0 where
  pub bounded : k ≤ blocks
  pub walking : Walking start_packing identities
      (take (block_length * blocks) buffer₀) buffer₀ 0 blocks k put waits pending buffer

abbrev pub invariant-loop-k : goal.invariant-loop-k
invariant-loop-k l =
    Packed l.initial.buffer l.blocks l.identities l.buffer l.pending l.waits l.put l.k

abbrev pub decreases-loop-k : goal.decreases-loop-k
decreases-loop-k l = l.blocks - l.k
