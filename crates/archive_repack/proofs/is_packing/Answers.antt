-- `archive_repack::is_packing` meets its contract.
use native.Mathlib.Omega.{arith}
use Rattle.archive_repack.proofs.Packs.{packing-other, packing_many, packing_far, packing-rows}
use Rattle.archive_repack.proofs.is_packing.Goals as goal

pub returns-then-pending-ne-PENDING_LENGTH : goal.returns-then-pending-ne-PENDING_LENGTH
returns-then-pending-ne-PENDING_LENGTH c =
    let a = c.args in
    packing-other a.next a.used a.pending.now c.if-pending-ne-PENDING_LENGTH.true

pub returns-then-used-ge-CELLS_PER_BLOCK : goal.returns-then-used-ge-CELLS_PER_BLOCK
returns-then-used-ge-CELLS_PER_BLOCK c =
    let a = c.args in
    packing_many a.next a.used a.pending.now (omega arith) c.if-used-ge-CELLS_PER_BLOCK.true

pub returns-then-next-gt-MAX_BLOCKS : goal.returns-then-next-gt-MAX_BLOCKS
returns-then-next-gt-MAX_BLOCKS c =
    let a = c.args in
    packing_far a.next a.used a.pending.now (omega arith) (omega arith) c.if-next-gt-MAX_BLOCKS.true

pub returns : goal.returns
returns c =
    let a = c.args in
    packing-rows a.next a.used a.pending.now (omega arith) (omega arith)

pub overflow_mul-result : goal.overflow_mul-result
overflow_mul-result c = omega arith

pub overflow_add-result : goal.overflow_add-result
overflow_add-result c = omega arith
