-- `archive_repack::flush` meets its contract: fewer than 15 cells wait on; else one block is put.
use native.Mathlib.Omega.{arith}
use Rattle.archive_repack.proofs.Flushes.{flush_few, flush_full}
use Rattle.archive_repack.proofs.flush.Goals as goal

pub returns-then-total-lt-CELLS_PER_BLOCK : goal.returns-then-total-lt-CELLS_PER_BLOCK
returns-then-total-lt-CELLS_PER_BLOCK c =
    flush_few c.args.k c.args.total c.args.pending.now c.args.full.now (omega arith) c.if-total-lt-CELLS_PER_BLOCK.true

pub returns : goal.returns
returns c =
    flush_full c.args.k c.args.total c.args.pending.now _
    c.args.full.now _ c.requires.0 (omega arith) (omega arith) c.requires.2
    c.put_block.ensures c.move_front.ensures
