-- `archive_repack::is_listable` meets its contract: no more blocks are dropped than there are.
use mathlib.Core.Path.{sym, ap}
use native.Mathlib.Omega.{arith}
use Prim.Native.Nat.{ℕ}
use borrow.Author.Tests.{le-leb}
use lib.Dec.{leb}
use lib.ListN.{length}
use Rattle.archive_repack_model.specs.Repack.{dropped}
use Rattle.archive_repack.proofs.Walks.{dropped_few}
use Rattle.archive_repack.proofs.is_listable.Goals as goal

pub returns-then-buffer-len : goal.returns-then-buffer-len
returns-then-buffer-len c =
    let a = c.args in
    sym (le-leb (length (dropped a.buffer.now)) a.len
    (omega (arith, dropped_few a.buffer.now, c.if-buffer-len.true)))

pub returns : goal.returns
returns c = ap (λ (n : ℕ). leb n c.args.len) c.dropped_in.ensures
