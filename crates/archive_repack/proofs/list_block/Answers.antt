-- `archive_repack::list_block` meets its contract: a block that stays or is all zero, and one that is dropped.
use mathlib.Core.Path.{◌≡◌, sym, ◌∙◌}
use mathlib.Core.Bool.{true, false}
use native.Mathlib.Omega.{arith}
use Rattle.archive_repack_model.specs.Repack.{is_dropped}
use Rattle.archive_repack.proofs.list_block.Goals as goal

pub returns-then-not-is_dropped : goal.returns-then-not-is_dropped
returns-then-not-is_dropped c =
    let d : is_dropped c.args.block.now ≡ false = sym c.is_dropped.ensures ∙ c.if-not-is_dropped.true in
    record { list = rw d; count = rw d }

pub returns : goal.returns
returns c =
    let d : is_dropped c.args.block.now ≡ true = sym c.is_dropped.ensures ∙ c.if-not-is_dropped.false in
    record { list = rw d; count = rw d }

pub offset_bounds-positions-gone : goal.offset_bounds-positions-gone
offset_bounds-positions-gone c =
    omega (arith, c.requires.1 (sym c.is_dropped.ensures ∙ c.if-not-is_dropped.false))

pub overflow_add-result : goal.overflow_add-result
overflow_add-result c = omega (arith, c.requires.1 (sym c.is_dropped.ensures ∙ c.if-not-is_dropped.false))

pub bounds-positions-gone : goal.bounds-positions-gone
bounds-positions-gone c = c.requires.1 (sym c.is_dropped.ensures ∙ c.if-not-is_dropped.false)
