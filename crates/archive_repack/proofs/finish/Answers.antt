-- `archive_repack::finish` meets its contract: a packer that is not accepted, no cell, too short an output, the last block.
use mathlib.Core.Path.{◌≡◌, sym, ap, ◌∙◌}
use mathlib.Core.List.{List, ◌++◌}
use Prim.Native.Nat.{ℕ, ◌-◌, ◌*◌}
use native.Mathlib.Omega.{arith}
use lib.ListN.{take, drop, length-take}
use Rattle.block_layout.specs.Cell.{cell_length}
use Rattle.block_layout.specs.Block.{block_length}
use Rattle.archive_repack_model.specs.Packer.{cells_block}
use Rattle.archive_repack.proofs.Packs.{packing_facts, finish_no, finish_none, finish_short, finish_last}
use Rattle.archive_repack.proofs.finish.Goals as goal

pub returns-then-not-is_packing : goal.returns-then-not-is_packing
returns-then-not-is_packing c =
    let a = c.args in
    finish_no a.next a.used a.pending.now a.out.now
    (sym c.is_packing.ensures ∙ c.if-not-is_packing.true)

pub returns-then-used-eq0 : goal.returns-then-used-eq0
returns-then-used-eq0 c =
    let a = c.args in
    finish_none a.next a.used a.pending.now a.out.now
    (sym c.is_packing.ensures ∙ c.if-not-is_packing.false) c.if-used-eq0.true

pub returns-then-out-lt-BLOCK_LENGTH : goal.returns-then-out-lt-BLOCK_LENGTH
returns-then-out-lt-BLOCK_LENGTH c =
    let a = c.args in
    finish_short a.next a.used a.pending.now a.out.now
    (sym c.is_packing.ensures ∙ c.if-not-is_packing.false) c.if-used-eq0.false c.if-out-lt-BLOCK_LENGTH.true

pub returns : goal.returns
returns c =
    let a = c.args in
    let z : cell_length * a.used - 0 ≡ cell_length * a.used = omega arith in
    finish_last a.next a.used a.pending.now a.out.now
    (sym c.is_packing.ensures ∙ c.if-not-is_packing.false) c.if-used-eq0.false (omega arith) _
    (ap (λ (b : List ℕ). b ++ drop block_length a.out.now) (c.put_block.ensures
    ∙ ap (λ (n : ℕ). cells_block a.next (take n a.pending.now)) z))

pub overflow_mul-used : goal.overflow_mul-used
overflow_mul-used c =
    omega (arith, packing_facts _ _ _ (sym c.is_packing.ensures ∙ c.if-not-is_packing.false))

pub slice_bounds-put_block-end-2 : goal.slice_bounds-put_block-end-2
slice_bounds-put_block-end-2 c =
    omega (arith, packing_facts _ _ _ (sym c.is_packing.ensures ∙ c.if-not-is_packing.false))

pub put_block-requires : goal.put_block-requires
put_block-requires c = (
  length-take 512 c.args.out.now
      ∙ omega arith,
  omega (
    arith,
    length-take (cell_length * c.args.used - 0)
        c.args.pending.now,
    packing_facts _ _ _ (sym c.is_packing.ensures ∙ c.if-not-is_packing.false),
  ),
)
