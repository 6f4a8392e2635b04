-- `archive_repack::salvage` meets its contract: each refusal is one case, and else the walk and the closing give the archive.
use mathlib.Core.Path.{refl, sym, ◌∙◌}
use native.Mathlib.Omega.{arith}
use borrow.Author.Tests.{leb-true}
use Rattle.archive_repack.proofs.Closing.{salvaged_few, salvage_done, salvage_size, salvage_short, salvage_list}
use Rattle.archive_repack.proofs.salvage.Goals as goal

pub returns-then-not-is_whole : goal.returns-then-not-is_whole
returns-then-not-is_whole c =
    let a = c.args in
    salvage_size a.buffer.now a.out.now a.positions.now (sym c.is_whole.ensures
    ∙ c.if-not-is_whole.true)

pub returns-then-out-buffer : goal.returns-then-out-buffer
returns-then-out-buffer c =
    let a = c.args in
    salvage_short a.buffer.now a.out.now a.positions.now
    (sym c.is_whole.ensures ∙ c.if-not-is_whole.false) c.if-out-buffer.true

pub returns-then-not-is_listable : goal.returns-then-not-is_listable
returns-then-not-is_listable c =
    let a = c.args in
    salvage_list a.buffer.now a.out.now a.positions.now
    (sym c.is_whole.ensures ∙ c.if-not-is_whole.false) (omega arith)
    (sym c.is_listable.ensures ∙ c.if-not-is_listable.true)

pub returns : goal.returns
returns c =
    let a = c.args in
    let w = c.pack_blocks-end.ensures.walked in
    let l = c.pack_blocks-end.ensures.dropped_value in
    salvage_done a.buffer.now c.pack_blocks-end.result.next
    c.pack_blocks-end.result.used _ c.pack_blocks-end.auto.pending w.waits
    w.packed a.out.now a.positions.now _ _ _
    (sym c.is_whole.ensures ∙ c.if-not-is_whole.false) (omega arith)
    (leb-true _ _ (sym c.is_listable.ensures ∙ c.if-not-is_listable.false))
    w.long w.put c.close.ensures l.1
    c.pack_blocks-end.result.dropped l.0

pub pack_blocks-end-requires : goal.pack_blocks-end-requires
pack_blocks-end-requires c = (
  refl,
  omega arith,
  omega arith,
  omega arith,
  leb-true _ _
      (sym c.is_listable.ensures ∙ c.if-not-is_listable.false),
)

pub close-requires : goal.close-requires
close-requires c = (
  c.pack_blocks-end.auto.pending,
  c.pack_blocks-end.ensures.walked.waits,
  salvaged_few c.args.buffer.now c.pack_blocks-end.result.next c.pack_blocks-end.result.used _
      c.pack_blocks-end.auto.pending c.pack_blocks-end.ensures.walked.waits c.pack_blocks-end.ensures.walked.packed,
  omega (arith, c.pack_blocks-end.auto.out),
)

pub overflow_mul-result : goal.overflow_mul-result
overflow_mul-result c = omega (
  arith,
  salvaged_few c.args.buffer.now c.pack_blocks-end.result.next c.pack_blocks-end.result.used _
      c.pack_blocks-end.auto.pending c.pack_blocks-end.ensures.walked.waits c.pack_blocks-end.ensures.walked.packed,
)

pub overflow_add-result : goal.overflow_add-result
overflow_add-result c = omega (
  arith,
  salvaged_few c.args.buffer.now c.pack_blocks-end.result.next c.pack_blocks-end.result.used _
      c.pack_blocks-end.auto.pending c.pack_blocks-end.ensures.walked.waits c.pack_blocks-end.ensures.walked.packed,
)

pub shape_of-out : goal.shape_of-out
shape_of-out c = c.close.auto.out
    ∙ c.pack_blocks-end.auto.out

pub shape_of-positions : goal.shape_of-positions
shape_of-positions c = c.pack_blocks-end.auto.positions
