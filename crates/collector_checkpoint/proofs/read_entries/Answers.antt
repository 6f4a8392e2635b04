-- The goals that a search does not find.
use mathlib.Core.Path.{refl, ap, ap₂, ◌∙◌}
use native.Mathlib.Omega.{arith}
use Rattle.base_buffers.specs.Buffer.{resized}
use Rattle.block_layout.specs.Cell.{cell_time, cell_used, cell_field, cell_last}
use Rattle.base_buffers.proofs.Segments.{begun_length, within}
use Rattle.collector_checkpoint.proofs.Reading.{reading_none, reading-more, reading_all}
use Rattle.collector_checkpoint.proofs.read_entries.Goals as goal

pub loop-i-init : goal.loop-i-init
loop-i-init c =
    reading_none _ _ c.requires.4 c.requires.5 _

pub loop-i-preserved : goal.loop-i-preserved
loop-i-preserved c =
    let cell = c.cell_in-cell.ensures in
    reading-more _ _ c.requires.4 c.requires.5 _ c.loop-i.i _ c.loop-i.invariant _ _ _ _
    (c.cell_time.ensures ∙ ap cell_time cell)
    (c.cell_used.ensures ∙ ap cell_used cell) (c.cell_last.ensures ∙ ap cell_last cell)
    (c.copy_field.ensures ∙ ap₂ resized refl (ap cell_field cell)) c.copy_field.auto.out
    (omega arith) c.requires.0 c.requires.1 c.requires.2 c.requires.3

pub returns : goal.returns
returns c =
    reading_all _ _ c.requires.4 c.requires.5 _ c.loop-i.i _ c.loop-i.invariant (omega arith)

pub bounds-times-i : goal.bounds-times-i
bounds-times-i c = within c.loop-i.invariant.times _ (omega arith)

pub bounds-lens-i : goal.bounds-lens-i
bounds-lens-i c = within c.loop-i.invariant.lens _ (omega arith)

pub bounds-copies-i : goal.bounds-copies-i
bounds-copies-i c = within c.loop-i.invariant.copies _ (omega arith)

pub slice_bounds-copy_field-end : goal.slice_bounds-copy_field-end
slice_bounds-copy_field-end c = within c.loop-i.invariant.bytes _ (omega arith)

pub shape_of-times : goal.shape_of-times
shape_of-times c = begun_length c.loop-i.invariant.times

pub shape_of-lens : goal.shape_of-lens
shape_of-lens c = begun_length c.loop-i.invariant.lens

pub shape_of-bytes : goal.shape_of-bytes
shape_of-bytes c = begun_length c.loop-i.invariant.bytes

pub shape_of-copies : goal.shape_of-copies
shape_of-copies c = begun_length c.loop-i.invariant.copies
