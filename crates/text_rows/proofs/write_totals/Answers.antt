-- `text_rows::write_totals` meets its contract: the six counts and the line's end, one after the other.
use native.Mathlib.Omega.{arith}
use Rattle.text_rows.specs.Text.{totals_text}
use Rattle.base_buffers.proofs.Stores.{loosened, then}
use Rattle.text_rows.proofs.write_totals.Goals as goal

pub write-requires : goal.write-requires
write-requires c =
    omega (
      arith,
      c.write_count-a.ensures.short,
      c.write_count-b.ensures.short,
      c.write_count-c.ensures.short,
      c.write_count-d.ensures.short,
      c.write_count-e.ensures.short,
      c.write_count-f.ensures.short,
      c.write_count-a.auto.out,
      c.write_count-b.auto.out,
      c.write_count-c.auto.out,
      c.write_count-d.auto.out,
      c.write_count-e.auto.out,
      c.write_count-f.auto.out,
      c.requires,
    )

pub shape_of-out : goal.shape_of-out
shape_of-out c =
    omega (
      arith,
      c.write_count-a.auto.out,
      c.write_count-b.auto.out,
      c.write_count-c.auto.out,
      c.write_count-d.auto.out,
      c.write_count-e.auto.out,
      c.write_count-f.auto.out,
      c.write.auto.out,
    )

pub returns : goal.returns
unfolding totals_text
returns c =
    loosened
    (then
    (then
    (then
    (then
    (then (then c.write_count-a.ensures c.write_count-b.ensures) c.write_count-c.ensures)
    c.write_count-d.ensures)
    c.write_count-e.ensures)
    c.write_count-f.ensures)
    c.write.ensures)
    (omega arith)
