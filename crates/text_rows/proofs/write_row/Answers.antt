-- `text_rows::write_row` meets its contract: the four parts, one after the other.
use native.Mathlib.Omega.{arith}
use Rattle.text_rows.specs.Text.{row_behind}
use Rattle.base_buffers.proofs.Stores.{loosened, then}
use Rattle.text_rows.proofs.write_row.Goals as goal

pub returns : goal.returns
unfolding row_behind
returns c =
    loosened (then (then (then c.write-a.ensures c.write-b.ensures) c.write_answer-c.ensures)
    c.write.ensures)
    (omega arith)
