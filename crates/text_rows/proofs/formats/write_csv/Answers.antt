-- `text_rows::formats::write_csv` meets its contract: the parts, one after the other.
use native.Mathlib.Omega.{arith}
use Rattle.text_rows.specs.Formats.{csv_row}
use Rattle.base_buffers.proofs.Stores.{loosened, then}
use Rattle.text_rows.proofs.formats.write_csv.Goals as goal

pub returns : goal.returns
unfolding csv_row
returns c =
    loosened
    (then
    (then
    (then (then (then c.write-a.ensures c.write_csv_answer-b.ensures) c.write_hex_after-c.ensures)
    c.write_hex_after-d.ensures)
    c.write_csv_source-e.ensures)
    c.write.ensures)
    (omega arith)
