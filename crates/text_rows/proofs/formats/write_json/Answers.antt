-- `text_rows::formats::write_json` meets its contract: the parts, one after the other.
use native.Mathlib.Omega.{arith}
use Rattle.text_rows.specs.Formats.{json_row}
use Rattle.base_buffers.proofs.Stores.{loosened, then}
use Rattle.text_rows.proofs.formats.write_json.Goals as goal

pub returns : goal.returns
unfolding json_row
returns c =
    loosened
    (then
    (then
    (then
    (then (then (then c.write-a.ensures c.write-b.ensures) c.write_json_answer-c.ensures)
    c.write_hex_after-d.ensures)
    c.write_json_send-e.ensures)
    c.write_json_source-f.ensures)
    c.write.ensures)
    (omega arith)
