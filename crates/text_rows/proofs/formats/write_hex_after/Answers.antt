-- `text_rows::formats::write_hex_after` meets its contract: the name, and then the digits.
use Rattle.base_buffers.proofs.Stores.{then}
use Rattle.text_rows.proofs.formats.write_hex_after.Goals as goal

pub returns : goal.returns
returns c =
    then c.write-from.ensures c.write_hex.ensures
