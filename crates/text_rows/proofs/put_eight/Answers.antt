-- `text_rows::put_eight` meets its contract: copied to an array, and from there.
use Rattle.text_rows.proofs.Pasted.{through}
use Rattle.text_rows.proofs.put_eight.Goals as goal

pub returns : goal.returns
returns c =
    through c.copy_part.ensures c.copy_part-2.ensures
