-- `text_rows::put_digits` meets its contract: the digits of eight bytes are a part of the digits of all.
use Rattle.text_rows.proofs.Pasted.{digits-put}
use Rattle.text_rows.proofs.put_digits.Goals as goal

pub returns : goal.returns
returns c =
    digits-put c.requires.0
    c.digits_of-d.ensures c.copy_part.ensures
